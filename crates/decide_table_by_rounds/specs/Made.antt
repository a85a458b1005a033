-- What making the table leaves: the whole table where no closed walk has a negative sum, else a point that is on such a walk.
use Rattle.std.specs.Prelude.{◌≡◌, true, false, List, ℕ, ◌+◌, ◌*◌, ◌<◌, ◌≤◌, ℤ, length, take, drop}
use Rattle.steps.specs.declared.Step.{Step}
use Rattle.theory_walks.specs.Row.{best}
use Rattle.theory_walks.specs.Negative.{not_below0, no_negative}
use Rattle.decide_rows.specs.Table.{stored_table, table_start}

-- r is the point, or m. With a point, rows and table may hold anything
pub record TableMade (E : List Step) (m : ℕ) (w w' : List ℤ) (r : ℕ) : Type 0 where
  pub within : r ≤ m
  pub negative : r < m → not_below0 (best E m r r) ≡ false
  pub clear : r ≡ m → no_negative E m ≡ true
  pub table : r ≡ m → take (m * m) (drop (table_start m) w') ≡ stored_table E m m
  pub same_length : length w' ≡ length w
  pub behind : drop (table_start m + m * m) w' ≡ drop (table_start m + m * m) w
