-- What is asked of a table and of three lent lists before the answers are written to them.
use Rattle.std.specs.Prelude.{List, ℕ, ◌*◌, ◌<◌, ◌≤◌, ℤ, length}
use Rattle.integers.specs.Integer.{Within}
use Rattle.theory_bounds.specs.Table.{ClosedTable, table_model}
use Rattle.decide_stored_table.specs.Table.{table_of, ShortTable}
use Rattle.decide_model.specs.Limit.{max_model}

pub record AnswersReady (n : ℕ) (t model bounds : List ℤ) (groups : List ℕ) : Type 0 where
  pub table : ShortTable n t
  pub closed : ClosedTable n (table_of (2 * n) t)
  pub small : (k : ℕ) → k < n → Within max_model (table_model n (table_of (2 * n) t) k)
  pub model_room : n ≤ length model
  pub bounds_room : 2 * n ≤ length bounds
  pub groups_room : 2 * n ≤ length groups
