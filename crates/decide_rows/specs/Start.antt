-- The start row of a source, as it is written.
use Rattle.std.specs.Prelude.{◌≡◌, List, ◌++◌, ℕ, ◌<◌, ℤ, pos, set, replicate, drop}
use Rattle.std.proofs.Common.{sym, ap, ◌∙◌}
use Rattle.std.proofs.lemmas.List.{length-replicate, set-append_left}
use Rattle.theory_walks.specs.Distance.{none, some}
use Rattle.theory_walks.specs.Row.{start_row_lem}
use Rattle.decide_rows.specs.Stored.{stored_row}
use Rattle.decide_rows.specs.Read.{no_walk_lem, stored_set, stored_replicate}

start_stored : (m u : ℕ) → stored_row (start_row_lem m u) ≡ set (replicate m no_walk_lem) u (pos 0)
unfolding start_row_lem
start_stored m u = stored_set (replicate m none) u (some (pos 0)) ∙ ap (λ (l : List ℤ). set l u (pos 0)) (stored_replicate m none)

-- no walk to any point, then 0 at the source
pub start_written : (m u : ℕ) (w : List ℤ) → u < m → set (replicate m no_walk_lem ++ drop m w) u (pos 0) ≡ stored_row (start_row_lem m u) ++ drop m w
start_written m u w h =
    set-append_left (replicate m no_walk_lem) (drop m w) u (pos 0) (rw length-replicate h)
    ∙ ap (λ (x : List ℤ). x ++ drop m w) (sym (start_stored m u))
