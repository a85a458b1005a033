-- What the loops of `session_step::find_columns` keep.
use mathlib.Core.Path.{◌≡◌}
use Prim.Native.Nat.{◌*◌, ◌≤◌}
use lib.ListN.{length}
use Rattle.session_step.specs.Read.{small_table}
use Rattle.session_step.specs.Columns.{Collected}
use Rattle.session_step.proofs.find_columns.Given as goal

-- `session_step::find_columns` meets its contract. The invariant: the points below u are gone through.
abbrev pub invariant-loop-u : goal.invariant-loop-u
invariant-loop-u l =
    (l.u ≤ l.count)
    × (l.found ≤ l.u)
    × (length l.columns ≡ length l.initial.columns)
    × (length l.sums ≡ length l.initial.sums)
    × Collected (small_table (2 * l.n) l.table) l.step l.initial.columns l.initial.sums l.u l.columns l.sums l.found
