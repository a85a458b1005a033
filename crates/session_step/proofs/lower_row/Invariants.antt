-- What the loops of `session_step::lower_row` keep.
use mathlib.Core.Path.{◌≡◌}
use Prim.Native.Nat.{◌≤◌}
use lib.ListN.{length, drop}
use Rattle.session_step.specs.Lower.{lower_all}
use Rattle.session_step.proofs.lower_row.Given as goal

-- `session_step::lower_row` meets its contract. The invariant: the row, lowered in the columns from k on, is the entry's row lowered in all.
abbrev pub invariant-loop-k : goal.invariant-loop-k
invariant-loop-k l =
    (l.k ≤ l.count)
    × (length l.row ≡ length l.initial.row)
    × (lower_all l.rest (drop l.k l.columns) (drop l.k l.sums) l.row ≡ lower_all l.rest l.columns l.sums l.initial.row)
