-- What the loops of `differences_rows::first_changed` keep.
use mathlib.Core.Bool.{not}
use Rattle.integers.specs.Lowest.{Searched}
use Rattle.decide_rows.specs.Next.{same_at}
use Rattle.differences_rows.proofs.first_changed.Given as goal

-- The two rows agree at the first i places.
abbrev pub invariant-loop-i : goal.invariant-loop-i
invariant-loop-i l = Searched (λ j. not (same_at l.size l.rows j)) l.size l.i
