-- What the loops of `differences_search::double_row` keep.
use Rattle.differences_search.specs.Double.{Doubled}
use Rattle.differences_search.proofs.double_row.Given as goal

-- The first i numbers are written.
abbrev pub invariant-loop-i : goal.invariant-loop-i
invariant-loop-i l = Doubled l.from l.to l.n l.initial.work l.work l.i
