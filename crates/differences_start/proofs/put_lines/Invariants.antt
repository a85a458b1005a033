-- What the loops of `differences_start::put_lines` keep.
use Rattle.differences_start.specs.Start.{LinesPut}
use Rattle.differences_start.proofs.put_lines.Given as goal

-- The entries of the first k lines are put.
abbrev pub invariant-loop-k : goal.invariant-loop-k
invariant-loop-k l = LinesPut l.n l.list l.initial.work l.work l.k
