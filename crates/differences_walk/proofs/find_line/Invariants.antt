-- What the loops of `differences_walk::find_line` keep.
use Rattle.differences_walk.specs.Makes.{NoneBefore}
use Rattle.differences_walk.proofs.find_line.Given as goal

-- No line before k makes the value.
abbrev pub invariant-loop-k : goal.invariant-loop-k
invariant-loop-k l = NoneBefore l.list l.old l.v l.z l.k
