-- What the loops of `differences_table::finish` keep.
use Rattle.differences_table.specs.Finished.{Finished}
use Rattle.differences_table.proofs.finish.Given as goal

-- The rows before v are distances, and the others are as they were.
abbrev pub invariant-loop-v : goal.invariant-loop-v
invariant-loop-v l = Finished l.n l.initial.work l.work l.v
