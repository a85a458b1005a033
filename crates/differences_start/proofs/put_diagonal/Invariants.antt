-- What the loops of `differences_start::put_diagonal` keep.
use Rattle.differences_start.specs.Start.{Diagonal}
use Rattle.differences_start.proofs.put_diagonal.Given as goal

-- The first i numbers of the diagonal are 0.
abbrev pub invariant-loop-i : goal.invariant-loop-i
invariant-loop-i l = Diagonal l.n l.initial.work l.work l.i
