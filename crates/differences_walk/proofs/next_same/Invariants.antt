-- What the loops of `differences_walk::next_same` keep.
use Rattle.differences_walk.specs.Again.{NoneBetween}
use Rattle.differences_walk.proofs.next_same.Given as goal

-- The number of i stands at no place between i and j.
abbrev pub invariant-loop-j : goal.invariant-loop-j
invariant-loop-j l = NoneBetween l.numbers l.i l.j
