-- What the loops of `differences_walk::met_again` keep.
use Rattle.differences_walk.specs.Again.{NoneTwice}
use Rattle.differences_walk.proofs.met_again.Given as goal

-- No number at a place before i stands again.
abbrev pub invariant-loop-i : goal.invariant-loop-i
invariant-loop-i l = NoneTwice l.numbers l.i
