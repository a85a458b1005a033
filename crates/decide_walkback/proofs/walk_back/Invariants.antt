-- What the loops of `decide_walkback::walk_back` keep.
use Rattle.decide_walkback.specs.WalkBack.{Reading}
use Rattle.decide_walkback.proofs.walk_back.Given as goal

-- What is left of the way back, and the walk that is written so far.
abbrev pub invariant-loop-k : goal.invariant-loop-k
invariant-loop-k l = Reading l.n l.list l.u l.initial.work l.top l.v l.at l.work l.k l.slot l.point
