-- What the loops of `differences_walk::walk_back` keep.
use Rattle.engine_packed_steps.specs.Scratch.{Scratch}
use Rattle.differences_rows.specs.Layout.{walk_at_lem, plain_end}
use Rattle.differences_walk.specs.Reading.{Reading}
use Rattle.differences_walk.proofs.walk_back.Given as goal

-- What is left of the way back, and the walk that is written so far.
abbrev pub invariant-loop-k : goal.invariant-loop-k
invariant-loop-k l = Scratch (walk_at_lem l.n) (plain_end l.n) l.initial.work l.work × Reading l.n l.list l.top l.v l.work l.k l.p
