-- What the loops of `engine_closed_walk::follow_back` keep.
use mathlib.Core.Path.{◌≡◌}
use lib.ListN.{length}
use Rattle.engine_closed_walk.specs.Follow.{Following}
use Rattle.engine_closed_walk.proofs.follow_back.Given as goal

-- `engine_closed_walk::follow_back` meets its contract. The invariant: the numbers from the slot on name a walk from `at` to v.
abbrev pub invariant-loop-slot : goal.invariant-loop-slot
invariant-loop-slot l = (length l.work ≡ length l.initial.work) × Following l.n l.list l.initial.work l.v l.end l.work l.slot l.at l.sum
