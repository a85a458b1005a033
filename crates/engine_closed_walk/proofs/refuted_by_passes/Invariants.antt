-- What the loops of `engine_closed_walk::refuted_by_passes` keep.
use mathlib.Core.Path.{◌≡◌}
use lib.ListN.{length}
use Rattle.engine_closed_walk.specs.AtOnce.{OnTheWay}
use Rattle.engine_closed_walk.proofs.refuted_by_passes.Given as goal

-- `engine_closed_walk::refuted_by_passes` meets its contract. The invariant: the row is small, and nothing is written to the refutation.
abbrev pub invariant-loop-turn : goal.invariant-loop-turn
invariant-loop-turn l = (length l.refutation ≡ length l.initial.refutation) × (length l.work ≡ length l.initial.work) × (l.refutation ≡ l.initial.refutation) × OnTheWay l.n l.initial.work l.work
