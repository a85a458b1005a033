-- What the loops of `engine_reduced_start::fill_far` keep.
use mathlib.Core.Path.{◌≡◌}
use lib.ListN.{length}
use Rattle.engine_reduced_start.specs.Start.{AllFar}
use Rattle.engine_reduced_start.proofs.fill_far.Given as goal

-- `engine_reduced_start::fill_far` meets its contract.
abbrev pub invariant-loop-k : goal.invariant-loop-k
invariant-loop-k l = (length l.work ≡ length l.initial.work) × AllFar l.pot l.size l.initial.work l.work l.k
