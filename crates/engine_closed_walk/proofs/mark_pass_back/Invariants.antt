-- What the loops of `engine_closed_walk::mark_pass_back` keep.
use mathlib.Core.Path.{◌≡◌}
use lib.ListN.{length}
use Rattle.engine_closed_walk.specs.Passes.{Passed}
use Rattle.engine_closed_walk.proofs.mark_pass_back.Given as goal

-- `engine_closed_walk::mark_pass_back` meets its contract: each step keeps what a pass asks.
abbrev pub invariant-loop-i : goal.invariant-loop-i
invariant-loop-i l = (length l.work ≡ length l.initial.work) × Passed l.row l.size l.initial.work l.work l.last
