-- What the loops of `engine_merged_steps::keep_steps` keep.
use mathlib.Core.Path.{◌≡◌}
use lib.ListN.{length}
use Rattle.engine_merged_steps.specs.Keep.{Keeping}
use Rattle.engine_merged_steps.proofs.keep_steps.Given as goal

-- `engine_merged_steps::keep_steps` meets its contract. The invariant: the steps in the cells gone through are kept.
abbrev pub invariant-loop-c : goal.invariant-loop-c
invariant-loop-c l = (length l.work ≡ length l.initial.work) × Keeping l.start l.cells l.initial.work l.work l.c l.kept
