-- What the loops of `engine_merged_steps::clear_cells` keep.
use mathlib.Core.Path.{◌≡◌}
use lib.ListN.{length}
use Rattle.engine_merged_steps.specs.Cells.{Cleared}
use Rattle.engine_merged_steps.proofs.clear_cells.Given as goal

-- `engine_merged_steps::clear_cells` meets its contract. The invariant: the cells gone through are cleared.
abbrev pub invariant-loop-c : goal.invariant-loop-c
invariant-loop-c l = (length l.work ≡ length l.initial.work) × Cleared l.start l.cells l.initial.work l.work l.c
