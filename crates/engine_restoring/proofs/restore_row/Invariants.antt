-- What the loops of `engine_restoring::restore_row` keep.
use mathlib.Core.Path.{◌≡◌}
use lib.ListN.{length}
use Rattle.engine_reduced_table.specs.Reduced.{Kept}
use Rattle.engine_restoring.proofs.restore_row.Given as goal

-- `engine_restoring::restore_row` meets its contract.
abbrev pub invariant-loop-j : goal.invariant-loop-j
invariant-loop-j l = (length l.work ≡ length l.initial.work) × Kept l.count l.pot l.size l.initial.work l.work
