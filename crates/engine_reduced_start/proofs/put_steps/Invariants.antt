-- What the loops of `engine_reduced_start::put_steps` keep.
use mathlib.Core.Path.{◌≡◌}
use lib.ListN.{length}
use Rattle.engine_reduced_table.specs.Reduced.{Kept}
use Rattle.engine_reduced_start.proofs.put_steps.Given as goal

-- `engine_reduced_start::put_steps` meets its contract.
abbrev pub invariant-loop-i : goal.invariant-loop-i
invariant-loop-i l = (length l.work ≡ length l.initial.work) × Kept l.count l.pot l.size l.initial.work l.work
