-- What the loops of `engine_reduced_start::put_diagonal` keep.
use mathlib.Core.Path.{◌≡◌}
use lib.ListN.{length}
use Rattle.engine_reduced_table.specs.Reduced.{Kept}
use Rattle.engine_reduced_start.proofs.put_diagonal.Given as goal

-- `engine_reduced_start::put_diagonal` meets its contract.
abbrev pub invariant-loop-t : goal.invariant-loop-t
invariant-loop-t l = (length l.work ≡ length l.initial.work) × Kept l.count l.pot l.size l.initial.work l.work
