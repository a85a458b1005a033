-- What the loops of `engine_restoring::restore` keep.
use mathlib.Core.Path.{◌≡◌}
use Prim.Native.Nat.{◌<◌}
use lib.ListN.{length}
use Rattle.engine_reduced_table.specs.Reduced.{Kept}
use Rattle.engine_restoring.proofs.restore.Given as goal

-- `engine_restoring::restore` meets its contract.
abbrev pub invariant-loop-j : goal.invariant-loop-j
invariant-loop-j l = (length l.work ≡ length l.initial.work) × Kept l.count l.pot l.size l.initial.work l.work × (l.o < l.size)
