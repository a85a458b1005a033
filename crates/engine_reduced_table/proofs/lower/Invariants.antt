-- What the loops of `engine_reduced_table::lower` keep.
use mathlib.Core.Path.{◌≡◌}
use Prim.Native.Nat.{◌-◌}
use lib.ListN.{length}
use Rattle.engine_reduced_table.specs.Reduced.{Kept}
use Rattle.engine_reduced_table.proofs.lower.Given as goal

-- `engine_reduced_table::lower` meets its contract: each number stored is an entry.
abbrev pub invariant-loop-t : goal.invariant-loop-t
invariant-loop-t l = (length l.work ≡ length l.initial.work) × Kept l.count l.pot l.size l.initial.work l.work
