-- What the loops of `engine_elimination::eliminate` keep.
use mathlib.Core.Path.{◌≡◌}
use Prim.Native.Nat.{◌-◌}
use lib.ListN.{length}
use Rattle.engine_reduced_table.specs.Reduced.{Kept}
use Rattle.engine_elimination.proofs.eliminate.Given as goal

-- `engine_elimination::eliminate` meets its contract.
abbrev pub invariant-loop-i : goal.invariant-loop-i
invariant-loop-i l = (length l.work ≡ length l.initial.work) × Kept l.count l.pot l.size l.initial.work l.work
