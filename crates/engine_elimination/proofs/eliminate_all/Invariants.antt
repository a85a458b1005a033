-- What the loops of `engine_elimination::eliminate_all` keep.
use mathlib.Core.Path.{◌≡◌}
use Prim.Native.Nat.{◌-◌}
use lib.ListN.{length}
use Rattle.engine_reduced_table.specs.Reduced.{Kept}
use Rattle.engine_elimination.proofs.eliminate_all.Given as goal

-- `engine_elimination::eliminate_all` meets its contract: the table is kept from turn to turn.
abbrev pub invariant-loop-v : goal.invariant-loop-v
invariant-loop-v l = (length l.work ≡ length l.initial.work) × Kept l.count l.pot l.size l.initial.work l.work
