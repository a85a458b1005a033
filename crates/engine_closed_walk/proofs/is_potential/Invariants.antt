-- What the loops of `engine_closed_walk::is_potential` keep.
use Prim.Native.Nat.{◌≤◌}
use Rattle.engine_closed_walk.specs.Potential.{Kept}
use Rattle.engine_closed_walk.proofs.is_potential.Given as goal

-- `engine_closed_walk::is_potential` meets its contract. The invariant: no step before i lowers the row.
abbrev pub invariant-loop-i : goal.invariant-loop-i
invariant-loop-i l = (l.i ≤ l.count) × Kept l.row l.work l.i
