-- What the loops of `engine_settled_table::diagonal_settled` keep.
use Prim.Native.Nat.{◌≤◌}
use Rattle.engine_settled_table.specs.Settled.{DiagonalTo}
use Rattle.engine_settled_table.proofs.diagonal_settled.Given as goal

-- `engine_settled_table::diagonal_settled` meets its contract.
abbrev pub invariant-loop-t : goal.invariant-loop-t
invariant-loop-t l = (l.t ≤ l.size) × DiagonalTo l.pot l.size l.work l.t
