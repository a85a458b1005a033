-- What the loops of `engine_closed_walk::far_back` keep.
use Prim.Native.Nat.{◌<◌}
use Rattle.engine_closed_walk.proofs.far_back.Given as goal

-- `engine_closed_walk::far_back` meets its contract.
abbrev pub invariant-loop-k : goal.invariant-loop-k
invariant-loop-k l = l.at < l.size
