-- What the loops of `hub_limits::hub_limit` keep.
use mathlib.Core.Path.{◌≡◌}
use Prim.Native.Nat.{◌≤◌}
use Rattle.theory_hub.specs.Hub.{hub_points, limit_by_lem}
use Rattle.decide_rows.specs.Stored.{stored}
use Rattle.hub_weights.specs.Weights.{weights_in}
use Rattle.hub_limits.specs.Loops.{others_before}
use Rattle.hub_limits.proofs.hub_limit.Given as goal

-- `hub_limits::hub_limit` meets its contract. The invariant: the limit by the points before p.
abbrev pub invariant-loop-p : goal.invariant-loop-p
invariant-loop-p l = (hub_points ≤ l.p) × (l.p ≤ l.count) × (l.limit ≡ stored (limit_by_lem (weights_in l.n l.weights) l.g (others_before l.p)))
