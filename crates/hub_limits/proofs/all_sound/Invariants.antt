-- What the loops of `hub_limits::all_sound` keep.
use mathlib.Core.Path.{◌≡◌}
use mathlib.Core.Bool.{true}
use Prim.Native.Nat.{◌≤◌}
use Rattle.integers.specs.Table.{all_below}
use Rattle.theory_hub.specs.Hub.{hub_points, others, sound}
use Rattle.hub_weights.specs.Weights.{weights_in}
use Rattle.hub_limits.specs.Loops.{others_before, from_hub}
use Rattle.hub_limits.proofs.all_sound.Given as goal

-- `hub_limits::all_sound` meets its contract. The invariant: the points before p pass.
abbrev pub invariant-loop-p : goal.invariant-loop-p
invariant-loop-p l = (hub_points ≤ l.p) × (others_before l.p ≤ others l.n) × (all_below (others_before l.p) (from_hub (sound (weights_in l.n l.weights))) ≡ true)
