-- What the loops of `hub_answers::write_hub_bounds` keep.
use mathlib.Core.Path.{◌≡◌}
use Prim.Native.Nat.{◌≤◌}
use lib.ListN.{length}
use Rattle.integers.specs.Fill.{filled}
use Rattle.theory_hub.specs.Hub.{hub_bound_lem}
use Rattle.hub_weights.specs.Weights.{weights_in}
use Rattle.hub_answers.proofs.write_hub_bounds.Given as goal

-- `hub_answers::write_hub_bounds` meets its contract. The invariant: the first i bounds are written.
abbrev pub invariant-loop-i : goal.invariant-loop-i
invariant-loop-i l = (l.i ≤ l.count) × (length l.bounds ≡ length l.initial.bounds) × (l.bounds ≡ filled (hub_bound_lem l.n (weights_in l.n l.weights)) l.initial.bounds l.i)
