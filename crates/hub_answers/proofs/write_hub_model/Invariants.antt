-- What the loops of `hub_answers::write_hub_model` keep.
use mathlib.Core.Path.{◌≡◌}
use Prim.Native.Nat.{◌≤◌}
use lib.ListN.{length}
use Rattle.integers.specs.Fill.{filled}
use Rattle.theory_hub.specs.Hub.{hub_model}
use Rattle.hub_weights.specs.Weights.{weights_in}
use Rattle.hub_answers.proofs.write_hub_model.Given as goal

-- `hub_answers::write_hub_model` meets its contract. The invariant: the first x values are written.
abbrev pub invariant-loop-x : goal.invariant-loop-x
invariant-loop-x l = (l.x ≤ l.n) × (length l.model ≡ length l.initial.model) × (l.model ≡ filled (hub_model l.n (weights_in l.n l.weights)) l.initial.model l.x)
