-- What is asked of the weights: they are there, and small.
use Rattle.std.specs.Prelude.{List, ℕ, ◌+◌, ◌*◌, ◌<◌, ◌≤◌, ℤ, length}
use Rattle.std.proofs.Common.{mul-le-mul_right, arith}
use Rattle.lines.specs.Limits.{max_variables}
use Rattle.steps.specs.Step.{max_weight}
use Rattle.theory_hub.specs.Hub.{weight_rows}
use Rattle.decide_rows.specs.Read.{Short}
use Rattle.hub_weights.specs.Weights.{weights_end, weights_in}

pub record WeightsShort (n : ℕ) (w : List ℤ) : Type 0 where
  pub few : n ≤ max_variables
  pub room : weights_end n ≤ length w
  pub short : (k p : ℕ) → k < weight_rows → p < 2 * n → Short max_weight (weights_in n w k p)

-- the hub's limits, and its value, lie within plus and minus this: two weights together
abbrev pub max_hub : ℕ
max_hub = 2 * max_weight

-- a weight's index is below the end, and small
pub weight_lt : (N k p : ℕ) → k < weight_rows → p < N → k * N + p < weight_rows * N
weight_lt N k p h l = omega (arith, mul-le-mul_right N h)
