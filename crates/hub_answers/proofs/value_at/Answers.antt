-- `hub_answers::value_at` meets its contract.
use mathlib.Core.Path.{◌≡◌, ap, ◌∙◌}
use mathlib.Core.List.{List}
use Prim.Native.Nat.{ℕ, ◌+◌, ◌*◌, ◌<◌}
use native.Mathlib.Omega.{arith}
use lib.IntN.{ℤ}
use mir.Syntax.{w64}
use mir.Val.{to_z, of_z}
use mir.Facts.{to_z-of_z}
use Rattle.integers.specs.Integer.{Within}
use Rattle.integers.proofs.Bits.{kept}
use Rattle.theory_hub.specs.Hub.{Weights, cap, hub_value}
use Rattle.decide_rows.specs.Stored.{stored}
use Rattle.decide_rows.specs.Read.{distance_of, short_more}
use Rattle.hub_weights.specs.Weights.{weights_in}
use Rattle.hub_limits.specs.Ready.{max_hub}
use Rattle.hub_limits.specs.Sizes.{value_within, cap_short, cap_back}
use Rattle.hub_answers.specs.Written.{model_hub, model_other}
use Rattle.hub_answers.proofs.value_at.Goals.{After-cap_at-low, Start}
use Rattle.hub_answers.proofs.value_at.Goals as goal

module _ (s : Start) where
  abbrev n : ℕ
  n = s.args.n

  abbrev w : List ℤ
  w = s.args.weights.now

  abbrev W : Weights
  W = weights_in n w

  abbrev x : ℕ
  x = s.args.x

  -- the hub's value, as it is passed on
  value_is : to_z w64 (of_z w64 s.args.v) ≡ hub_value n W
  value_is = to_z-of_z s.ranges.v ∙ s.requires.0.hub

  hub_within : Within max_hub (hub_value n W)
  hub_within = value_within n w s.requires.0.weights s.requires.0.some_variable

pub returns-then-x-eq0 : goal.returns-then-x-eq0
returns-then-x-eq0 c = value_is (goal.at.returns-then-x-eq0 c).Start ∙ model_hub (n (goal.at.returns-then-x-eq0 c).Start) (W (goal.at.returns-then-x-eq0 c).Start) (x (goal.at.returns-then-x-eq0 c).Start) c.if-x-eq0.true

pub overflow_mul-x : goal.overflow_mul-x
overflow_mul-x c = record { fits = omega (arith, c.requires.0.weights.few, c.requires.1) }

pub cap_at-up-requires : goal.cap_at-up-requires
cap_at-up-requires c = rw (value_is (goal.at.cap_at-up-requires c).Start) (c.requires.0.weights, hub_within (goal.at.cap_at-up-requires c).Start, omega (arith, c.requires.1))

pub overflow_mul-x-2 : goal.overflow_mul-x-2
overflow_mul-x-2 c = record { fits = omega (arith, c.requires.0.weights.few, c.requires.1) }

pub overflow_add-x : goal.overflow_add-x
overflow_add-x c = record { fits = omega (arith, c.requires.0.weights.few, c.requires.1) }

pub cap_at-low-requires : goal.cap_at-low-requires
cap_at-low-requires c = rw (value_is (goal.at.cap_at-low-requires c).Start) (c.requires.0.weights, hub_within (goal.at.cap_at-low-requires c).Start, omega (arith, c.requires.1))

-- the greatest values of both points
module _ (c : After-cap_at-low) where
  up_back : distance_of (to_z w64 (of_z w64 c.cap_at-up.result)) ≡ cap (W (goal.at.After-cap_at-low c).Start) (hub_value (n (goal.at.After-cap_at-low c).Start) (W (goal.at.After-cap_at-low c).Start)) (2 * x (goal.at.After-cap_at-low c).Start)
  up_back =
      cap_back (n (goal.at.After-cap_at-low c).Start) (w (goal.at.After-cap_at-low c).Start) c.requires.0.weights (hub_value (n (goal.at.After-cap_at-low c).Start) (W (goal.at.After-cap_at-low c).Start)) (2 * x (goal.at.After-cap_at-low c).Start) (hub_within (goal.at.After-cap_at-low c).Start) (omega (arith, c.requires.1)) _
      (kept w64 c.cap_at-up.result c.cap_at-up.type_inv ∙ c.cap_at-up.ensures ∙ ap (λ (v : ℤ). stored (cap (W (goal.at.After-cap_at-low c).Start) v (2 * x (goal.at.After-cap_at-low c).Start))) (value_is (goal.at.After-cap_at-low c).Start))

  low_lt : 2 * x (goal.at.After-cap_at-low c).Start + 1 < 2 * n (goal.at.After-cap_at-low c).Start
  low_lt = omega (arith, c.requires.1)

  low_back : distance_of (to_z w64 (of_z w64 c.cap_at-low.result)) ≡ cap (W (goal.at.After-cap_at-low c).Start) (hub_value (n (goal.at.After-cap_at-low c).Start) (W (goal.at.After-cap_at-low c).Start)) (2 * x (goal.at.After-cap_at-low c).Start + 1)
  low_back =
      cap_back (n (goal.at.After-cap_at-low c).Start) (w (goal.at.After-cap_at-low c).Start) c.requires.0.weights (hub_value (n (goal.at.After-cap_at-low c).Start) (W (goal.at.After-cap_at-low c).Start)) (2 * x (goal.at.After-cap_at-low c).Start + 1) (hub_within (goal.at.After-cap_at-low c).Start) low_lt _
      (kept w64 c.cap_at-low.result c.cap_at-low.type_inv ∙ c.cap_at-low.ensures ∙ ap (λ (v : ℤ). stored (cap (W (goal.at.After-cap_at-low c).Start) v (2 * x (goal.at.After-cap_at-low c).Start + 1))) (value_is (goal.at.After-cap_at-low c).Start))

pub nearest_value-requires : goal.nearest_value-requires
nearest_value-requires c =
    rw (low_back c) (short_more (omega arith) (cap_short (n (goal.at.nearest_value-requires c).Start) (w (goal.at.nearest_value-requires c).Start) c.requires.0.weights (hub_value (n (goal.at.nearest_value-requires c).Start) (W (goal.at.nearest_value-requires c).Start)) (2 * x (goal.at.nearest_value-requires c).Start + 1) (hub_within (goal.at.nearest_value-requires c).Start) (low_lt c)))

pub returns : goal.returns
returns c =
    kept w64 c.nearest_value.result c.nearest_value.type_inv
    ∙ c.nearest_value.ensures
    ∙ model_other (n (goal.at.returns c).Start) (W (goal.at.returns c).Start) (x (goal.at.returns c).Start) _ _ c.if-x-eq0.false (up_back (goal.at.returns c).After-cap_at-low) (low_back (goal.at.returns c).After-cap_at-low)
