-- `hub_limits::cap_at` meets its contract.
use mathlib.Core.Path.{◌≡◌, ap, ap₂, ◌∙◌}
use Prim.Native.Nat.{ℕ}
use native.Mathlib.Omega.{arith}
use lib.IntN.{ℤ, pos, neg_ℤ, ◌-ℤ◌}
use mir.Syntax.{w64}
use mir.Val.{to_z, of_z}
use mir.Facts.{to_z-of_z}
use Rattle.steps.specs.Step.{max_weight}
use Rattle.theory_walks.specs.Distance.{Distance, some, min_d}
use Rattle.theory_hub.specs.Hub.{Weights, own}
use Rattle.decide_rows.specs.Stored.{stored}
use Rattle.decide_stored_table.specs.Sum.{minus_is}
use Rattle.decide_model.specs.Limit.{minus_within}
use Rattle.hub_weights.specs.Weights.{weights_in}
use Rattle.hub_limits.specs.Ready.{max_hub}
use Rattle.hub_limits.specs.Stands.{Stands, stands_more, stands_number, add_number, sum_ready, stands_result, stands_sum, stands_min}
use Rattle.hub_limits.specs.Sizes.{minus_fits, own_short}
use Rattle.hub_limits.proofs.cap_at.Goals.{After-weight_at, After-weight_at-2, Start}
use Rattle.hub_limits.proofs.cap_at.Goals as goal

module _ (s : Start) where
  abbrev W : Weights
  W = weights_in s.args.n s.args.weights.now

  abbrev v : ℤ
  v = s.args.v

  abbrev p : ℕ
  p = s.args.p

  -- the hub's value and its opposite, as the code passes them on
  value_is : to_z w64 (of_z w64 v) ≡ v
  value_is = to_z-of_z s.ranges.v

  value : Stands max_hub (some v) (to_z w64 (of_z w64 v))
  value = rw value_is (stands_number max_hub v s.requires.1)

  opposite_is : to_z w64 (of_z w64 (pos 0 -ℤ to_z w64 (of_z w64 v))) ≡ neg_ℤ v
  opposite_is = ap (λ (z : ℤ). to_z w64 (of_z w64 (pos 0 -ℤ z))) value_is ∙ ap (λ (z : ℤ). to_z w64 (of_z w64 z)) (minus_is v) ∙ to_z-of_z (minus_fits v s.requires.1)

  opposite_value : Stands max_hub (some (neg_ℤ v)) (to_z w64 (of_z w64 (pos 0 -ℤ to_z w64 (of_z w64 v))))
  opposite_value = rw opposite_is (stands_number max_hub (neg_ℤ v) (minus_within max_hub v s.requires.1))

-- the weights
plus : (c : After-weight_at) → Stands max_weight (W (goal.at.After-weight_at c).Start 0 (p (goal.at.After-weight_at c).Start)) (to_z w64 (of_z w64 c.weight_at.result))
plus c =
    stands_result c.weight_at.result c.weight_at.type_inv c.weight_at.ensures (c.requires.0.short 0 (p (goal.at.After-weight_at c).Start) (omega arith) c.requires.2)

module _ (c : After-weight_at-2) where
  minus : Stands max_weight (W (goal.at.After-weight_at-2 c).Start 1 (p (goal.at.After-weight_at-2 c).Start)) (to_z w64 (of_z w64 c.weight_at-2.result))
  minus = stands_result c.weight_at-2.result c.weight_at-2.type_inv c.weight_at-2.ensures (c.requires.0.short 1 (p (goal.at.After-weight_at-2 c).Start) (omega arith) c.requires.2)

pub sum-plus-requires : goal.sum-plus-requires
sum-plus-requires c = sum_ready (omega arith) (omega arith) (plus c) (value (goal.at.sum-plus-requires c).Start)

pub overflow_sub-v : goal.overflow_sub-v
overflow_sub-v c = rw (value_is (goal.at.overflow_sub-v c).Start, minus_is) (minus_fits (v (goal.at.overflow_sub-v c).Start) c.requires.1)

pub sum-minus-requires : goal.sum-minus-requires
sum-minus-requires c = sum_ready (omega arith) (omega arith) (minus c) (opposite_value (goal.at.sum-minus-requires c).Start)

pub returns : goal.returns
returns c =
    let by_plus = stands_sum c.sum-plus.result c.sum-plus.type_inv (omega arith) (omega arith) (plus (goal.at.returns c).After-weight_at) (value (goal.at.returns c).Start) c.sum-plus.ensures in
    let by_minus = stands_sum c.sum-minus.result c.sum-minus.type_inv (omega arith) (omega arith) (minus (goal.at.returns c).After-weight_at-2) (opposite_value (goal.at.returns c).Start) c.sum-minus.ensures in
    let by-hub = stands_min c.smaller.result c.smaller.type_inv (omega arith) by_plus by_minus c.smaller.ensures in
    let alone = stands_result c.own_at.result c.own_at.type_inv c.own_at.ensures (own_short c.args.n c.args.weights.now c.requires.0 (p (goal.at.returns c).Start) c.requires.2) in
    (stands_min c.smaller-2.result c.smaller-2.type_inv (omega arith) (stands_more (omega arith) alone) by-hub c.smaller-2.ensures).is
    ∙ ap₂ (λ (x y : Distance). stored (min_d (own (W (goal.at.returns c).Start) (p (goal.at.returns c).Start)) (min_d x y))) (add_number (W (goal.at.returns c).Start 0 (p (goal.at.returns c).Start)) (v (goal.at.returns c).Start)) (add_number (W (goal.at.returns c).Start 1 (p (goal.at.returns c).Start)) (neg_ℤ (v (goal.at.returns c).Start)))
