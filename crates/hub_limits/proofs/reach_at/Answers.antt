-- `hub_limits::reach_at` meets its contract.
use Prim.Native.Nat.{ℕ}
use native.Mathlib.Omega.{arith}
use mir.Syntax.{w64}
use mir.Val.{to_z, of_z}
use mir.Facts.{to_z-of_z}
use Rattle.steps.specs.Step.{max_weight}
use Rattle.theory_hub.specs.Hub.{Weights}
use Rattle.decide_rows.specs.Read.{distance_of}
use Rattle.hub_weights.specs.Weights.{weights_in}
use Rattle.hub_limits.specs.Ready.{max_hub}
use Rattle.hub_limits.specs.Stands.{Stands, stands_more, stands_given, sum_ready, stands_result, stands_half, stands_sum, stands_min}
use Rattle.hub_limits.specs.Sizes.{own_short}
use Rattle.hub_limits.proofs.reach_at.Goals.{After-weight_at-minus, Start}
use Rattle.hub_limits.proofs.reach_at.Goals as goal

module _ (s : Start) where
  abbrev W : Weights
  W = weights_in s.args.n s.args.weights.now

  abbrev p : ℕ
  p = s.args.p

  limit_a : Stands max_hub (distance_of s.args.a) (to_z w64 (of_z w64 s.args.a))
  limit_a = rw (to_z-of_z s.ranges.a) (stands_given max_hub s.args.a s.requires.1)

  limit_b : Stands max_hub (distance_of s.args.b) (to_z w64 (of_z w64 s.args.b))
  limit_b = rw (to_z-of_z s.ranges.b) (stands_given max_hub s.args.b s.requires.2)

-- the weights
module _ (c : After-weight_at-minus) where
  plus : Stands max_weight (W (goal.at.After-weight_at-minus c).Start 0 (p (goal.at.After-weight_at-minus c).Start)) (to_z w64 (of_z w64 c.weight_at-plus.result))
  plus = stands_result c.weight_at-plus.result c.weight_at-plus.type_inv c.weight_at-plus.ensures (c.requires.0.short 0 (p (goal.at.After-weight_at-minus c).Start) (omega arith) c.requires.3)

  minus : Stands max_weight (W (goal.at.After-weight_at-minus c).Start 1 (p (goal.at.After-weight_at-minus c).Start)) (to_z w64 (of_z w64 c.weight_at-minus.result))
  minus = stands_result c.weight_at-minus.result c.weight_at-minus.type_inv c.weight_at-minus.ensures (c.requires.0.short 1 (p (goal.at.After-weight_at-minus c).Start) (omega arith) c.requires.3)

pub sum-requires : goal.sum-requires
sum-requires c = sum_ready (omega arith) (omega arith) (plus c) (minus c)

pub sum-requires-2 : goal.sum-requires-2
sum-requires-2 c =
    sum_ready (omega arith) (omega arith) (minus (goal.at.sum-requires-2 c).After-weight_at-minus) (limit_b (goal.at.sum-requires-2 c).Start)

pub sum-requires-3 : goal.sum-requires-3
sum-requires-3 c =
    sum_ready (omega arith) (omega arith) (plus (goal.at.sum-requires-3 c).After-weight_at-minus) (limit_a (goal.at.sum-requires-3 c).Start)

pub returns : goal.returns
returns c =
    let two = stands_sum c.sum.result c.sum.type_inv (omega arith) (omega arith) (plus (goal.at.returns c).After-weight_at-minus) (minus (goal.at.returns c).After-weight_at-minus) c.sum.ensures in
    let both = stands_half c.halved_distance-both.result c.halved_distance-both.type_inv (omega arith) two c.halved_distance-both.ensures in
    let with-b = stands_sum c.sum-2.result c.sum-2.type_inv (omega arith) (omega arith) (minus (goal.at.returns c).After-weight_at-minus) (limit_b (goal.at.returns c).Start) c.sum-2.ensures in
    let by_minus = stands_min c.smaller-by_minus.result c.smaller-by_minus.type_inv (omega arith) with-b (stands_more (omega arith) both) c.smaller-by_minus.ensures in
    let with-a = stands_sum c.sum-3.result c.sum-3.type_inv (omega arith) (omega arith) (plus (goal.at.returns c).After-weight_at-minus) (limit_a (goal.at.returns c).Start) c.sum-3.ensures in
    let by-hub = stands_min c.smaller-by_hub.result c.smaller-by_hub.type_inv (omega arith) with-a by_minus c.smaller-by_hub.ensures in
    let alone = stands_result c.own_at.result c.own_at.type_inv c.own_at.ensures (own_short c.args.n c.args.weights.now c.requires.0 (p (goal.at.returns c).Start) c.requires.3) in
    (stands_min c.smaller.result c.smaller.type_inv (omega arith) (stands_more (omega arith) alone) by-hub c.smaller.ensures).is
