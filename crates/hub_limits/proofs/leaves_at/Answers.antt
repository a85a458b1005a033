-- `hub_limits::leaves_at` meets its contract.
use mathlib.Core.Path.{ap, ap₂, ◌∙◌}
use Prim.Native.Nat.{ℕ, ◌*◌, ◌<◌}
use native.Mathlib.Omega.{arith}
use mir.Syntax.{w64}
use mir.Val.{to_z, of_z}
use Rattle.steps.specs.Point.{opposite}
use Rattle.steps.specs.Step.{max_weight}
use Rattle.theory_bounds.specs.Points.{opposite_below}
use Rattle.theory_hub.specs.Hub.{Weights, weight_rows, own}
use Rattle.decide_rows.specs.Stored.{stored}
use Rattle.hub_weights.specs.Weights.{weights_in}
use Rattle.hub_limits.specs.Stands.{Stands, sum_ready, stands_result, stands_half, stands_sum, stands_min}
use Rattle.hub_limits.specs.Sizes.{other_row, own_short}
use Rattle.hub_limits.proofs.leaves_at.Goals.{After-own_at, Start}
use Rattle.hub_limits.proofs.leaves_at.Goals as goal

module _ (s : Start) where
  abbrev W : Weights
  W = weights_in s.args.n s.args.weights.now

  abbrev p : ℕ
  p = s.args.p

  -- the row, and the point's opposite
  abbrev k : ℕ
  k = opposite s.args.g

  abbrev q : ℕ
  q = opposite p

  row_ok : k < weight_rows
  row_ok = other_row s.args.g s.requires.1

  back_ok : q < 2 * s.args.n
  back_ok = opposite_below s.args.n p s.requires.2

pub weight_at-there-requires : goal.weight_at-there-requires
weight_at-there-requires c =
    rw c.opposite_of-row.ensures (c.requires.0, row_ok (goal.at.weight_at-there-requires c).Start, c.requires.2)

pub weight_at-back-requires : goal.weight_at-back-requires
weight_at-back-requires c =
    rw (c.opposite_of.ensures, c.opposite_of-row.ensures) (c.requires.0, row_ok (goal.at.weight_at-back-requires c).Start, back_ok (goal.at.weight_at-back-requires c).Start)

-- the weights, as they were read
module _ (c : After-own_at) where
  there : Stands max_weight (W (goal.at.After-own_at c).Start (k (goal.at.After-own_at c).Start) (p (goal.at.After-own_at c).Start)) (to_z w64 (of_z w64 c.weight_at-there.result))
  there =
      stands_result c.weight_at-there.result c.weight_at-there.type_inv (c.weight_at-there.ensures ∙ ap (λ (j : ℕ). stored (W (goal.at.After-own_at c).Start j (p (goal.at.After-own_at c).Start))) c.opposite_of-row.ensures)
      (c.requires.0.short (k (goal.at.After-own_at c).Start) (p (goal.at.After-own_at c).Start) (row_ok (goal.at.After-own_at c).Start) c.requires.2)

  back : Stands max_weight (W (goal.at.After-own_at c).Start (k (goal.at.After-own_at c).Start) (q (goal.at.After-own_at c).Start)) (to_z w64 (of_z w64 c.weight_at-back.result))
  back =
      stands_result c.weight_at-back.result c.weight_at-back.type_inv
      (c.weight_at-back.ensures ∙ ap₂ (λ (j i : ℕ). stored (W (goal.at.After-own_at c).Start j i)) c.opposite_of-row.ensures c.opposite_of.ensures)
      (c.requires.0.short (k (goal.at.After-own_at c).Start) (q (goal.at.After-own_at c).Start) (row_ok (goal.at.After-own_at c).Start) (back_ok (goal.at.After-own_at c).Start))

  alone : Stands max_weight (own (W (goal.at.After-own_at c).Start) (p (goal.at.After-own_at c).Start)) (to_z w64 (of_z w64 c.own_at.result))
  alone = stands_result c.own_at.result c.own_at.type_inv c.own_at.ensures (own_short c.args.n c.args.weights.now c.requires.0 (p (goal.at.After-own_at c).Start) c.requires.2)

pub sum-alone-requires : goal.sum-alone-requires
sum-alone-requires c = sum_ready (omega arith) (omega arith) (alone c) (back c)

pub sum-requires : goal.sum-requires
sum-requires c = sum_ready (omega arith) (omega arith) (there (goal.at.sum-requires c).After-own_at) (back (goal.at.sum-requires c).After-own_at)

pub returns : goal.returns
returns c =
    let by_one = stands_sum c.sum-alone.result c.sum-alone.type_inv (omega arith) (omega arith) (alone (goal.at.returns c).After-own_at) (back (goal.at.returns c).After-own_at) c.sum-alone.ensures in
    let by_two = stands_sum c.sum.result c.sum.type_inv (omega arith) (omega arith) (there (goal.at.returns c).After-own_at) (back (goal.at.returns c).After-own_at) c.sum.ensures in
    let halved = stands_half c.halved_distance.result c.halved_distance.type_inv (omega arith) by_two c.halved_distance.ensures in
    (stands_min c.smaller.result c.smaller.type_inv (omega arith) by_one halved c.smaller.ensures).is
