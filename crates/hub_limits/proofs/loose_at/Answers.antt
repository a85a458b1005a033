-- `hub_limits::loose_at` meets its contract.
use mathlib.Core.Path.{◌≡◌, ap, ap₂, ◌∙◌}
use Prim.Native.Nat.{ℕ, ◌*◌, ◌<◌}
use native.Mathlib.Omega.{arith}
use lib.IntN.{ℤ}
use mir.Syntax.{w64}
use mir.Val.{to_z, of_z}
use mir.Facts.{to_z-of_z}
use Rattle.steps.specs.Point.{opposite}
use Rattle.theory_bounds.specs.Points.{opposite_below}
use Rattle.theory_hub.specs.Hub.{Weights, cap}
use Rattle.decide_rows.specs.Stored.{stored}
use Rattle.hub_weights.specs.Weights.{weights_in}
use Rattle.hub_limits.specs.Stands.{Stands, is_above, sum_ready, stands_result, stands_sum}
use Rattle.hub_limits.specs.Sizes.{max_limit, cap_short}
use Rattle.hub_limits.proofs.loose_at.Goals.{After-cap_at-back, Start}
use Rattle.hub_limits.proofs.loose_at.Goals as goal

module _ (s : Start) where
  abbrev W : Weights
  W = weights_in s.args.n s.args.weights.now

  abbrev p : ℕ
  p = s.args.p

  abbrev q : ℕ
  q = opposite p

  back_ok : q < 2 * s.args.n
  back_ok = opposite_below s.args.n p s.requires.2

  value_is : to_z w64 (of_z w64 s.args.v) ≡ s.args.v
  value_is = to_z-of_z s.ranges.v

pub cap_at-there-requires : goal.cap_at-there-requires
cap_at-there-requires c = rw (value_is c) c.requires

pub cap_at-back-requires : goal.cap_at-back-requires
cap_at-back-requires c =
    rw (c.opposite_of.ensures, value_is (goal.at.cap_at-back-requires c).Start) (c.requires.0, c.requires.1, back_ok (goal.at.cap_at-back-requires c).Start)

-- the greatest values of both points
module _ (c : After-cap_at-back) where
  there : Stands max_limit (cap (W (goal.at.After-cap_at-back c).Start) c.args.v (p (goal.at.After-cap_at-back c).Start)) (to_z w64 (of_z w64 c.cap_at-there.result))
  there =
      stands_result c.cap_at-there.result c.cap_at-there.type_inv (c.cap_at-there.ensures ∙ ap (λ (v : ℤ). stored (cap (W (goal.at.After-cap_at-back c).Start) v (p (goal.at.After-cap_at-back c).Start))) (value_is (goal.at.After-cap_at-back c).Start))
      (cap_short c.args.n c.args.weights.now c.requires.0 c.args.v (p (goal.at.After-cap_at-back c).Start) c.requires.1 c.requires.2)

  back : Stands max_limit (cap (W (goal.at.After-cap_at-back c).Start) c.args.v (q (goal.at.After-cap_at-back c).Start)) (to_z w64 (of_z w64 c.cap_at-back.result))
  back =
      stands_result c.cap_at-back.result c.cap_at-back.type_inv
      (c.cap_at-back.ensures ∙ ap₂ (λ (v : ℤ) (i : ℕ). stored (cap (W (goal.at.After-cap_at-back c).Start) v i)) (value_is (goal.at.After-cap_at-back c).Start) c.opposite_of.ensures)
      (cap_short c.args.n c.args.weights.now c.requires.0 c.args.v (q (goal.at.After-cap_at-back c).Start) c.requires.1 (back_ok (goal.at.After-cap_at-back c).Start))

pub sum-requires : goal.sum-requires
sum-requires c = sum_ready (omega arith) (omega arith) (there c) (back c)

pub returns : goal.returns
returns c =
    is_above (stands_sum c.sum.result c.sum.type_inv (omega arith) (omega arith) (there (goal.at.returns c).After-cap_at-back) (back (goal.at.returns c).After-cap_at-back) c.sum.ensures)
