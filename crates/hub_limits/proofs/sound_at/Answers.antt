-- `hub_limits::sound_at` meets its contract.
use mathlib.Core.Path.{◌≡◌, sym, ap, ◌∙◌}
use mathlib.Core.Bool.{Bool}
use Prim.Native.Nat.{ℕ, ◌*◌, ◌<◌}
use native.Mathlib.Omega.{arith}
use lib.IntN.{pos}
use lib.Signed.{le_z}
use mir.Syntax.{w64}
use mir.Val.{to_z, of_z}
use Rattle.steps.specs.Point.{opposite}
use Rattle.steps.specs.Step.{max_weight}
use Rattle.theory_walks.specs.Distance.{◌⊞◌}
use Rattle.theory_walks.specs.Negative.{not_below0}
use Rattle.theory_bounds.specs.Points.{opposite_below}
use Rattle.theory_hub.specs.Hub.{Weights, own}
use Rattle.decide_rows.specs.Stored.{stored}
use Rattle.hub_weights.specs.Weights.{weights_in}
use Rattle.hub_limits.specs.Stands.{Stands, not_below, sum_ready, stands_result, stands_sum}
use Rattle.hub_limits.specs.Sizes.{own_short}
use Rattle.hub_limits.specs.Loops.{first_test, second_test}
use Rattle.hub_limits.proofs.sound_at.Goals.{After-own_at-2, After-sum-by_hub, After-weight_at-2, Start}
use Rattle.hub_limits.proofs.sound_at.Goals as goal

module _ (s : Start) where
  abbrev W : Weights
  W = weights_in s.args.n s.args.weights.now

  abbrev p : ℕ
  p = s.args.p

  abbrev q : ℕ
  q = opposite p

  back_ok : q < 2 * s.args.n
  back_ok = opposite_below s.args.n p s.requires.1

pub own_at-requires-2 : goal.own_at-requires-2
own_at-requires-2 c =
    rw c.opposite_of-q.ensures (c.requires.0, back_ok (goal.at.own_at-requires-2 c).Start)

-- what the points have by themselves
module _ (c : After-own_at-2) where
  own_there : Stands max_weight (own (W (goal.at.After-own_at-2 c).Start) (p (goal.at.After-own_at-2 c).Start)) (to_z w64 (of_z w64 c.own_at.result))
  own_there =
      stands_result c.own_at.result c.own_at.type_inv c.own_at.ensures (own_short c.args.n c.args.weights.now c.requires.0 (p (goal.at.After-own_at-2 c).Start) c.requires.1)

  own_back : Stands max_weight (own (W (goal.at.After-own_at-2 c).Start) (q (goal.at.After-own_at-2 c).Start)) (to_z w64 (of_z w64 c.own_at-2.result))
  own_back =
      stands_result c.own_at-2.result c.own_at-2.type_inv (c.own_at-2.ensures ∙ ap (λ (i : ℕ). stored (own (W (goal.at.After-own_at-2 c).Start) i)) c.opposite_of-q.ensures)
      (own_short c.args.n c.args.weights.now c.requires.0 (q (goal.at.After-own_at-2 c).Start) (back_ok (goal.at.After-own_at-2 c).Start))

pub sum-alone-requires : goal.sum-alone-requires
sum-alone-requires c = sum_ready (omega arith) (omega arith) (own_there c) (own_back c)

pub weight_at-requires-2 : goal.weight_at-requires-2
weight_at-requires-2 c =
    rw c.opposite_of-q.ensures (c.requires.0, omega arith, back_ok (goal.at.weight_at-requires-2 c).Start)

-- and with the hub
module _ (c : After-weight_at-2) where
  there : Stands max_weight (W (goal.at.After-weight_at-2 c).Start 0 (p (goal.at.After-weight_at-2 c).Start)) (to_z w64 (of_z w64 c.weight_at.result))
  there =
      stands_result c.weight_at.result c.weight_at.type_inv c.weight_at.ensures (c.requires.0.short 0 (p (goal.at.After-weight_at-2 c).Start) (omega arith) c.requires.1)

  back : Stands max_weight (W (goal.at.After-weight_at-2 c).Start 1 (q (goal.at.After-weight_at-2 c).Start)) (to_z w64 (of_z w64 c.weight_at-2.result))
  back =
      stands_result c.weight_at-2.result c.weight_at-2.type_inv (c.weight_at-2.ensures ∙ ap (λ (i : ℕ). stored (W (goal.at.After-weight_at-2 c).Start 1 i)) c.opposite_of-q.ensures)
      (c.requires.0.short 1 (q (goal.at.After-weight_at-2 c).Start) (omega arith) (back_ok (goal.at.After-weight_at-2 c).Start))

pub sum-by_hub-requires : goal.sum-by_hub-requires
sum-by_hub-requires c = sum_ready (omega arith) (omega arith) (there c) (back c)

-- the two tests
module _ (c : After-sum-by_hub) where
  abbrev alone : Bool
  alone = not_below0 (own (W (goal.at.After-sum-by_hub c).Start) (p (goal.at.After-sum-by_hub c).Start) ⊞ own (W (goal.at.After-sum-by_hub c).Start) (q (goal.at.After-sum-by_hub c).Start))

  abbrev by_hub : Bool
  by_hub = not_below0 (W (goal.at.After-sum-by_hub c).Start 0 (p (goal.at.After-sum-by_hub c).Start) ⊞ W (goal.at.After-sum-by_hub c).Start 1 (q (goal.at.After-sum-by_hub c).Start))

  alone_is : le_z (pos 0) (to_z w64 (of_z w64 c.sum-alone.result)) ≡ alone
  alone_is =
      not_below (stands_sum c.sum-alone.result c.sum-alone.type_inv (omega arith) (omega arith) (own_there (goal.at.After-sum-by_hub c).After-own_at-2) (own_back (goal.at.After-sum-by_hub c).After-own_at-2) c.sum-alone.ensures)

  by_hub_is : le_z (pos 0) (to_z w64 (of_z w64 c.sum-by_hub.result)) ≡ by_hub
  by_hub_is = not_below (stands_sum c.sum-by_hub.result c.sum-by_hub.type_inv (omega arith) (omega arith) (there (goal.at.After-sum-by_hub c).After-weight_at-2) (back (goal.at.After-sum-by_hub c).After-weight_at-2) c.sum-by_hub.ensures)

pub returns-then-alone-ge0 : goal.returns-then-alone-ge0
returns-then-alone-ge0 c = second_test (alone (goal.at.returns-then-alone-ge0 c).After-sum-by_hub) (by_hub (goal.at.returns-then-alone-ge0 c).After-sum-by_hub) _ (sym (alone_is (goal.at.returns-then-alone-ge0 c).After-sum-by_hub) ∙ c.if-alone-ge0.true) (by_hub_is (goal.at.returns-then-alone-ge0 c).After-sum-by_hub)

pub returns-else-alone-ge0 : goal.returns-else-alone-ge0
returns-else-alone-ge0 c = c.if-alone-ge0.false ∙ first_test (alone (goal.at.returns-else-alone-ge0 c).After-sum-by_hub) (by_hub (goal.at.returns-else-alone-ge0 c).After-sum-by_hub) (sym (alone_is (goal.at.returns-else-alone-ge0 c).After-sum-by_hub) ∙ c.if-alone-ge0.false)
