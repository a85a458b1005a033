-- `hub_answers::answered_from` meets its contract.
use mathlib.Core.Path.{◌≡◌, sym, ap, ap₂, ◌∙◌}
use mathlib.Core.Bool.{true}
use mathlib.Core.List.{List}
use Prim.Native.Nat.{ℕ}
use native.Mathlib.Omega.{arith}
use borrow.Author.Tests.{not-true, not-false}
use lib.IntN.{ℤ, pos}
use lib.Signed.{le_z}
use mir.Syntax.{w64}
use mir.Val.{to_z, of_z}
use Rattle.integers.proofs.Bits.{kept}
use Rattle.theory_walks.specs.Distance.{◌⊞◌}
use Rattle.theory_walks.specs.Negative.{not_below0}
use Rattle.theory_bounds.specs.Near.{near}
use Rattle.theory_hub.specs.Hub.{Weights, hub_limit_lem, hub_value, all_sound_lem, all_loose_lem, answerable}
use Rattle.decide_rows.specs.Read.{short_more}
use Rattle.hub_weights.specs.Weights.{weights_in}
use Rattle.hub_limits.specs.Ready.{max_hub}
use Rattle.hub_limits.specs.Stands.{Stands, back, back_short, not_below, sum_ready, stands_result, stands_sum}
use Rattle.hub_limits.specs.Sizes.{limit_short, value_within}
use Rattle.hub_answers.specs.Written.{not_sound, no_hub, loose_decides, below_least, not_below_least}
use Rattle.hub_answers.specs.Answered.{unanswered, all_written}
use mathlib.Core.Bool.{not}
use Rattle.hub_answers.proofs.answered_from.Goals.{After-all_loose, After-hub_limit-b, After-nearest_value-v, After-sum, Start}
use Rattle.hub_answers.proofs.answered_from.Goals as goal

module _ (s : Start) where
  abbrev n : ℕ
  n = s.args.n

  abbrev w : List ℤ
  w = s.args.weights.now

  abbrev W : Weights
  W = weights_in n w

pub returns-then-not-all_sound : goal.returns-then-not-all_sound
returns-then-not-all_sound c =
    unanswered (not_sound (n (goal.at.returns-then-not-all_sound c).Start) (W (goal.at.returns-then-not-all_sound c).Start) (sym c.all_sound.ensures ∙ not-true _ (ap not c.if-not-all_sound.true)))

-- the greatest values of the hub's points
module _ (c : After-hub_limit-b) where
  abbrev a : ℤ
  a = to_z w64 (of_z w64 c.hub_limit-a.result)

  abbrev b : ℤ
  b = to_z w64 (of_z w64 c.hub_limit-b.result)

  sound : all_sound_lem (n (goal.at.After-hub_limit-b c).Start) (W (goal.at.After-hub_limit-b c).Start) ≡ true
  sound = sym c.all_sound.ensures ∙ not-false _ (ap not c.if-not-all_sound.false)

  plus : Stands max_hub (hub_limit_lem (n (goal.at.After-hub_limit-b c).Start) (W (goal.at.After-hub_limit-b c).Start) 0) a
  plus =
      let h = c.hub_limit-a in
      stands_result h.result h.type_inv h.ensures (limit_short (n (goal.at.After-hub_limit-b c).Start) (w (goal.at.After-hub_limit-b c).Start) c.requires.weights 0 (omega arith) c.requires.some_variable)

  minus : Stands max_hub (hub_limit_lem (n (goal.at.After-hub_limit-b c).Start) (W (goal.at.After-hub_limit-b c).Start) 1) b
  minus = stands_result c.hub_limit-b.result c.hub_limit-b.type_inv c.hub_limit-b.ensures (limit_short (n (goal.at.After-hub_limit-b c).Start) (w (goal.at.After-hub_limit-b c).Start) c.requires.weights 1 (omega arith) c.requires.some_variable)

pub sum-requires : goal.sum-requires
sum-requires c = sum_ready (omega arith) (omega arith) (plus c) (minus c)

-- whether the hub has a value
hub_test : (c : After-sum) → le_z (pos 0) (to_z w64 (of_z w64 c.sum.result)) ≡ not_below0 (hub_limit_lem (n (goal.at.After-sum c).Start) (W (goal.at.After-sum c).Start) 0 ⊞ hub_limit_lem (n (goal.at.After-sum c).Start) (W (goal.at.After-sum c).Start) 1)
hub_test c = not_below (stands_sum c.sum.result c.sum.type_inv (omega arith) (omega arith) (plus (goal.at.After-sum c).After-hub_limit-b) (minus (goal.at.After-sum c).After-hub_limit-b) c.sum.ensures)

pub returns-then-sum-lt0 : goal.returns-then-sum-lt0
returns-then-sum-lt0 c =
    unanswered (no_hub (n (goal.at.returns-then-sum-lt0 c).Start) (W (goal.at.returns-then-sum-lt0 c).Start) (sound (goal.at.returns-then-sum-lt0 c).After-hub_limit-b) (sym (hub_test (goal.at.returns-then-sum-lt0 c).After-sum) ∙ below_least (to_z w64 (of_z w64 c.sum.result)) c.if-sum-lt0.true))

pub nearest_value-v-requires : goal.nearest_value-v-requires
nearest_value-v-requires c = short_more (omega arith) (back_short (omega arith) (minus (goal.at.nearest_value-v-requires c).After-hub_limit-b))

-- the hub's value
module _ (c : After-nearest_value-v) where
  value_is : to_z w64 (of_z w64 c.nearest_value-v.result) ≡ hub_value (n (goal.at.After-nearest_value-v c).Start) (W (goal.at.After-nearest_value-v c).Start)
  value_is = kept w64 c.nearest_value-v.result c.nearest_value-v.type_inv ∙ c.nearest_value-v.ensures ∙ ap₂ near (back (omega arith) (plus (goal.at.After-nearest_value-v c).After-hub_limit-b)) (back (omega arith) (minus (goal.at.After-nearest_value-v c).After-hub_limit-b))

  can_hold : not_below0 (hub_limit_lem (n (goal.at.After-nearest_value-v c).Start) (W (goal.at.After-nearest_value-v c).Start) 0 ⊞ hub_limit_lem (n (goal.at.After-nearest_value-v c).Start) (W (goal.at.After-nearest_value-v c).Start) 1) ≡ true
  can_hold = sym (hub_test (goal.at.After-nearest_value-v c).After-sum) ∙ not_below_least (to_z w64 (of_z w64 c.sum.result)) c.if-sum-lt0.false

pub all_loose-requires : goal.all_loose-requires
all_loose-requires c =
    rw (value_is c) (c.requires.weights, value_within (n (goal.at.all_loose-requires c).Start) (w (goal.at.all_loose-requires c).Start) c.requires.weights c.requires.some_variable)

-- the last test decides
decides : (c : After-all_loose) → c.all_loose.result ≡ answerable (n (goal.at.After-all_loose c).Start) (W (goal.at.After-all_loose c).Start)
decides c =
    c.all_loose.ensures ∙ ap (all_loose_lem (n (goal.at.After-all_loose c).Start) (W (goal.at.After-all_loose c).Start)) (value_is (goal.at.After-all_loose c).After-nearest_value-v) ∙ loose_decides (n (goal.at.After-all_loose c).Start) (W (goal.at.After-all_loose c).Start) (sound (goal.at.After-all_loose c).After-hub_limit-b) (can_hold (goal.at.After-all_loose c).After-nearest_value-v)

pub returns-then-not-all_loose : goal.returns-then-not-all_loose
returns-then-not-all_loose c = unanswered (sym (not-true _ (ap not c.if-not-all_loose.true)) ∙ decides (goal.at.returns-then-not-all_loose c).After-all_loose)

pub write_hub_model-requires : goal.write_hub_model-requires
write_hub_model-requires c =
    (record { weights = c.requires.weights; some_variable = c.requires.some_variable; hub = value_is (goal.at.write_hub_model-requires c).After-nearest_value-v; fits = c.requires.fits (sym (decides (goal.at.write_hub_model-requires c).After-all_loose) ∙ not-false _ (ap not c.if-not-all_loose.false)) }, c.requires.model_room)

pub write_hub_bounds-requires : goal.write_hub_bounds-requires
write_hub_bounds-requires c =
    (record { weights = c.requires.weights; some_variable = c.requires.some_variable; plus = (plus (goal.at.write_hub_bounds-requires c).After-hub_limit-b).is; minus = (minus (goal.at.write_hub_bounds-requires c).After-hub_limit-b).is }, c.requires.bounds_room)

pub write_own_groups-requires : goal.write_own_groups-requires
write_own_groups-requires c =
    (c.requires.weights.few, c.requires.groups_room)

pub returns : goal.returns
returns c =
    all_written (sym (not-false _ (ap not c.if-not-all_loose.false)) ∙ decides (goal.at.returns c).After-all_loose)
    (record { model = c.write_hub_model.ensures; bounds = c.write_hub_bounds.ensures; groups = c.write_own_groups.ensures })
