-- `decide_model::nearest_value` meets its contract.
use mathlib.Core.Path.{◌≡◌, sym, ap, ◌∙◌}
use lib.IntN.{ℤ, pos, neg_ℤ, ◌-ℤ◌}
use mir.Syntax.{w64}
use mir.Val.{SFits, to_z, of_z}
use mir.Facts.{to_z-of_z}
use Rattle.integers.proofs.Bits.{kept}
use Rattle.theory_walks.specs.Distance.{min_d}
use Rattle.theory_bounds.specs.Near.{at_most}
use Rattle.decide_rows.specs.Stored.{stored}
use Rattle.decide_rows.specs.Read.{no_walk_lem, distance_of}
use Rattle.decide_stored_table.specs.Sum.{max_sum, short_number, minus_is}
use Rattle.decide_model.specs.Limit.{minus_fits}
use Rattle.decide_model.specs.Value.{high_back, near_none, near_low_end, near_high_end}
use Rattle.decide_model.proofs.nearest_value.Goals.{After-smaller-high, Else-low-eq-NO_WALK}
use Rattle.decide_model.proofs.nearest_value.Goals as goal

-- the smaller of the upper end and 0
module _ (c : After-smaller-high) where
  abbrev high : ℤ
  high = to_z w64 (of_z w64 c.smaller-high.result)

  high_is : high ≡ at_most (distance_of c.args.up) (pos 0)
  high_is =
      high_back c.args.up high
      (kept w64 c.smaller-high.result c.smaller-high.type_inv ∙ c.smaller-high.ensures ∙ ap (λ (z : ℤ). stored (min_d (distance_of z) (distance_of (pos 0)))) (to_z-of_z c.ranges.up))

pub returns-then-low-eq-NO_WALK : goal.returns-then-low-eq-NO_WALK
returns-then-low-eq-NO_WALK c =
    near_none c.args.up c.args.low (high (goal.at.returns-then-low-eq-NO_WALK c).After-smaller-high) (high_is (goal.at.returns-then-low-eq-NO_WALK c).After-smaller-high) (sym (to_z-of_z c.ranges.low) ∙ ap (to_z w64) c.if-low-eq-NO_WALK.true)

-- where there is a lower end
module _ (c : Else-low-eq-NO_WALK) where
  some_low : c.args.low ≡ no_walk_lem → ⊥
  some_low e = c.if-low-eq-NO_WALK.false (ap (of_z w64) e)

  least_fits : SFits w64 (neg_ℤ c.args.low)
  least_fits = minus_fits c.args.low (short_number c.args.low max_sum c.requires some_low)

  least_is : to_z w64 (of_z w64 (pos 0 -ℤ to_z w64 (of_z w64 c.args.low))) ≡ neg_ℤ c.args.low
  least_is = ap (λ (z : ℤ). to_z w64 (of_z w64 (pos 0 -ℤ z))) (to_z-of_z c.ranges.low) ∙ ap (λ (z : ℤ). to_z w64 (of_z w64 z)) (minus_is c.args.low) ∙ to_z-of_z least_fits

pub overflow_sub-least : goal.overflow_sub-least
overflow_sub-least c = rw (to_z-of_z c.ranges.low, minus_is) (least_fits c)

pub returns-then-high-least : goal.returns-then-high-least
returns-then-high-least c =
    least_is (goal.at.returns-then-high-least c).Else-low-eq-NO_WALK ∙ near_low_end c.args.up c.args.low (high (goal.at.returns-then-high-least c).After-smaller-high) (high_is (goal.at.returns-then-high-least c).After-smaller-high) (some_low (goal.at.returns-then-high-least c).Else-low-eq-NO_WALK) (rw (least_is (goal.at.returns-then-high-least c).Else-low-eq-NO_WALK) at c.if-high-least.true)

pub returns-else-high-least : goal.returns-else-high-least
returns-else-high-least c =
    near_high_end c.args.up c.args.low (high (goal.at.returns-else-high-least c).After-smaller-high) (high_is (goal.at.returns-else-high-least c).After-smaller-high) (some_low (goal.at.returns-else-high-least c).Else-low-eq-NO_WALK) (rw (least_is (goal.at.returns-else-high-least c).Else-low-eq-NO_WALK) at c.if-high-least.false)
