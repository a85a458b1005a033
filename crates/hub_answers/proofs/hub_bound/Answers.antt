-- `hub_answers::hub_bound` meets its contract: a greatest value that is a number is small, so that it is negated without loss.
use mathlib.Core.Path.{◌≡◌, sym, ap, ◌∙◌}
use Prim.Native.Nat.{ℕ, ◌*◌, ◌<◌}
use lib.IntN.{pos, ◌-ℤ◌}
use mir.Syntax.{w64}
use mir.Val.{SFits, to_z, of_z}
use mir.Facts.{to_z-of_z}
use Rattle.integers.proofs.Bits.{kept}
use Rattle.steps.specs.Point.{opposite}
use Rattle.theory_walks.specs.Distance.{Distance}
use Rattle.theory_bounds.specs.Points.{opposite_below}
use Rattle.theory_hub.specs.Hub.{Weights, greatest_at_lem}
use Rattle.decide_rows.specs.Stored.{stored}
use Rattle.decide_rows.specs.Read.{no_walk_lem, Short, max_distance}
use Rattle.decide_bounds_groups.specs.Reading.{within, least_none, least_some, minus_fits}
use Rattle.hub_weights.specs.Weights.{weights_in}
use Rattle.hub_answers.specs.Written.{greatest_short, bound_least, bound_greatest}
use Rattle.hub_answers.proofs.hub_bound.Goals.{After-greatest_at-greatest, Else-greatest-eq-NO_WALK, Start}
use Rattle.hub_answers.proofs.hub_bound.Goals as goal

module _ (s : Start) where
  abbrev n : ℕ
  n = s.args.n

  abbrev W : Weights
  W = weights_in n s.args.weights.now

  abbrev i : ℕ
  i = s.args.i

  point_lt : opposite i < 2 * n
  point_lt = opposite_below n i s.requires.1

  -- the greatest value of the point
  abbrev greatest : Distance
  greatest = greatest_at_lem n W (opposite i)

  short : Short max_distance greatest
  short = greatest_short n s.args.weights.now s.requires.0.weights s.requires.0.some_variable (opposite i) point_lt

pub greatest_at-greatest-requires : goal.greatest_at-greatest-requires
greatest_at-greatest-requires c =
    rw (c.opposite_of.ensures, to_z-of_z c.ranges.a, to_z-of_z c.ranges.b) (c.requires.0, point_lt (goal.at.greatest_at-greatest-requires c).Start)

read : (c : After-greatest_at-greatest) → to_z w64 (of_z w64 c.greatest_at-greatest.result) ≡ stored (greatest (goal.at.After-greatest_at-greatest c).Start)
read c =
    kept w64 c.greatest_at-greatest.result c.greatest_at-greatest.type_inv ∙ c.greatest_at-greatest.ensures ∙ ap (λ (p : ℕ). stored (greatest_at_lem (n (goal.at.After-greatest_at-greatest c).Start) (W (goal.at.After-greatest_at-greatest c).Start) p)) c.opposite_of.ensures

pub returns-then-i-ne0 : goal.returns-then-i-ne0
returns-then-i-ne0 c =
    read (goal.at.returns-then-i-ne0 c).After-greatest_at-greatest ∙ bound_greatest (n (goal.at.returns-then-i-ne0 c).Start) (W (goal.at.returns-then-i-ne0 c).Start) (i (goal.at.returns-then-i-ne0 c).Start) c.if-i-ne0.true

pub returns-then-greatest-eq-NO_WALK : goal.returns-then-greatest-eq-NO_WALK
returns-then-greatest-eq-NO_WALK c =
    least_none (greatest (goal.at.returns-then-greatest-eq-NO_WALK c).Start) (short (goal.at.returns-then-greatest-eq-NO_WALK c).Start) (sym (read (goal.at.returns-then-greatest-eq-NO_WALK c).After-greatest_at-greatest) ∙ ap (to_z w64) c.if-greatest-eq-NO_WALK.true) ∙ bound_least (n (goal.at.returns-then-greatest-eq-NO_WALK c).Start) (W (goal.at.returns-then-greatest-eq-NO_WALK c).Start) (i (goal.at.returns-then-greatest-eq-NO_WALK c).Start) c.if-i-ne0.false

-- where it is a number
module _ (c : Else-greatest-eq-NO_WALK) where
  walk : stored (greatest (goal.at.Else-greatest-eq-NO_WALK c).Start) ≡ no_walk_lem → ⊥
  walk e = let q : to_z w64 (of_z w64 c.greatest_at-greatest.result) ≡ no_walk_lem = read (goal.at.Else-greatest-eq-NO_WALK c).After-greatest_at-greatest ∙ e in c.if-greatest-eq-NO_WALK.false (ap (of_z w64) (sym (kept w64 c.greatest_at-greatest.result c.greatest_at-greatest.type_inv) ∙ q))

  fits : SFits w64 (pos 0 -ℤ stored (greatest (goal.at.Else-greatest-eq-NO_WALK c).Start))
  fits = minus_fits (stored (greatest (goal.at.Else-greatest-eq-NO_WALK c).Start)) (within (greatest (goal.at.Else-greatest-eq-NO_WALK c).Start) (short (goal.at.Else-greatest-eq-NO_WALK c).Start) walk)

pub overflow_sub-result : goal.overflow_sub-result
overflow_sub-result c = rw (read (goal.at.overflow_sub-result c).After-greatest_at-greatest) (fits c)

pub returns : goal.returns
returns c = rw (read (goal.at.returns c).After-greatest_at-greatest) (to_z-of_z (fits c) ∙ least_some (greatest (goal.at.returns c).Start) (walk c) ∙ bound_least (n (goal.at.returns c).Start) (W (goal.at.returns c).Start) (i (goal.at.returns c).Start) c.if-i-ne0.false)
