-- `session_learn::way_with` meets its contract: where both ways are there, their sum fits.
use mathlib.Core.Path.{◌≡◌, sym, ap, ◌∙◌}
use lib.IntN.{◌+ℤ◌}
use mir.Syntax.{w64}
use mir.Val.{SFits, to_z, of_z}
use mir.Facts.{to_z-of_z}
use Rattle.integers.proofs.Bits.{kept}
use Rattle.decide_rows.specs.Read.{no_walk_lem}
use Rattle.session_learn.specs.With.{way_none_before, way_none_after, first_fits, sum_fits, way_is}
use Rattle.session_learn.proofs.way_with.Goals.{Else-after-eq-NO_WALK}
use Rattle.session_learn.proofs.way_with.Goals as goal

pub returns-then-before-eq-NO_WALK : goal.returns-then-before-eq-NO_WALK
returns-then-before-eq-NO_WALK c =
    let a = c.args in
    to_z-of_z c.ranges.own ∙ way_none_before a.own a.before a.weight a.after (sym (to_z-of_z c.ranges.before) ∙ ap (to_z w64) c.if-before-eq-NO_WALK.true)

pub returns-then-after-eq-NO_WALK : goal.returns-then-after-eq-NO_WALK
returns-then-after-eq-NO_WALK c =
    let a = c.args in
    to_z-of_z c.ranges.own ∙ way_none_after a.own a.before a.weight a.after (sym (to_z-of_z c.ranges.after) ∙ ap (to_z w64) c.if-after-eq-NO_WALK.true)

-- both ways are there
module _ (c : Else-after-eq-NO_WALK) where
  before_there : c.args.before ≡ no_walk_lem → ⊥
  before_there e = c.if-before-eq-NO_WALK.false (ap (of_z w64) e)

  after_there : c.args.after ≡ no_walk_lem → ⊥
  after_there e = c.if-after-eq-NO_WALK.false (ap (of_z w64) e)

  first : SFits w64 (c.args.before +ℤ c.args.weight)
  first = first_fits c.args.own c.args.before c.args.weight c.args.after before_there after_there c.requires.0 c.requires.1 c.requires.2

  whole : SFits w64 (c.args.before +ℤ c.args.weight +ℤ c.args.after)
  whole = sum_fits c.args.own c.args.before c.args.weight c.args.after before_there after_there c.requires.0 c.requires.1 c.requires.2

pub overflow_add-before : goal.overflow_add-before
overflow_add-before c = rw (to_z-of_z c.ranges.before, to_z-of_z c.ranges.weight) (first c)

pub overflow_add-before-2 : goal.overflow_add-before-2
overflow_add-before-2 c = rw (to_z-of_z c.ranges.before, to_z-of_z c.ranges.weight, to_z-of_z (first c), to_z-of_z c.ranges.after) (whole c)

pub returns : goal.returns
returns c =
    let a = c.args in
    kept w64 c.smaller.result c.smaller.type_inv
    ∙ way_is a.own a.before a.weight a.after (before_there (goal.at.returns c).Else-after-eq-NO_WALK) (after_there (goal.at.returns c).Else-after-eq-NO_WALK) c.requires.0 c.requires.1 c.requires.2 c.smaller.result
    (rw (to_z-of_z c.ranges.own, to_z-of_z c.ranges.before, to_z-of_z c.ranges.weight, to_z-of_z (first (goal.at.returns c).Else-after-eq-NO_WALK), to_z-of_z c.ranges.after, to_z-of_z (whole (goal.at.returns c).Else-after-eq-NO_WALK)) at c.smaller.ensures)
