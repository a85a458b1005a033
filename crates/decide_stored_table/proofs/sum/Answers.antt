-- `decide_stored_table::sum` meets its contract: where both are numbers, their sum fits.
use mathlib.Core.Path.{◌≡◌, sym, ap, ◌∙◌}
use lib.IntN.{◌+ℤ◌}
use mir.Syntax.{w64}
use mir.Val.{SFits, to_z, of_z}
use mir.Facts.{to_z-of_z}
use Rattle.decide_rows.specs.Read.{no_walk_lem}
use Rattle.decide_stored_table.specs.Sum.{max_tight, short_number, sum_none_left, sum_none_right, sum_some, sum_fits}
use Rattle.decide_stored_table.proofs.sum.Goals.{Else-b-eq-NO_WALK}
use Rattle.decide_stored_table.proofs.sum.Goals as goal

pub returns-then-a-eq-NO_WALK : goal.returns-then-a-eq-NO_WALK
returns-then-a-eq-NO_WALK c =
    sum_none_left c.args.a c.args.b (sym (to_z-of_z c.ranges.a) ∙ ap (to_z w64) c.if-a-eq-NO_WALK.true)

pub returns-then-b-eq-NO_WALK : goal.returns-then-b-eq-NO_WALK
returns-then-b-eq-NO_WALK c =
    sum_none_right c.args.a c.args.b (sym (to_z-of_z c.ranges.b) ∙ ap (to_z w64) c.if-b-eq-NO_WALK.true)

-- two numbers
module _ (c : Else-b-eq-NO_WALK) where
  left : c.args.a ≡ no_walk_lem → ⊥
  left e = c.if-a-eq-NO_WALK.false (ap (of_z w64) e)

  right : c.args.b ≡ no_walk_lem → ⊥
  right e = c.if-b-eq-NO_WALK.false (ap (of_z w64) e)

  fits : SFits w64 (c.args.a +ℤ c.args.b)
  fits = sum_fits c.args.a c.args.b (short_number c.args.a max_tight c.requires.0 left) (short_number c.args.b max_tight c.requires.1 right)

pub overflow_add-result : goal.overflow_add-result
overflow_add-result c = rw (to_z-of_z c.ranges.a, to_z-of_z c.ranges.b) (fits c)

pub returns : goal.returns
returns c = rw (to_z-of_z c.ranges.a, to_z-of_z c.ranges.b) (to_z-of_z (fits c) ∙ sum_some c.args.a c.args.b (left c) (right c))
