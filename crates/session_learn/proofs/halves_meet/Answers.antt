-- `session_learn::halves_meet` meets its contract: two halves always fit together.
use mathlib.Core.Path.{◌≡◌, sym, ap, ◌∙◌}
use lib.IntN.{pos, ◌+ℤ◌}
use lib.Signed.{le_z}
use mir.Syntax.{w64}
use mir.Val.{SFits, to_z, of_z}
use mir.Facts.{to_z-of_z}
use Rattle.integers.specs.Integer.{half}
use Rattle.integers.proofs.Bits.{kept}
use Rattle.session_learn.specs.With.{meet_none_there, meet_none_back, meet_is, halves_fit}
use Rattle.session_learn.proofs.halves_meet.Goals.{After-halved-2}
use Rattle.session_learn.proofs.halves_meet.Goals as goal

pub returns-then-there-eq-NO_WALK : goal.returns-then-there-eq-NO_WALK
returns-then-there-eq-NO_WALK c =
    meet_none_there c.args.there c.args.back (sym (to_z-of_z c.ranges.there) ∙ ap (to_z w64) c.if-there-eq-NO_WALK.true)

pub returns-then-back-eq-NO_WALK : goal.returns-then-back-eq-NO_WALK
returns-then-back-eq-NO_WALK c =
    meet_none_back c.args.there c.args.back (sym (to_z-of_z c.ranges.back) ∙ ap (to_z w64) c.if-back-eq-NO_WALK.true)

-- both are there, and halved
module _ (c : After-halved-2) where
  first_is : to_z w64 (of_z w64 c.halved.result) ≡ half c.args.there
  first_is = kept w64 c.halved.result c.halved.type_inv ∙ c.halved.ensures ∙ ap half (to_z-of_z c.ranges.there)

  second_is : to_z w64 (of_z w64 c.halved-2.result) ≡ half c.args.back
  second_is = kept w64 c.halved-2.result c.halved-2.type_inv ∙ c.halved-2.ensures ∙ ap half (to_z-of_z c.ranges.back)

  fits : SFits w64 (half c.args.there +ℤ half c.args.back)
  fits = halves_fit c.args.there c.args.back c.ranges.there c.ranges.back

pub overflow_add-result : goal.overflow_add-result
overflow_add-result c = rw (first_is c, second_is c) (fits c)

pub returns : goal.returns
returns c =
    let a = c.args in
    let sum : to_z w64 (of_z w64 (to_z w64 (of_z w64 c.halved.result) +ℤ to_z w64 (of_z w64 c.halved-2.result))) ≡ half a.there +ℤ half a.back = rw (first_is c, second_is c) (to_z-of_z (fits c)) in
    ap (le_z (pos 0)) sum ∙ meet_is a.there a.back (λ q. c.if-there-eq-NO_WALK.false (ap (of_z w64) q)) (λ q. c.if-back-eq-NO_WALK.false (ap (of_z w64) q))
