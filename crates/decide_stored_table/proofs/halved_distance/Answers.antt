-- `decide_stored_table::halved_distance` meets its contract.
use mathlib.Core.Path.{sym, ap, ◌∙◌}
use mir.Syntax.{w64}
use mir.Val.{to_z, of_z}
use mir.Facts.{to_z-of_z}
use Rattle.integers.specs.Integer.{half}
use Rattle.integers.proofs.Bits.{kept}
use Rattle.decide_stored_table.specs.Sum.{half_none, half_some}
use Rattle.decide_stored_table.proofs.halved_distance.Goals as goal

pub returns-then-distance-eq-NO_WALK : goal.returns-then-distance-eq-NO_WALK
returns-then-distance-eq-NO_WALK c =
    half_none c.args.distance (sym (to_z-of_z c.ranges.distance) ∙ ap (to_z w64) c.if-distance-eq-NO_WALK.true)

pub returns : goal.returns
returns c =
    kept w64 c.halved.result c.halved.type_inv
    ∙ c.halved.ensures
    ∙ ap half (to_z-of_z c.ranges.distance)
    ∙ half_some c.args.distance (λ e. c.if-distance-eq-NO_WALK.false (ap (of_z w64) e))
