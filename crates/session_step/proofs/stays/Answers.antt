-- `session_step::stays` meets its contract: no walk is stored as a number above 0, so that the stored sum alone is tested.
use mathlib.Core.Path.{ap, ◌∙◌}
use lib.IntN.{pos}
use lib.Signed.{le_z}
use mir.Syntax.{w64}
use Rattle.integers.proofs.Bits.{kept}
use Rattle.session_step.specs.Done.{stays_is}
use Rattle.session_step.proofs.stays.Goals as goal

pub returns : goal.returns
returns c =
    ap (le_z (pos 0)) (kept w64 c.sum_along.result c.sum_along.type_inv)
    ∙ stays_is c.args.n c.args.step c.args.table.now c.requires.1 c.sum_along.result c.sum_along.ensures
