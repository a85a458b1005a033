-- `engine_packed_steps::read_step` meets its contract.
use mathlib.Core.Path.{◌≡◌}
use lib.IntN.{ℤ, nat_abs}
use lib.Signed.{yes_non_neg}
use mir.Syntax.{w64}
use mir.Val.{to_z, of_z}
use mir.Facts.{to_z-of_z}
use Rattle.lines.specs.Line.{number}
use Rattle.decide_rows.specs.Read.{weight_fits}
use Rattle.engine_packed_steps.specs.Packed.{unpacked}
use Rattle.engine_packed_steps.specs.Steps.{abs_fits}
use Rattle.engine_packed_steps.proofs.read_step.Goals.{After-whole-1}
use Rattle.engine_packed_steps.proofs.read_step.Goals as goal

module _ (c : After-whole-1) where
  abbrev z : ℤ
  z = number c.args.work.now c.args.i

  whole_is : to_z w64 (of_z w64 z) ≡ z
  whole_is = to_z-of_z {w = w64} {z = z} (record { sfits = c.whole-1.given })

pub overflow_cast-whole : goal.overflow_cast-whole
overflow_cast-whole c = rw (whole_is c) (yes_non_neg c.requires.low, abs_fits (z c) c.whole-1.given)

pub weight_of-weight-requires : goal.weight_of-weight-requires
weight_of-weight-requires c = rw (whole_is c) c.requires.light

pub returns : goal.returns
returns c =
    let e : c.weight_of-weight.result ≡ (unpacked (nat_abs (z (goal.at.returns c).After-whole-1))).weight = rw (whole_is (goal.at.returns c).After-whole-1) at c.weight_of-weight.ensures in
    rw (whole_is (goal.at.returns c).After-whole-1, e, to_z-of_z (weight_fits (unpacked (nat_abs (z (goal.at.returns c).After-whole-1))).weight c.requires.light))
