-- `little_endian::decode_i32` meets its contract.
use mathlib.Core.Path.{◌∙◌, refl}
use mir.Facts.{to_z-of_z}
use mir.Syntax.{w32}
use borrow.Author.Rules.{rules}
use Rattle.little_endian.specs.Bytes.{int32, first_of, one_more}
use Rattle.little_endian.proofs.decode_i32.Goals as goal

pub loop-i-init : goal.loop-i-init
unfolding first_of
loop-i-init c = refl

pub loop-i-preserved : goal.loop-i-preserved
loop-i-preserved c = one_more 4 int32 _ _ _ (search rules) c.loop-i.invariant (to_z-of_z {w = w32} (record { sfits = c.i32_at.type_inv }) ∙ c.i32_at.ensures)
