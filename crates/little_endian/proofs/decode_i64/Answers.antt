-- `little_endian::decode_i64` meets its contract.
use mathlib.Core.Path.{◌∙◌, refl}
use mir.Facts.{to_z-of_z}
use mir.Syntax.{w64}
use borrow.Author.Rules.{rules}
use Rattle.little_endian.specs.Bytes.{int64, first_of, one_more}
use Rattle.little_endian.proofs.decode_i64.Goals as goal

pub loop-i-init : goal.loop-i-init
unfolding first_of
loop-i-init c = refl

pub loop-i-preserved : goal.loop-i-preserved
loop-i-preserved c = one_more 8 int64 _ _ _ (search rules) c.loop-i.invariant (to_z-of_z {w = w64} (record { sfits = c.i64_at.type_inv }) ∙ c.i64_at.ensures)
