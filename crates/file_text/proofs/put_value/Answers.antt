-- `file_text::put_value` meets its contract.
use mathlib.Core.Path.{ap}
use Prim.Native.Nat.{◌≤◌}
use native.Mathlib.Omega.{arith}
use lib.ListN.{length}
use mir.Syntax.{w32}
use Rattle.integers.proofs.Bits.{widened}
use Rattle.file_text.specs.Text.{signed_text}
use Rattle.file_text.specs.Put.{then, wider, same}
use Rattle.file_text.proofs.put_value.Goals as goal

pub returns : goal.returns
returns c =
    let h : c.args.at ≤ length c.args.out.now = omega arith in
    let value = same (ap signed_text (widened {w = w32} tt c.ranges.value)) c.put_signed-next.ensures in
    wider (omega arith) (then h (then h (then h c.put_decimal-next.ensures c.put_byte-next.ensures) value) c.put_byte.ensures)
