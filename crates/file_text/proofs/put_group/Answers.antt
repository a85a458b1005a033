-- `file_text::put_group` meets its contract.
use Prim.Native.Nat.{◌≤◌}
use native.Mathlib.Omega.{arith}
use lib.ListN.{length}
use Rattle.file_text.specs.Put.{then, wider}
use Rattle.file_text.proofs.put_group.Goals as goal

pub returns : goal.returns
returns c =
    let h : c.args.at ≤ length c.args.out.now = omega arith in
    wider (omega arith) (then h (then h (then h c.put_decimal-next.ensures c.put_byte-next.ensures) c.put_decimal-next-2.ensures) c.put_byte.ensures)
