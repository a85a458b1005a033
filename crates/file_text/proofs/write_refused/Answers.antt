-- `file_text::write_refused` meets its contract.
use Prim.Native.Nat.{◌≤◌}
use native.Mathlib.Omega.{arith}
use lib.ListN.{length}
use Rattle.file_text.specs.Text.{refused_text}
use Rattle.file_text.specs.Put.{then, wrote}
use Rattle.file_text.proofs.write_refused.Goals as goal

pub returns : goal.returns
unfolding refused_text
returns c =
    let h : 0 ≤ length c.args.out.now = omega arith in
    let number = then h c.put_text-next.ensures c.put_decimal-next.ensures in
    let place = then h (then h number c.put_byte-next.ensures) c.put_decimal-next-2.ensures in
    wrote (omega arith) (then h place c.put_byte.ensures)
