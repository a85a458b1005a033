-- `file_text::put_next` meets its contract.
use Prim.Native.Nat.{◌≤◌}
use native.Mathlib.Omega.{arith}
use lib.ListN.{length}
use Rattle.file_text.specs.Put.{then, wider, same}
use Rattle.file_text.specs.Steps.{next_first, next_later}
use Rattle.file_text.proofs.put_next.Goals as goal

pub returns-then-i-eq0 : goal.returns-then-i-eq0
returns-then-i-eq0 c =
    let a = c.args in
    same (next_first a.i a.number c.if-i-eq0.true) (wider (omega arith) c.put_decimal.ensures)

pub returns : goal.returns
returns c =
    let a = c.args in
    let h : a.at ≤ length a.out.now = omega arith in
    same (next_later a.i a.number c.if-i-eq0.false) (wider (omega arith) (then h c.put_byte-next.ensures c.put_decimal-2.ensures))
