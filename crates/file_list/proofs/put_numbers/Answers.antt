-- `file_list::put_numbers` meets its contract.
use mathlib.Core.Path.{ap, ◌∙◌}
use Prim.Native.Nat.{◌+◌, ◌*◌}
use native.Mathlib.Omega.{arith}
use borrow.Author.Rules.{rules}
use lib.IntN.{ℤ}
use mir.Syntax.{w32}
use Rattle.integers.proofs.Bits.{kept}
use Rattle.lines.specs.Line.{number}
use Rattle.little_endian.specs.Writing.{signed_bytes, put}
use Rattle.file_list.specs.Putting.{numbers_more, numbers_all}
use Rattle.file_list.proofs.put_numbers.Goals as goal

pub loop-i-preserved : goal.loop-i-preserved
loop-i-preserved c =
    let a = c.args in
    let i = c.loop-i.i in
    numbers_more a.out.now a.at a.numbers.now i (omega arith) c.loop-i.invariant
    (c.put_i32.ensures ∙ ap (λ (z : ℤ). put c.loop-i.out (a.at + 4 * i) (signed_bytes z)) (kept w32 (number a.numbers.now i) (search rules)))

pub returns : goal.returns
returns c =
    let a = c.args in
    numbers_all a.out.now a.at a.numbers.now c.loop-i.i (omega arith) c.loop-i.invariant
