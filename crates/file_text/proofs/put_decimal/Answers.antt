-- `file_text::put_decimal` meets its contract: the digits are the number's, and at most 20.
use mathlib.Core.Path.{◌∙◌}
use Prim.Native.Nat.{◌≤◌}
use native.Mathlib.Omega.{arith}
use lib.ListN.{length, take, length-take}
use Rattle.file_text.specs.Decimal.{decimal_is, few}
use Rattle.file_text.specs.Put.{wider, same}
use Rattle.file_text.proofs.put_decimal.Goals as goal

pub returns : goal.returns
returns c =
    let count = c.decimal-count.result in
    let k = c.decimal-count.ensures in
    let short : length (take count c.decimal-count.new.out) ≤ 20 = simp length-take (omega (arith, few c.args.n count c.ranges.n.fits k.len)) in
    same (k.digits ∙ decimal_is c.args.n count k.len) (wider short c.put_text.ensures)
