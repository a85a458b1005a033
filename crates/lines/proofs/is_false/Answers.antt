-- `lines::is_false` meets its contract.
use mathlib.Core.Path.{◌≡◌, ap}
use mathlib.Core.Bool.{true}
use lib.IntN.{pos}
use mir.Syntax.{w32}
use mir.Val.{of_z}
use Rattle.integers.specs.Integer.{eq_z}
use Rattle.integers.specs.Laws.{eq_eq_z, ne_eq_z}
use Rattle.integers.proofs.Bits.{kept, zero_of_bits}
use Rattle.lines.specs.Line.{is_false_lem}
use Rattle.lines.proofs.is_false.Goals.{Else-line-ne0, Else-line-ne0-2}
use Rattle.lines.proofs.is_false.Goals as goal

-- `lines::is_false` meets its contract.
a-zero : (c : Else-line-ne0) → eq_z c.args.line.a (pos 0) ≡ true
a-zero c = let z = c.args.line.a in eq_eq_z z (pos 0) (zero_of_bits w32 z c.struct_told-1.given.0.1 c.if-line-ne0.false)

b-zero : (c : Else-line-ne0-2) → eq_z c.args.line.b (pos 0) ≡ true
b-zero c =
    let z = c.args.line.b in
    eq_eq_z z (pos 0) (zero_of_bits w32 z c.struct_told-2-1.given.1.1.0.1 c.if-line-ne0-2.false)

pub returns-then-line-ne0 : goal.returns-then-line-ne0
unfolding is_false_lem
returns-then-line-ne0 c =
    let l = c.args.line in
    rw (ne_eq_z l.a (pos 0) (λ q. c.if-line-ne0.true (ap (of_z w32) q)))

pub returns-then-line-ne0-2 : goal.returns-then-line-ne0-2
unfolding is_false_lem
returns-then-line-ne0-2 c =
    let l = c.args.line in
    rw (a-zero (goal.at.returns-then-line-ne0-2 c).Else-line-ne0, ne_eq_z l.b (pos 0) (λ q. c.if-line-ne0-2.true (ap (of_z w32) q)))

pub returns : goal.returns
unfolding is_false_lem
returns c =
    let l = c.args.line in
    rw (a-zero (goal.at.returns c).Else-line-ne0, b-zero (goal.at.returns c).Else-line-ne0-2, kept w32 l.d c.struct_told-3-1.given.1.1.1.1.0.1)
