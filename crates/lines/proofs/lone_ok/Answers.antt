-- `lines::lone_ok` meets its contract.
use mathlib.Core.Path.{ap}
use lib.IntN.{pos}
use mir.Syntax.{w32}
use mir.Val.{of_z}
use native.Mathlib.Omega.{arith}
use Rattle.integers.specs.Laws.{eq_eq_z, ne_eq_z}
use Rattle.integers.proofs.Bits.{zero_of_bits, eqb_bits}
use Rattle.lines.specs.Refusal.{lone_ok_lem}
use Rattle.lines.proofs.lone_ok.Goals as goal

-- `lines::lone_ok` meets its contract.
pub returns-then-line-ne0 : goal.returns-then-line-ne0
unfolding lone_ok_lem
returns-then-line-ne0 c =
    let l = c.args.line in
    rw (ne_eq_z l.a (pos 0) (λ q. c.if-line-ne0.true (ap (of_z w32) q)))

pub returns : goal.returns
unfolding lone_ok_lem
returns c =
    let l = c.args.line in
    rw (eq_eq_z l.a (pos 0) (zero_of_bits w32 l.a c.struct_told-1.given.0.1 c.if-line-ne0.false))
    (eqb_bits {w = w32} {a = l.b} {b = pos 0} (record { sfits = c.struct_told-2-1.given.1.1.0.1 }) (record { sfits = omega arith }))
