-- `lines::variable_ok` meets its contract.
use mathlib.Core.Path.{◌≡◌, ap}
use mathlib.Core.Bool.{true, false}
use lib.IntN.{pos}
use lib.Signed.{le_z}
use mir.Syntax.{w32}
use mir.Val.{of_z}
use mir.Facts.{to_z-of_z, to_z_pos}
use native.Mathlib.Omega.{arith}
use Rattle.integers.specs.Laws.{eq_eq_z, ne_eq_z}
use Rattle.integers.proofs.Bits.{zero_of_bits, eqb_bits}
use Rattle.lines.specs.Refusal.{variable_ok_lem}
use Rattle.lines.proofs.variable_ok.Goals as goal

pub returns-then-a-eq0 : goal.returns-then-a-eq0
unfolding variable_ok_lem
returns-then-a-eq0 c =
    rw (eq_eq_z c.args.a (pos 0) (zero_of_bits w32 c.args.a c.ranges.a.sfits c.if-a-eq0.true)) (eqb_bits {w = w32} {b = pos 0} c.ranges.x (record { sfits = omega arith }))

pub returns-then-x-ge0 : goal.returns-then-x-ge0
unfolding variable_ok_lem
returns-then-x-ge0 c =
    let t : le_z (pos 0) c.args.x ≡ true = rw (to_z-of_z c.ranges.x) at c.if-x-ge0.true in
    rw (ne_eq_z c.args.a (pos 0) (λ q. c.if-a-eq0.false (ap (of_z w32) q)), t, to_z-of_z c.ranges.x, to_z_pos w32 {n = c.args.n} (omega arith))

pub returns-else-x-ge0 : goal.returns-else-x-ge0
unfolding variable_ok_lem
returns-else-x-ge0 c =
    let t : le_z (pos 0) c.args.x ≡ false = rw (to_z-of_z c.ranges.x) at c.if-x-ge0.false in
    rw (ne_eq_z c.args.a (pos 0) (λ q. c.if-a-eq0.false (ap (of_z w32) q)), to_z-of_z c.ranges.x, t)
