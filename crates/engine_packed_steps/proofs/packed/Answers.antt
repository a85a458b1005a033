-- `engine_packed_steps::packed` meets its contract: the digits are put one behind the other.
use native.Mathlib.Omega.{arith}
use mir.Syntax.{w64}
use mir.Facts.{to_z_pos, to_z-of_z}
use Rattle.engine_packed_steps.specs.Packed.{Shifts, whole, packs}
use Rattle.engine_packed_steps.proofs.packed.Goals as goal

pub returns : goal.returns
returns c =
    let a = c.args in
    let p = c.requires in
    let s : Shifts a.weight c.shifted.result = rw (to_z-of_z c.ranges.weight) at c.shifted.ensures in
    let n = c.shifted.result in
    rw (to_z_pos w64 {n = whole a.from a.to n a.number} (omega (arith, s.high, p.0, p.1, p.3)))
    (packs a.from a.to n a.number a.weight p.0 p.1 p.3 s)
