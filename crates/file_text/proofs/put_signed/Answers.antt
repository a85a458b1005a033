-- `file_text::put_signed` meets its contract: behind the sign stands the number without it.
use mathlib.Core.Path.{ap, ◌∙◌}
use mathlib.Core.List.{◌++◌}
use Prim.Native.Nat.{ℕ, ◌≤◌}
use native.Mathlib.Omega.{arith}
use lib.IntN.{pos, nat_abs}
use lib.ListN.{length}
use mir.Facts.{to_z-of_z}
use Rattle.integers.specs.Integer.{◌⩽◌, ◌⋖◌}
use Rattle.integers.proofs.Linear.{ints, zs, given}
use Rattle.file_text.specs.Text.{minus, decimal_of}
use Rattle.file_text.specs.Put.{then, wider, same}
use Rattle.file_text.specs.Steps.{signed_below, signed_from_0}
use Rattle.file_text.proofs.put_signed.Goals as goal

pub returns-then-z-lt0 : goal.returns-then-z-lt0
returns-then-z-lt0 c =
    let a = c.args in
    let h : a.at ≤ length a.out.now = omega arith in
    let below : a.z ⋖ pos 0 = given c.if-z-lt0.true (simp (to_z-of_z c.ranges.z, ints) (omega zs)) in
    same
    (ap (λ (n : ℕ). minus ++ decimal_of n) (c.unsigned_abs.ensures.value ∙ ap nat_abs (to_z-of_z c.ranges.z)) ∙ signed_below a.z below)
    (then h c.put_byte-next.ensures c.put_decimal.ensures)

pub returns : goal.returns
returns c =
    let from_0 : pos 0 ⩽ c.args.z = given c.if-z-lt0.false (simp (to_z-of_z c.ranges.z, ints) (omega zs)) in
    same
    (ap decimal_of (c.unsigned_abs-2.ensures.value ∙ ap nat_abs (to_z-of_z c.ranges.z)) ∙ signed_from_0 c.args.z from_0)
    (wider (omega arith) c.put_decimal-2.ensures)
