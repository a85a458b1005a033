-- `steps::digit_of` meets its contract.
use mathlib.Core.Path.{◌≡◌, refl, sym, subst, ap}
use mathlib.Core.Bool.{true, false}
use Prim.Native.Nat.{zero, suc}
use native.Mathlib.Nat.{not-suc-le-zero}
use borrow.Author.Rules.{rules}
use borrow.Author.Tests.{ltb-true}
use lib.Dec.{T}
use lib.IntN.{ℤ, pos, negsuc}
use lib.Signed.{lt_z}
use mir.Syntax.{w32}
use mir.Val.{of_z}
use mir.Facts.{to_z-of_z}
use Rattle.integers.proofs.Bits.{zero_of_bits}
use Rattle.steps.specs.Table.{digit}
use Rattle.steps.proofs.digit_of.Goals as goal

below : (z : ℤ) → lt_z z (pos 0) ≡ true → digit z ≡ 0
unfolding digit
below (pos n) h = absurd (not-suc-le-zero (ltb-true n 0 h))
below (negsuc n) h = refl

above : (z : ℤ) → lt_z z (pos 0) ≡ false → (z ≡ pos 0 → ⊥) → digit z ≡ 2
unfolding digit
above (pos zero) h n = absurd (n refl)
above (pos (suc k)) h n = refl
above (negsuc k) h n = absurd (subst T h tt)

pub returns-then-a-lt0 : goal.returns-then-a-lt0
returns-then-a-lt0 c = (sym (below c.args.a (rw (to_z-of_z c.ranges.a) at c.if-a-lt0.true)), search rules)

pub returns-then-a-eq0 : goal.returns-then-a-eq0
unfolding digit
returns-then-a-eq0 c = (sym (ap digit (zero_of_bits w32 c.args.a c.ranges.a.sfits c.if-a-eq0.true)), search rules)

pub returns-else-a-eq0 : goal.returns-else-a-eq0
returns-else-a-eq0 c =
    (sym (above c.args.a (rw (to_z-of_z c.ranges.a) at c.if-a-lt0.false) (λ q. c.if-a-eq0.false (ap (of_z w32) q))), search rules)
