-- `seconds::usable_rate` meets its contract: the two tests say exactly that the number is finite and above zero.
use mathlib.Core.Path.{◌≡◌, refl, sym, subst, ◌∙◌}
use mathlib.Core.Bool.{true, false}
use Prim.Native.Nat.{ℕ, zero, suc, ◌*◌, ◌<◌, ◌≤◌}
use native.Mathlib.Nat.{mul-pos}
use native.Mathlib.Omega.{arith}
use lib.Pow.{pow_pos}
use lib.Dec.{T}
use lib.IntN.{ℤ, pos, negsuc}
use lib.Ieee.{Float, nan, inf, fin, binary64, lt, of_bits, up, down}
use borrow.Author.Tests.{ltb-true, ltb-false}
use Rattle.std.specs.Float.{float_is_finite}
use Rattle.seconds.specs.Clock.{usable}
use Rattle.seconds.proofs.usable_rate.Goals as goal

up_pos : (e : ℤ) → 0 < up e
up_pos (pos k) = pow_pos k
up_pos (negsuc k) = omega arith

above : (m : ℕ) (e : ℤ) → (suc m * up e * 1 ≤ 0 * 1 * down e) → ⊥
above m e h = omega (arith, mul-pos {m = suc m} {n = up e} (omega arith) (up_pos e))

yes : (x : Float) → lt (of_bits binary64 0) x ≡ true → float_is_finite x ≡ usable x
unfolding lt of_bits float_is_finite
yes nan h = absurd (subst T (sym h) tt)
yes (inf true) h = absurd (subst T (sym h) tt)
yes (inf false) h = refl
yes (fin true m e) h = absurd (subst T (sym h) tt)
yes (fin false zero e) h = absurd (omega (arith, ltb-true (0 * 1 * down e) (0 * up e * 1) h))
yes (fin false (suc m) e) h = refl

no : (x : Float) → lt (of_bits binary64 0) x ≡ false → false ≡ usable x
unfolding lt of_bits
no nan h = refl
no (inf s) h = refl
no (fin true m e) h = refl
no (fin false zero e) h = refl
no (fin false (suc m) e) h = absurd (above m e (ltb-false (0 * 1 * down e) (suc m * up e * 1) h))

pub returns-then-x : goal.returns-then-x
returns-then-x c = c.is_finite.ensures.value ∙ yes c.args.x c.if-x.true

pub returns-else-x : goal.returns-else-x
returns-else-x c = c.if-x.false ∙ no c.args.x c.if-x.false
