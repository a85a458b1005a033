-- `steps::weight_of` meets its contract.
use mathlib.Core.Path.{◌≡◌, sym, subst, ◌∙◌}
use Prim.Native.Nat.{ℕ, ◌<◌}
use native.Mathlib.Omega.{arith}
use lib.IntN.{ℤ, pos, ◌+ℤ◌, ◌*ℤ◌}
use mir.Syntax.{w32, w64}
use mir.Val.{SFits}
use mir.Facts.{to_z-of_z}
use Rattle.integers.proofs.Linear.{ints, zs}
use Rattle.integers.proofs.Bits.{widens, widened}
use Rattle.steps.proofs.weight_of.Goals.{Start}
use Rattle.steps.proofs.weight_of.Goals as goal

once : (k : ℕ) (d : ℤ) → k ≡ 1 → d ≡ pos k *ℤ d
once k d e = subst (λ (j : ℕ). d ≡ pos j *ℤ d) (sym e) (simp ints (omega arith))

twice : (k : ℕ) (d : ℤ) → k ≡ 2 → d +ℤ d ≡ pos k *ℤ d
twice k d e = subst (λ (j : ℕ). d +ℤ d ≡ pos j *ℤ d) (sym e) (simp ints (omega arith))

two : (k : ℕ) → (k ≡ 0 → ⊥) → (k ≡ 1 → ⊥) → k < 3 → k ≡ 2
two k h g l = omega arith

module _ (s : Start) where
  abbrev d : ℤ
  d = s.args.d

  sum_fits : SFits w64 (d +ℤ d)
  sum_fits = simp ints (omega (zs, s.requires.2))

pub overflow_cast-w : goal.overflow_cast-w
overflow_cast-w c = widens {w = w32} tt c.ranges.d

pub overflow_add-result : goal.overflow_add-result
overflow_add-result c = rw (widened {w = w32} {z = c.args.d} tt c.ranges.d) (sum_fits (goal.at.overflow_add-result c).Start)

pub returns-then-factor-eq1 : goal.returns-then-factor-eq1
returns-then-factor-eq1 c = widened {w = w32} tt c.ranges.d ∙ once _ _ c.if-factor-eq1.true

pub returns-else-factor-eq1 : goal.returns-else-factor-eq1
returns-else-factor-eq1 c =
    rw (widened {w = w32} {z = c.args.d} tt c.ranges.d) (to_z-of_z (sum_fits (goal.at.returns-else-factor-eq1 c).Start) ∙ twice c.args.factor c.args.d (two _ c.requires.0 c.if-factor-eq1.false c.requires.1))
