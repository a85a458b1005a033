-- `c_check_shown::broken_line` meets its contract: the number fits.
use mathlib.Core.Path.{◌≡◌, refl, sym, ap, ap₂, subst, ◌∙◌}
use Prim.Native.Nat.{ℕ, ◌*◌, ◌^◌, ◌<◌}
use native.Mathlib.Omega.{arith}
use lib.IntN.{ℤ, pos, neg_ℤ, ◌-ℤ◌}
use mir.Syntax.{w64}
use mir.Val.{SFits, to_z, of_z}
use mir.Facts.{to_z-of_z, to_z_pos}
use Rattle.integers.proofs.Linear.{ints}
use Rattle.integers.proofs.Bits.{kept}
use Rattle.lines.specs.declared.Refusal.TheVariants.{BrokenLength}
use Rattle.c_codes.specs.Codes.{refusal_unit, refusal_code_lem}
use Rattle.c_check_shown.specs.Calls.{broken_line_lem}
use Rattle.c_check_shown.proofs.broken_line.Goals.{After-refusal_code}
use Rattle.c_check_shown.proofs.broken_line.Goals as goal

number : refusal_code_lem BrokenLength ≡ neg_ℤ (pos (2 * refusal_unit))
unfolding refusal_code_lem
number = refl

fits : (k : ℕ) (z : ℤ) → z ≡ neg_ℤ (pos (2 * refusal_unit)) → k < refusal_unit → SFits w64 (z -ℤ pos k)
fits k z = simp ints (omega arith)

module _ (c : After-refusal_code) where
  abbrev count : ℕ
  count = c.args.count

  abbrev code : ℤ
  code = c.refusal_code.result

  small : count < 2 ^ 63
  small = omega (arith, c.requires)

  less : to_z w64 (of_z w64 code) -ℤ to_z w64 count ≡ code -ℤ pos count
  less = ap₂ (λ (p q : ℤ). p -ℤ q) (kept w64 code c.refusal_code.type_inv) (to_z_pos w64 small)

  less_fits : SFits w64 (code -ℤ pos count)
  less_fits = fits count code (c.refusal_code.ensures ∙ number) c.requires

pub overflow_sub-result : goal.overflow_sub-result
overflow_sub-result c = subst (SFits w64) (sym (less c)) (less_fits c)

pub returns : goal.returns
unfolding broken_line_lem
returns c = ap (λ (z : ℤ). to_z w64 (of_z w64 z)) (less c) ∙ to_z-of_z (less_fits c) ∙ ap (λ (z : ℤ). z -ℤ pos (count c)) c.refusal_code.ensures
