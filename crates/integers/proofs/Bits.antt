-- A signed number and its bits: what unsigned bits say, and a cast to a wider type.
use Rattle.std.specs.Prelude.{◌≡◌, refl, ℕ, zero, suc, ◌-◌, ◌^◌, ◌<◌, ◌≤◌, Bool, true, false, T, leb, eqb, ℤ, pos, neg_ℤ, ◌-ℤ◌}
use Rattle.std.proofs.Common.{sym, ◌∙◌, zero-add, arith, eqb-true, pow_pos, to_z-of_z}
use Rattle.std.proofs.Math.Path.{ap, subst}
use Rattle.std.proofs.lemmas.Bool.{eqb-false}
use Rattle.std.proofs.Math.IntN.{negsuc}
use Rattle.std.specs.Int.Signed.{mag}
use Rattle.std.specs.Int.{Width, w64}
use mir.Val.{bits, hbits, SFits, to_z, of_z}
use Rattle.std.proofs.Math.Facts.{to_z_pos, sfits_widen}
use mir.ValLaws.{pow-bits}
use Rattle.integers.specs.Integer.{eq_z}
use Rattle.integers.proofs.Linear.{ints}
use Rattle.integers.specs.Laws.{eq_eq_z, ne_eq_z}

less_pos : (k : ℕ) → negsuc 0 -ℤ pos k ≡ negsuc k
less_pos zero = refl
less_pos (suc j) = ap (λ (m : ℕ). negsuc (suc m)) (zero-add j)

-- bits n that say a negative number: it is -1 - (all ones - n)
module _ (w : Width) (n : ℕ) (big : 2 ^ hbits w ≤ n) (fits : n < 2 ^ bits w) where
  k : ℕ
  k = 2 ^ bits w - 1 - n

  small : k < 2 ^ hbits w
  unfolding k
  small = omega (arith, pow-bits w)

  value : negsuc 0 -ℤ to_z w (2 ^ bits w - 1 - n) ≡ negsuc (2 ^ bits w - 1 - n)
  unfolding k small
  value = ap (λ (z : ℤ). negsuc 0 -ℤ z) (to_z_pos w small) ∙ less_pos k

  pub neg_fits : SFits w (negsuc 0 -ℤ to_z w (2 ^ bits w - 1 - n))
  unfolding k small
  neg_fits = subst (SFits w) (sym value) (record { sfits = small })

  back : 2 ^ bits w - suc (2 ^ bits w - 1 - n) ≡ n
  back = omega arith

  pub neg_is : to_z w (of_z w (negsuc 0 -ℤ to_z w (2 ^ bits w - 1 - n))) ≡ to_z w n
  unfolding k small
  neg_is = ap (λ (z : ℤ). to_z w (of_z w z)) value ∙ ap (to_z w) back

-- a signed number cast to 64 bits keeps its value
module _ {w : Width} {z : ℤ} (narrower : T (leb (hbits w) (hbits w64))) (fits : SFits w z) where
  pub widens : SFits w64 (to_z w (of_z w z))
  widens = subst (SFits w64) (sym (to_z-of_z fits)) (sfits_widen narrower fits)

  pub widened : to_z w64 (of_z w64 (to_z w (of_z w z))) ≡ z
  widened = ap (λ (y : ℤ). to_z w64 (of_z w64 y)) (to_z-of_z fits) ∙ to_z-of_z {w = w64} (sfits_widen narrower fits)

-- a signed number that fits is read back from its bits
pub kept : (w : Width) (z : ℤ) → mag z < 2 ^ hbits w → to_z w (of_z w z) ≡ z
kept w z h = to_z-of_z (record { sfits = h })

-- a signed number whose bits are 0 is 0
pub zero_of_bits : (w : Width) (z : ℤ) → mag z < 2 ^ hbits w → of_z w z ≡ 0 → z ≡ pos 0
zero_of_bits w z h e = sym (kept w z h) ∙ ap (to_z w) e ∙ to_z_pos w (pow_pos (hbits w))

-- two signed numbers are equal where their bits are
module _ {w : Width} {a b : ℤ} (fa : SFits w a) (fb : SFits w b) where
  pub eq_of_bits : of_z w a ≡ of_z w b → a ≡ b
  eq_of_bits e = sym (to_z-of_z fa) ∙ ap (to_z w) e ∙ to_z-of_z fb

  pub eqb_bits : eqb (of_z w a) (of_z w b) ≡ eq_z a b
  eqb_bits = go (eqb (of_z w a) (of_z w b)) refl
    where
      go : (t : Bool) → eqb (of_z w a) (of_z w b) ≡ t → t ≡ eq_z a b
      go true e = sym (eq_eq_z a b (eq_of_bits (eqb-true _ _ e)))
      go false e = sym (ne_eq_z a b (λ q. eqb-false _ _ e (ap (of_z w) q)))

-- a number negated, as the code computes it
pub minus_fits : (n : ℕ) → n < 2 ^ 63 → SFits w64 (pos 0 -ℤ pos n)
minus_fits n = simp ints (omega arith)

pub minus_is : (n : ℕ) → n < 2 ^ 63 → to_z w64 (of_z w64 (pos 0 -ℤ pos n)) ≡ neg_ℤ (pos n)
minus_is n h = to_z-of_z (minus_fits n h) ∙ less
  where
    less : pos 0 -ℤ pos n ≡ neg_ℤ (pos n)
    less = simp ints (omega arith)
