-- The two points of each variable x (the field's term: vertices): x+, of number 2x, stands for x, and x-, of number 2x + 1, for -x.
use Rattle.std.specs.Prelude.{◌≡◌, refl, ℕ, zero, suc, ◌+◌, ◌*◌, ◌-◌, ◌/◌, ◌%◌, ℤ, neg_ℤ}
use Rattle.std.proofs.Common.{sym, arith}
use Rattle.std.proofs.Math.IntN.{neg_ℤ-neg_ℤ}
use Rattle.lines.specs.Line.{Assignment}

-- a variable's point: sign 0 is plus, 1 is minus
abbrev pub point : ℕ → ℕ → ℕ
point x sign = 2 * x + sign

unfoldable pub opposite : ℕ → ℕ
opposite p = (p + 1) - 2 * (p % 2)

-- a value with a sign: 0 is plus, 1 is minus
abbrev pub signed : ℕ → ℤ → ℤ
signed zero z = z
signed (suc k) z = neg_ℤ z

-- what a point stands for
unfoldable pub value : Assignment → ℕ → ℤ
value s p = signed (p % 2) (s (p / 2))

pub value_opposite : (s : Assignment) (p : ℕ) → value s (opposite p) ≡ neg_ℤ (value s p)
unfolding value opposite
value_opposite s p = go (p % 2) refl
  where
    go : (r : ℕ) → p % 2 ≡ r → signed (((p + 1) - 2 * (p % 2)) % 2) (s (((p + 1) - 2 * (p % 2)) / 2)) ≡ neg_ℤ (signed (p % 2) (s (p / 2)))
    go zero e =
        let f : ((p + 1) - 2 * (p % 2)) % 2 ≡ 1 = omega arith in
        let g : ((p + 1) - 2 * (p % 2)) / 2 ≡ p / 2 = omega arith in
        rw (f, g, e)
    go (suc zero) e =
        let f : ((p + 1) - 2 * (p % 2)) % 2 ≡ 0 = omega arith in
        let g : ((p + 1) - 2 * (p % 2)) / 2 ≡ p / 2 = omega arith in
        rw (f, g, e) (sym (neg_ℤ-neg_ℤ (s (p / 2))))
    go (suc (suc r)) e = absurd (omega arith)

pub opposite_twice : (p : ℕ) → opposite (opposite p) ≡ p
unfolding opposite
opposite_twice p = omega arith
