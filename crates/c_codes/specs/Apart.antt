-- The number returned tells refusals apart, from each other and from every other answer.
use Rattle.std.specs.Prelude.{◌≡◌, ℕ, ◌+◌, ◌*◌, ◌<◌, pos, neg_ℤ}
use Rattle.std.proofs.Common.{arith}
use Rattle.integers.proofs.Linear.{ints}
use Rattle.lines.specs.declared.Refusal.{Refusal}
use Rattle.lines.specs.Refusal.{number_of, place_of}
use Rattle.lines.specs.Numbers.{number_some, one_refusal}
use Rattle.c_codes.specs.Codes.{refusal_unit, refusal_code_lem}

same_number : (a b : ℕ) → neg_ℤ (pos a) ≡ neg_ℤ (pos b) → a ≡ b
same_number a b = simp ints (omega arith)

not_negative : (a b : ℕ) → 0 < a → pos b ≡ neg_ℤ (pos a) → ⊥
not_negative a b = simp ints (omega arith)

-- refusals with one code are one refusal; no other answer has its code
pub refusals_apart : (r s : Refusal) → place_of r < refusal_unit → place_of s < refusal_unit → refusal_code_lem r ≡ refusal_code_lem s → r ≡ s
unfolding refusal_code_lem
refusals_apart r s h k e =
    let q : number_of r * refusal_unit + place_of r ≡ number_of s * refusal_unit + place_of s = same_number _ _ e in
    one_refusal r s (omega arith) (omega arith)

pub no_refusal : (n : ℕ) (r : Refusal) → pos n ≡ refusal_code_lem r → ⊥
unfolding refusal_code_lem
no_refusal n r = not_negative (number_of r * refusal_unit + place_of r) n (omega (arith, number_some r))

pub same_pos : (a b : ℕ) → pos a ≡ pos b → a ≡ b
same_pos a b = simp ints (omega arith)
