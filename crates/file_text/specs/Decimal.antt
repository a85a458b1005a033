-- What `io::decimal` writes is the number in decimal.
use Rattle.std.specs.Prelude.{◌≡◌, refl, Bool, true, false, cond, List, [], ◌∷◌, ◌++◌, ℕ, zero, suc, ◌+◌, ◌-◌, ◌/◌, ◌%◌, ◌^◌, ◌≤◌, ◌<◌, ltb}
use Rattle.std.proofs.Common.{sym, ap, subst, ◌∙◌, arith, lt-ltb, ltb-true, ltb-false}
use Rattle.std.proofs.Math.Nat.{pow-succ', one-le-pow, pow-le-pow_right}
use Rattle.io.specs.Digits.{hex_digit_ascii, last_digits, IsDigitCount}
use Rattle.lines.specs.Limits.{absent_least}
use Rattle.file_text.specs.Text.{minus, decimal_below, decimal_of, signed_text}

-- a decimal digit
digit : (n : ℕ) → hex_digit_ascii (n % 10) ≡ 48 + n % 10
digit n = ap (λ (t : Bool). cond t (48 + n % 10) (87 + n % 10)) (lt-ltb (n % 10) 10 (omega arith))

-- of two or more digits the first is not 0
full : (n k : ℕ) → IsDigitCount 10 1 n (suc (suc k)) → 10 ^ suc k ≤ n
full n k f =
    let e : suc (suc k) - 1 ≡ suc k = omega arith in
    subst (λ (i : ℕ). 10 ^ i ≤ n) e (f.2 (omega arith))

-- below 10 there is one
short : (n k : ℕ) → n < 10 → IsDigitCount 10 1 n (suc k) → k ≡ 0
short n zero h f = refl
short n (suc k) h f = absurd (omega (arith, full n k f, pow-succ' 10 k, one-le-pow k 10 (omega arith)))

-- the digits in front of the last one are the fewest too
front : (n k : ℕ) → 10 ≤ n → IsDigitCount 10 1 n (suc k) → IsDigitCount 10 1 (n / 10) k
front n zero h f = absurd (omega (arith, f.1))
front n (suc k) h f = (omega arith, omega (arith, pow-succ' 10 (suc k), f.1), λ _. first n k h f)
  where
    first : (n k : ℕ) → 10 ≤ n → IsDigitCount 10 1 n (suc (suc k)) → 10 ^ (suc k - 1) ≤ n / 10
    first n k h f =
        let e : k ≡ suc k - 1 = omega arith in
        let q : 10 ^ k ≤ n / 10 = omega (arith, pow-succ' 10 k, full n k f) in
        subst (λ (i : ℕ). 10 ^ i ≤ n / 10) e q

-- the text from its last digit and its test
last : (m n : ℕ) (t : Bool) → ltb n 10 ≡ t → cond t [] (decimal_below m (n / 10)) ++ hex_digit_ascii (n % 10) ∷ [] ≡ decimal_below (suc m) n
unfolding decimal_below
last m n t e = rw (e, digit n)

module _ (m n k : ℕ) (f : IsDigitCount 10 1 n (suc k)) (rest : 10 ≤ n → last_digits 10 k (n / 10) ≡ decimal_below m (n / 10)) where
  step : (t : Bool) → ltb n 10 ≡ t → last_digits 10 (suc k) n ≡ decimal_below (suc m) n
  step true e = ap (λ (i : ℕ). last_digits 10 i (n / 10) ++ hex_digit_ascii (n % 10) ∷ []) (short n k (ltb-true n 10 e) f) ∙ last m n true e
  step false e = ap (λ (l : List ℕ). l ++ hex_digit_ascii (n % 10) ∷ []) (rest (ltb-false n 10 e)) ∙ last m n false e

decimal_below_law : (m n k : ℕ) → n < m → IsDigitCount 10 1 n k → last_digits 10 k n ≡ decimal_below m n
decimal_below_law zero n k h f = absurd (omega arith)
decimal_below_law (suc m) n zero h f = absurd (omega arith)
decimal_below_law (suc m) n (suc k) h f = step m n k f (λ t. decimal_below_law m (n / 10) k (omega arith) (front n k t f)) (ltb n 10) refl

-- the fewest digits of n say n
pub decimal_is : (n k : ℕ) → IsDigitCount 10 1 n k → last_digits 10 k n ≡ decimal_of n
unfolding decimal_of
decimal_is n k f = decimal_below_law (suc n) n k (omega arith) f

-- a 64-bit number has at most 20
pub few : (n k : ℕ) → n < 2 ^ 64 → IsDigitCount 10 1 n k → k ≤ 20
few n k h f = not_more (λ t. more t)
  where
    not_more : (20 < k → ⊥) → k ≤ 20
    not_more g = omega arith

    more : 20 < k → ⊥
    more t =
        let e : 20 ≤ k - 1 = omega arith in
        let p : 10 ^ 20 ≤ 10 ^ (k - 1) = pow-le-pow_right {n = 10} (omega arith) e in
        omega (arith, f.2 (omega arith))

-- the lowest 64-bit number: "-9223372036854775808"
lowest : signed_text absent_least
    ≡ 45 ∷ 57 ∷ 50 ∷ 50 ∷ 51 ∷ 51 ∷ 55 ∷ 50 ∷ 48 ∷ 51 ∷ 54 ∷ 56 ∷ 53 ∷ 52 ∷ 55 ∷ 55 ∷ 53 ∷ 56 ∷ 48 ∷ 56 ∷ []
unfolding signed_text
lowest = ap (λ (l : List ℕ). minus ++ l) (sym (decimal_is (2 ^ 63) 19 (omega arith, omega arith, λ _. omega arith)))
