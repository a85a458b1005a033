-- The specification's table of steps, over the nine coefficient pairs, of which a valid list has seven, and the one rule that all its entries obey.
use Rattle.std.specs.Prelude.{◌≡◌, refl, Bool, true, not, cond, ◌&&◌, ◌||◌, List, [], ◌∷◌, ℕ, zero, suc, ◌+◌, ◌*◌, ◌/◌, ◌%◌, ◌<◌, eqb, ltb, ℤ, pos, negsuc, ◌-ℤ◌, ◌*ℤ◌, get_or}
use Rattle.std.proofs.Common.{sym, ap, subst₂, ◌∙◌, arith, ltb-true, eq-eqb, ne_eqb, eqb-true}
use Rattle.integers.specs.Integer.{eq_z, Within}
use Rattle.integers.proofs.Linear.{zs}
use Rattle.integers.specs.Laws.{and_true, eq_z_true}
use Rattle.integers.specs.Table.{all_below, below_at}

-- For the coefficients -1, 0, 1 of x and, below each, of y: side 0's start, end and weight factor, then side 1's. An end is a place of the line and
-- a sign: 0 is x+, 1 is x-, 2 is y+, 3 is y-. A factor of 0 says that there is no step.
abbrev pub step_table : List ℕ
step_table =
    1 ∷ 2 ∷ 1 ∷ 3 ∷ 0 ∷ 1
    ∷ 1 ∷ 0 ∷ 2 ∷ 0 ∷ 0 ∷ 0
    ∷ 1 ∷ 3 ∷ 1 ∷ 2 ∷ 0 ∷ 1
    ∷ 3 ∷ 2 ∷ 2 ∷ 0 ∷ 0 ∷ 0
    ∷ 0 ∷ 0 ∷ 0 ∷ 0 ∷ 0 ∷ 0
    ∷ 2 ∷ 3 ∷ 2 ∷ 0 ∷ 0 ∷ 0
    ∷ 0 ∷ 2 ∷ 1 ∷ 3 ∷ 1 ∷ 1
    ∷ 0 ∷ 1 ∷ 2 ∷ 0 ∷ 0 ∷ 0
    ∷ 0 ∷ 3 ∷ 1 ∷ 2 ∷ 1 ∷ 1
    ∷ []

unfoldable pub entry : ℕ → ℕ
entry i = get_or step_table i 0

-- a coefficient's row and column
unfoldable pub digit : ℤ → ℕ
digit (negsuc n) = 0
digit (pos zero) = 1
digit (pos (suc n)) = 2

-- where the three numbers of a coefficient pair and a side begin
abbrev pub cell : ℤ → ℤ → ℕ → ℕ
cell a b side = 6 * (3 * digit a + digit b) + 3 * side

-- how often an end counts the line's x, and its y
abbrev pub count_x : ℕ → ℤ
count_x zero = pos 1
count_x (suc zero) = negsuc 0
count_x (suc (suc c)) = pos 0

abbrev pub count_y : ℕ → ℤ
count_y zero = pos 0
count_y (suc zero) = pos 0
count_y (suc (suc zero)) = pos 1
count_y (suc (suc (suc c))) = negsuc 0

-- the coefficient with a digit
abbrev pub coefficient : ℕ → ℤ
coefficient zero = negsuc 0
coefficient (suc zero) = pos 0
coefficient (suc (suc n)) = pos 1

-- an end of a step: it counts a place of the line whose coefficient is not 0
abbrev pub is_end : ℕ → ℕ → ℕ → Bool
is_end a b c = ltb c 4 && not (eqb (cond (ltb c 2) a b) 1)

-- the rule of cell i, whose coefficients have the digits i / 6 and i / 2 % 3: what the start counts less what the end counts is the factor times
-- the coefficients; the factor is at most 2; and where there is a step, its start and end are ends
abbrev is_right : ℕ → Bool
is_right i =
    let a = i / 6 in
    let b = i / 2 % 3 in
    let start = entry (3 * i) in
    let end = entry (3 * i + 1) in
    let factor = entry (3 * i + 2) in
    eq_z (count_x start -ℤ count_x end) (pos factor *ℤ coefficient a)
    && (eq_z (count_y start -ℤ count_y end) (pos factor *ℤ coefficient b)
    && (ltb factor 3 && (eqb factor 0 || (is_end a b start && is_end a b end))))

all_right : all_below 18 is_right ≡ true
unfolding entry
all_right = refl

pub record CellRule (a b c : ℕ) : Type 0 where
  pub x : count_x (entry c) -ℤ count_x (entry (c + 1)) ≡ pos (entry (c + 2)) *ℤ coefficient a
  pub y : count_y (entry c) -ℤ count_y (entry (c + 1)) ≡ pos (entry (c + 2)) *ℤ coefficient b
  pub factor : entry (c + 2) < 3
  pub start : (entry (c + 2) ≡ 0 → ⊥) → is_end a b (entry c) ≡ true
  pub end : (entry (c + 2) ≡ 0 → ⊥) → is_end a b (entry (c + 1)) ≡ true

or_right : (f : ℕ) (t : Bool) → (eqb f 0 || t) ≡ true → (f ≡ 0 → ⊥) → t ≡ true
or_right f t e n = ap (λ (b : Bool). b || t) (sym (ne_eqb f 0 n)) ∙ e

cell_rule : (i : ℕ) → i < 18 → CellRule (i / 6) (i / 2 % 3) (3 * i)
cell_rule i h =
    let f = entry (3 * i + 2) in
    let p = and_true (eq_z (count_x (entry (3 * i)) -ℤ count_x (entry (3 * i + 1))) (pos f *ℤ coefficient (i / 6))) _ (below_at 18 is_right all_right i h) in
    let q = and_true (eq_z (count_y (entry (3 * i)) -ℤ count_y (entry (3 * i + 1))) (pos f *ℤ coefficient (i / 2 % 3))) _ p.1 in
    let r = and_true (ltb f 3) _ q.1 in
    let ends : (f ≡ 0 → ⊥) → (is_end (i / 6) (i / 2 % 3) (entry (3 * i)) ≡ true) × (is_end (i / 6) (i / 2 % 3) (entry (3 * i + 1)) ≡ true) =
    λ n. and_true _ _ (or_right f _ r.1 n) in
    record {
      x = eq_z_true _ _ p.0;
      y = eq_z_true _ _ q.0;
      factor = ltb-true _ _ r.0;
      start = λ n. (ends n).0;
      end = λ n. (ends n).1;
    }

-- the rule at a pair of digits and a side
pub rule_at : (a b side : ℕ) → a < 3 → b < 3 → side < 2 → CellRule a b (6 * (3 * a + b) + 3 * side)
rule_at a b side ha hb hs =
    let i : ℕ = 2 * (3 * a + b) + side in
    let e : 6 * (3 * a + b) + 3 * side ≡ 3 * i = omega arith in
    let ea : i / 6 ≡ a = omega arith in
    let eb : i / 2 % 3 ≡ b = omega arith in
    rw e (subst₂ (λ (x y : ℕ). CellRule x y (3 * i)) ea eb (cell_rule i (omega arith)))

pub digit_lt : (z : ℤ) → digit z < 3
unfolding digit
digit_lt (negsuc n) = omega arith
digit_lt (pos zero) = omega arith
digit_lt (pos (suc n)) = omega arith

-- a coefficient is the one with its digit
pub coefficient_digit : (z : ℤ) → Within 1 z → coefficient (digit z) ≡ z
unfolding digit
coefficient_digit (pos zero) h = refl
coefficient_digit (pos (suc zero)) h = refl
coefficient_digit (pos (suc (suc n))) h = absurd (omega (zs, h.high))
coefficient_digit (negsuc zero) h = refl
coefficient_digit (negsuc (suc n)) h = absurd (omega (zs, h.low))

-- side 0 is missing at the pair zero, zero alone
is_missing : ℕ → Bool
is_missing i = not (eqb (entry (6 * i + 2)) 0) || eqb i 4

all_missing : all_below 9 is_missing ≡ true
unfolding entry is_missing
all_missing = refl

pub missing : (a b : ℕ) → a < 3 → b < 3 → entry (6 * (3 * a + b) + 3 * 0 + 2) ≡ 0 → (a ≡ 1) × (b ≡ 1)
unfolding is_missing
missing a b ha hb e =
    let i : ℕ = 3 * a + b in
    let q : 6 * i + 2 ≡ 6 * i + 3 * 0 + 2 = omega arith in
    let z : entry (6 * i + 2) ≡ 0 = ap entry q ∙ e in
    let t : (not (eqb (entry (6 * i + 2)) 0) || eqb i 4) ≡ true = below_at 9 is_missing all_missing i (omega arith) in
    let f : i ≡ 4 = eqb-true i 4 (ap (λ (b : Bool). not b || eqb i 4) (sym (eq-eqb _ 0 z)) ∙ t) in
    (omega arith, omega arith)
