-- The numbers of a valid list fit 32 bits, and so do those of a line that is shown.
use Rattle.std.specs.Prelude.{◌≡◌, refl, Bool, true, false, cond, ◌&&◌, List, [], ◌∷◌, ℕ, zero, suc, ◌+◌, ◌*◌, ◌/◌, ◌%◌, ◌<◌, ◌≤◌, ltb, ℤ, pos, length, Ok}
use Rattle.std.proofs.Common.{subst, arith, ltb-true, ltb-false, SFits}
use Rattle.std.proofs.Math.ListN.{get_or-eq_default}
use Rattle.std.specs.Int.Signed.{le_z, lt_z}
use Rattle.std.specs.Int.{w32}
use Rattle.integers.specs.Integer.{eq_z, Within}
use Rattle.integers.proofs.Linear.{ints, given, given₂}
use Rattle.integers.specs.Laws.{and_true, eq_z_true}
use Rattle.lines.specs.declared.Line.{Line}
use Rattle.lines.specs.Limits.{line_size, max_variables, max_constant, shown_constant_lem}
use Rattle.lines.specs.Line.{number, line_numbers_lem, line_at, line_count}
use Rattle.lines.specs.LineNumbers.{number_at}
use Rattle.lines.specs.Refusal.{variable_ok_lem, rules_within, first_broken, shown_validity_lem, validity_of}
use Rattle.lines.specs.Valid.{IdentifierOk, ListOk, variables_within, line_within, valid_list}

within_fits : (m : ℕ) (z : ℤ) → m ≤ shown_constant_lem max_variables → Within m z → SFits w32 z
within_fits m z l h = given₂ h.low h.high (simp ints (omega arith))

variable_fits : (n : ℕ) (a x : ℤ) → n ≤ max_variables → variable_ok_lem n a x ≡ true → SFits w32 x
unfolding variable_ok_lem
variable_fits n a x h = go (eq_z a (pos 0))
  where
    go : (t : Bool) → cond t (eq_z x (pos 0)) (le_z (pos 0) x && lt_z x (pos n)) ≡ true → SFits w32 x
    go true e = given (eq_z_true x (pos 0) e) (simp ints (omega arith))
    go false e =
        let t = and_true (le_z (pos 0) x) (lt_z x (pos n)) e in
        given₂ t.0 t.1 (simp ints (omega arith))

identifier_fits : (i : ℤ) → IdentifierOk i → SFits w32 i
identifier_fits i h = given₂ h.low h.high (simp ints (omega arith))

-- each number of a list
abbrev Each : (ℤ → Type 0) → List ℤ → Type 0
Each P [] = Unit {0}
Each P (z ∷ zs) = P z × Each P zs

-- also the 0 beyond
each_everywhere : (zs : List ℤ) → Each (SFits w32) zs → (i : ℕ) → SFits w32 (number zs i)
each_everywhere [] h i = record { sfits = omega arith }
each_everywhere (z ∷ zs) h zero = h.0
each_everywhere (z ∷ zs) h (suc i) = each_everywhere zs h.1 i

-- by the rules, whatever the limit of d is: each keeps its own numbers within 32 bits
line_fits : (most n k : ℕ) (l : Line) → most ≤ shown_constant_lem max_variables → n ≤ max_variables → first_broken (rules_within (pos most)) n k l ≡ Ok tt → Each (SFits w32) (line_numbers_lem l)
unfolding line_numbers_lem
line_fits most n k l low few e =
    let ok = line_within most n k l e in
    let v = variables_within most n k l e in (
      within_fits 1 _ (omega arith) ok.coefficient_a,
      (variable_fits n _ _ few v.0, (within_fits 1 _ (omega arith) ok.coefficient_b, (variable_fits n _ _ few v.1, (within_fits most _ low ok.constant, (identifier_fits _ ok.identifier, tt))))),
    )

pub shown_fits : (n k : ℕ) (l : Line) → n ≤ max_variables → shown_validity_lem n k l ≡ Ok tt → (i : ℕ) → SFits w32 (number (line_numbers_lem l) i)
shown_fits n k l few e = each_everywhere (line_numbers_lem l) (line_fits (shown_constant_lem n) n k l (omega (arith, few)) few e)

module _ (n : ℕ) (L : List ℤ) (v : validity_of n L ≡ Ok tt) where
  ok : ListOk n L
  ok = valid_list n L v

  number_fits : (k j : ℕ) → k < line_count L → j < line_size → SFits w32 (number L (line_size * k + j))
  number_fits k j h l =
      subst (SFits w32) (number_at L k h j l)
      (each_everywhere (line_numbers_lem (line_at L k)) (line_fits max_constant n k (line_at L k) (omega arith) ok.variables (ok.each k h)) j)

  pub numbers_fit : (i : ℕ) → SFits w32 (number L i)
  numbers_fit i = go (ltb i (length L)) refl
    where
      go : (t : Bool) → ltb i (length L) ≡ t → SFits w32 (number L i)
      go true e =
          let z : line_size * (i / line_size) + i % line_size ≡ i = omega arith in
          rw z at (number_fits (i / line_size) (i % line_size) (omega (arith, ltb-true i (length L) e, ok.whole)) (omega arith))
      go false e = rw (get_or-eq_default L (pos 0) (ltb-false i (length L) e)) (record { sfits = omega arith })
