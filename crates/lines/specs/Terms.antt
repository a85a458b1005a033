-- The terms of a line that are not zero: with its d and its identifier they determine a valid line, and so those of all lines a valid list.
use Rattle.std.specs.Prelude.{◌≡◌, refl, Bool, true, false, cond, ◌&&◌, List, [], ◌∷◌, ◌++◌, ℕ, ◌<◌, ℤ, pos, get_or, Ok}
use Rattle.std.proofs.Common.{sym, ap, ◌∙◌, arith}
use Rattle.std.specs.Int.Signed.{le_z, lt_z}
use Rattle.integers.specs.Integer.{eq_z}
use Rattle.integers.specs.Laws.{never, eq_z_true}
use Rattle.integers.specs.Sequence.{tabulate, tabulate_cong}
use Rattle.lines.specs.declared.Line.{Line}
use Rattle.lines.specs.declared.Refusal.TheVariants.{MisplacedCoefficient}
use Rattle.lines.specs.Line.{line_at, line_count, numbers_of}
use Rattle.lines.specs.LineNumbers.{numbers_of_lines}
use Rattle.lines.specs.Refusal.{variable_ok_lem, lone_ok_lem, line_validity_lem, validity_of}
use Rattle.lines.specs.Valid.{rule_holds, line_variables, valid_list}

-- a coefficient and the number of its variable
pub record Term : Type 0 where
  pub coefficient : ℤ
  pub variable : ℤ

-- a·x, unless a is 0
abbrev pub term_of : ℤ → ℤ → List Term
term_of a x = cond (eq_z a (pos 0)) [] (record { coefficient = a; variable = x } ∷ [])

-- the terms that are not zero, in order
unfoldable pub terms_of : Line → List Term
terms_of l = term_of l.a l.x ++ term_of l.b l.y

-- two lists whose lines mean the same: as many lines, and each with the same terms in the same order, the same d and the same identifier
pub record SameTerms (L M : List ℤ) : Type 0 where
  pub count : line_count L ≡ line_count M
  pub terms : (k : ℕ) → k < line_count L → terms_of (line_at L k) ≡ terms_of (line_at M k)
  pub constant : (k : ℕ) → k < line_count L → (line_at L k).d ≡ (line_at M k).d
  pub identifier : (k : ℕ) → k < line_count L → (line_at L k).identifier ≡ (line_at M k).identifier

-- ---- the line is read back from its terms: the first stands in the first place, the second in the second, and where there is none are zeros
abbrev term_at : List Term → ℕ → Term
term_at ts i = get_or ts i (record { coefficient = pos 0; variable = pos 0 })

abbrev line_with : List Term → ℤ → ℤ → Line
line_with ts d i =
    record { a = (term_at ts 0).coefficient; x = (term_at ts 0).variable; b = (term_at ts 1).coefficient; y = (term_at ts 1).variable; d = d; identifier = i }

-- by rule 12 a coefficient 0 in the first place has another in the second, by rule 5 the variable beside it is 0
line_with_terms : (n k : ℕ) (l : Line) → line_validity_lem n k l ≡ Ok tt → line_with (terms_of l) l.d l.identifier ≡ l
unfolding terms_of variable_ok_lem lone_ok_lem
line_with_terms n k l e =
    let v = line_variables n k l e in
    go (eq_z l.a (pos 0)) (eq_z l.b (pos 0)) refl refl v.0 v.1 (rule_holds n k l MisplacedCoefficient e)
  where
    go : (s t : Bool) → eq_z l.a (pos 0) ≡ s → eq_z l.b (pos 0) ≡ t
        → cond s (eq_z l.x (pos 0)) (le_z (pos 0) l.x && lt_z l.x (pos n)) ≡ true
        → cond t (eq_z l.y (pos 0)) (le_z (pos 0) l.y && lt_z l.y (pos n)) ≡ true
        → cond s t true ≡ true
        → line_with (cond s [] (record { coefficient = l.a; variable = l.x } ∷ []) ++ cond t [] (record { coefficient = l.b; variable = l.y } ∷ [])) l.d l.identifier ≡ l
    go true true a b x y lone =
        λ i.
        record {
          a = sym (eq_z_true l.a (pos 0) a) i;
          x = sym (eq_z_true l.x (pos 0) x) i;
          b = sym (eq_z_true l.b (pos 0) b) i;
          y = sym (eq_z_true l.y (pos 0) y) i;
          d = l.d;
          identifier = l.identifier;
        }
    go true false a b x y lone = never (cc)
    go false true a b x y lone =
        λ i.
        record {
          a = l.a;
          x = l.x;
          b = sym (eq_z_true l.b (pos 0) b) i;
          y = sym (eq_z_true l.y (pos 0) y) i;
          d = l.d;
          identifier = l.identifier;
        }
    go false false a b x y lone = refl

-- ---- so two valid lines with the same terms, d and identifier are one
pub line_by_terms : (n m j k : ℕ) (l o : Line) → line_validity_lem n j l ≡ Ok tt → line_validity_lem m k o ≡ Ok tt
    → terms_of l ≡ terms_of o → l.d ≡ o.d → l.identifier ≡ o.identifier → l ≡ o
line_by_terms n m j k l o v w t d i = sym (line_with_terms n j l v) ∙ (λ r. line_with (t r) (d r) (i r)) ∙ line_with_terms m k o w

-- and two valid lists whose lines mean the same are one
pub list_by_terms : (n m : ℕ) (L M : List ℤ) → validity_of n L ≡ Ok tt → validity_of m M ≡ Ok tt → SameTerms L M → L ≡ M
list_by_terms n m L M v w same =
    sym (numbers_of_lines L (omega (arith, (valid_list n L v).whole)))
    ∙ ap numbers_of (tabulate_cong (line_count L) (line_at L) (line_at M) each ∙ ap (λ (c : ℕ). tabulate c (line_at M)) same.count)
    ∙ numbers_of_lines M (omega (arith, (valid_list m M w).whole))
  where
    each : (k : ℕ) → k < line_count L → line_at L k ≡ line_at M k
    each k h =
        line_by_terms n m k k (line_at L k) (line_at M k) ((valid_list n L v).each k h) ((valid_list m M w).each k (omega (arith, same.count))) (same.terms k h) (same.constant k h) (same.identifier k h)
