-- The opposite of a line: an assignment meets it exactly if it does not meet the line. A valid list with the opposite of a line behind it is one that
-- deciding works on, and its solutions are those of the list that do not meet the line.
use Rattle.std.specs.Prelude.{◌≡◌, ◌↔◌, List, [], ◌∷◌, ◌++◌, ℕ, ◌+◌, ◌%◌, ◌≤◌, ℤ, pos, neg_ℤ, nat_abs, ◌+ℤ◌, ◌-ℤ◌, ◌*ℤ◌, length, Ok}
use Rattle.std.proofs.Common.{sym, ap, ap₂, subst, ◌∙◌, arith}
use Rattle.integers.specs.Integer.{◌⩽◌, Within}
use Rattle.integers.proofs.Linear.{ints, given}
use Rattle.integers.proofs.Products.{neg_times}
use Rattle.lines.specs.declared.Line.{Line}
use Rattle.lines.specs.Limits.{line_size, max_variables, max_constant, shown_constant_lem, model_constant}
use Rattle.lines.specs.Line.{line_numbers_lem, lines_of, Assignment, left_side_lem, Meets, Solves}
use Rattle.lines.specs.LineNumbers.{lines_snoc}
use Rattle.lines.specs.Refusal.{line_validity_lem, validity_of}
use Rattle.lines.specs.Solutions.{solves_append}
use Rattle.lines.specs.Valid.{LineWithin, LineWorks, Workable, Modellable, line_ok, line_works, works_more, modellable_works}

-- -a·x - b·y ≤ -d - 1: places and identifier stay
unfoldable pub opposite : Line → Line
opposite l =
    record { a = neg_ℤ l.a; x = l.x; b = neg_ℤ l.b; y = l.y; d = neg_ℤ l.d -ℤ pos 1; identifier = l.identifier }

-- a list with the opposite of a line behind it
abbrev pub opposed : List ℤ → Line → List ℤ
opposed L l = L ++ line_numbers_lem (opposite l)

-- ---- what it says
side_opposite : (s : Assignment) (l : Line) → left_side_lem s (opposite l) ≡ neg_ℤ (left_side_lem s l)
unfolding opposite left_side_lem
side_opposite s l =
    let u = s (nat_abs l.x) in
    let v = s (nat_abs l.y) in
    ap₂ (λ (p q : ℤ). p +ℤ q) (neg_times l.a u) (neg_times l.b v) ∙ sum (l.a *ℤ u) (l.b *ℤ v)
  where
    sum : (p q : ℤ) → neg_ℤ p +ℤ neg_ℤ q ≡ neg_ℤ (p +ℤ q)
    sum p q = simp ints (omega arith)

-- over whole numbers the one is met exactly where the other is not
pub meets_opposite : (s : Assignment) (l : Line) → Meets s (opposite l) ↔ (Meets s l → ⊥)
unfolding opposite
meets_opposite s l = ((λ h m. clash (left_side_lem s l) l.d (rw (side_opposite s l) at h) m), (λ f. rw (side_opposite s l) (beyond (left_side_lem s l) l.d f)))
  where
    clash : (z d : ℤ) → neg_ℤ z ⩽ neg_ℤ d -ℤ pos 1 → z ⩽ d → ⊥
    clash z d = simp ints (omega arith)

    beyond : (z d : ℤ) → (z ⩽ d → ⊥) → neg_ℤ z ⩽ neg_ℤ d -ℤ pos 1
    beyond z d = simp ints (omega arith)

-- ---- deciding works on it
opposite_within : (most n : ℕ) (l : Line) → LineWithin most n l → LineWithin (most + 1) n (opposite l)
unfolding opposite
opposite_within most n l o =
    record {
      coefficient_a = one l.a o.coefficient_a;
      coefficient_b = one l.b o.coefficient_b;
      variable_x = λ f. o.variable_x (λ z. f (ap neg_ℤ z));
      variable_y = λ f. o.variable_y (λ z. f (ap neg_ℤ z));
      constant = below l.d o.constant;
      identifier = o.identifier;
    }
  where
    one : (z : ℤ) → Within 1 z → Within 1 (neg_ℤ z)
    one z h = record { low = given h.high (simp ints (omega arith)); high = given h.low (simp ints (omega arith)) }

    below : (z : ℤ) → Within most z → Within (most + 1) (neg_ℤ z -ℤ pos 1)
    below z h = record { low = given h.high (simp ints (omega arith)); high = given h.low (simp ints (omega arith)) }

pub opposite_works : (most n : ℕ) (l : Line) → most ≤ shown_constant_lem max_variables → LineWithin most n l → LineWorks n (opposite l)
opposite_works most n l small o = line_works (most + 1) n (opposite l) (omega arith) (opposite_within most n l o)

-- and writes the model
pub opposed_modellable : (n k : ℕ) (L : List ℤ) (l : Line) → validity_of n L ≡ Ok tt → line_validity_lem n k l ≡ Ok tt → Modellable n (opposed L l)
opposed_modellable n k L l v e = works_more model_constant n L (omega arith) v (opposite l) (opposite_within max_constant n l (line_ok n k l e))

pub opposed_works : (n k : ℕ) (L : List ℤ) (l : Line) → validity_of n L ≡ Ok tt → line_validity_lem n k l ≡ Ok tt → Workable n (opposed L l)
opposed_works n k L l v e = modellable_works n (opposed L l) (opposed_modellable n k L l v e)

-- ---- its solutions: those of the list that do not meet the line
pub solves_opposed : (L : List ℤ) (l : Line) → length L % line_size ≡ 0 → (s : Assignment) → Solves (lines_of (opposed L l)) s ↔ (Solves (lines_of L) s × (Meets s l → ⊥))
solves_opposed L l whole s =
    let both = solves_append (lines_of L) (opposite l ∷ []) s in
    let lines = lines_snoc L (opposite l) whole in
    let breaks = meets_opposite s l in (
      (λ h. let p = both.0 (subst (λ (ls : List Line). Solves ls s) lines h) in (p.0, breaks.0 p.1.0)),
      (λ h. subst (λ (ls : List Line). Solves ls s) (sym lines) (both.1 (h.0, (breaks.1 h.1, tt)))),
    )
