-- A line is met exactly if its steps hold, for all nine coefficient pairs at once.
use Rattle.std.specs.Prelude.{◌≡◌, ◌↔◌, Bool, cond, List, ℕ, zero, suc, ◌+◌, ◌/◌, ◌%◌, ◌<◌, ℤ, negsuc, neg_ℤ, nat_abs, ◌+ℤ◌, ◌-ℤ◌, ◌*ℤ◌, None, Some}
use Rattle.std.proofs.Math.Path.{refl, sym, ap, ap₂}
use Rattle.std.proofs.Common.{◌∙◌, arith}
use Rattle.std.proofs.Math.Bool.{true, false}
use borrow.Author.Tests.{ltb-true, eqb-true, eqb-false}
use Rattle.std.proofs.Math.Dec.{eqb, ltb}
use Rattle.std.proofs.Math.IntN.{pos, zero-*ℤ}
use Rattle.std.specs.Int.Signed.{lt_z}
use Rattle.integers.specs.Integer.{◌⩽◌, eq_z}
use Rattle.integers.proofs.Linear.{ints, given}
use Rattle.integers.specs.Laws.{and_true, eq_eq_z, eq_z_true}
use Rattle.integers.proofs.Products.{difference_times, times_assoc, times_sum}
use Rattle.lines.specs.declared.Line.{Line}
use Rattle.lines.specs.Line.{Assignment, left_side_lem, Meets, Solves, line_at, line_count, lines_of, is_zero, is_false_lem}
use Rattle.lines.specs.Valid.{LineWorks, LinesOk}
use Rattle.lines.specs.Solutions.{solves_at}
use Rattle.steps.specs.Point.{value}
use Rattle.steps.proofs.PointLaws.{value_plus, value_minus}
use Rattle.steps.specs.Table.{entry, cell, digit, count_x, count_y, coefficient, is_end, CellRule, rule_at, digit_lt, coefficient_digit, missing}
use Rattle.steps.specs.Step.{end_point_lem, step_with, step_of, step_numbered_lem, Says, Holds}

-- ---- the value of an end counts the line's variables
module _ (s : Assignment) (l : Line) where
  abbrev X : ℤ
  X = s (nat_abs l.x)

  abbrev Y : ℤ
  Y = s (nat_abs l.y)

  end_value : (e : ℕ) → e < 4 → value s (end_point_lem l e) ≡ count_x e *ℤ X +ℤ count_y e *ℤ Y
  end_value zero h = value_plus s (nat_abs l.x) ∙ first X Y
    where
      first : (x y : ℤ) → x ≡ pos 1 *ℤ x +ℤ pos 0 *ℤ y
      first x y = simp ints (omega arith)
  end_value (suc zero) h = value_minus s (nat_abs l.x) ∙ first X Y
    where
      first : (x y : ℤ) → neg_ℤ x ≡ negsuc 0 *ℤ x +ℤ pos 0 *ℤ y
      first x y = simp ints (omega arith)
  end_value (suc (suc zero)) h = value_plus s (nat_abs l.y) ∙ first X Y
    where
      first : (x y : ℤ) → y ≡ pos 0 *ℤ x +ℤ pos 1 *ℤ y
      first x y = simp ints (omega arith)
  end_value (suc (suc (suc zero))) h = value_minus s (nat_abs l.y) ∙ first X Y
    where
      first : (x y : ℤ) → neg_ℤ y ≡ pos 0 *ℤ x +ℤ negsuc 0 *ℤ y
      first x y = simp ints (omega arith)
  end_value (suc (suc (suc (suc e)))) h = absurd (omega arith)

  -- ---- a step's two values differ by the factor times the line's left side
  module _ (n : ℕ) (ok : LineWorks n l) (side : ℕ) (low : side < 2) where
    abbrev c : ℕ
    c = cell l.a l.b side

    rule : CellRule (digit l.a) (digit l.b) c
    rule = rule_at (digit l.a) (digit l.b) side (digit_lt l.a) (digit_lt l.b) low

    end_lt : (a b e : ℕ) → is_end a b e ≡ true → e < 4
    end_lt a b e t = ltb-true e 4 (and_true (ltb e 4) _ t).0

    regroup : (a b c d : ℤ) → (a +ℤ b) -ℤ (c +ℤ d) ≡ (a -ℤ c) +ℤ (b -ℤ d)
    regroup a b c d = simp ints (omega arith)

    counted : (p q f : ℕ) (k x : ℤ) (count : ℕ → ℤ) → count p -ℤ count q ≡ pos f *ℤ k → count p *ℤ x -ℤ count q *ℤ x ≡ pos f *ℤ (k *ℤ x)
    counted p q f k x count e = sym (difference_times (count p) (count q) x) ∙ ap (λ (z : ℤ). z *ℤ x) e ∙ times_assoc f k x

    step_value : (entry (c + 2) ≡ 0 → ⊥) → value s (step_with l c).from -ℤ value s (step_with l c).to ≡ pos (entry (c + 2)) *ℤ left_side_lem s l
    unfolding left_side_lem
    step_value h =
        let p = entry c in
        let q = entry (c + 1) in
        let f = entry (c + 2) in
        let rx = rule.x ∙ ap (λ (z : ℤ). pos f *ℤ z) (coefficient_digit l.a ok.coefficient_a) in
        let ry = rule.y ∙ ap (λ (z : ℤ). pos f *ℤ z) (coefficient_digit l.b ok.coefficient_b) in
        ap₂ (λ (y z : ℤ). y -ℤ z) (end_value p (end_lt _ _ p (rule.start h))) (end_value q (end_lt _ _ q (rule.end h)))
        ∙ regroup (count_x p *ℤ X) (count_y p *ℤ Y) (count_x q *ℤ X) (count_y q *ℤ Y)
        ∙ ap₂ (λ (y z : ℤ). y +ℤ z) (counted p q f l.a X count_x rx) (counted p q f l.b Y count_y ry)
        ∙ sym (times_sum f (l.a *ℤ X) (l.b *ℤ Y))

    cancel : (f : ℕ) → (f ≡ 0 → ⊥) → f < 3 → (v k d : ℤ) → v ≡ pos f *ℤ k → (v ⩽ pos f *ℤ d) ↔ (k ⩽ d)
    cancel zero h l v k d e = absurd (h refl)
    cancel (suc zero) h l v k d e = (given e (fore v k d), given e (back v k d))
      where
        fore : (v k d : ℤ) → v ≡ pos 1 *ℤ k → v ⩽ pos 1 *ℤ d → k ⩽ d
        fore v k d = simp ints (omega arith)

        back : (v k d : ℤ) → v ≡ pos 1 *ℤ k → k ⩽ d → v ⩽ pos 1 *ℤ d
        back v k d = simp ints (omega arith)
    cancel (suc (suc zero)) h l v k d e = (given e (fore v k d), given e (back v k d))
      where
        fore : (v k d : ℤ) → v ≡ pos 2 *ℤ k → v ⩽ pos 2 *ℤ d → k ⩽ d
        fore v k d = simp ints (omega arith)

        back : (v k d : ℤ) → v ≡ pos 2 *ℤ k → k ⩽ d → v ⩽ pos 2 *ℤ d
        back v k d = simp ints (omega arith)
    cancel (suc (suc (suc f))) h l v k d e = absurd (omega arith)

    -- a step of the line says what the line says
    step_with_law : (entry (c + 2) ≡ 0 → ⊥) → Says s (step_with l c) ↔ Meets s l
    step_with_law h = cancel (entry (c + 2)) h rule.factor _ (left_side_lem s l) l.d (step_value h)

    pub meets_holds : Meets s l → Holds s (step_of l side)
    unfolding step_of
    meets_holds m = go (eqb (entry (c + 2)) 0) refl
      where
        go : (t : Bool) → eqb (entry (c + 2)) 0 ≡ t → Holds s (cond t None (Some (step_with l c)))
        go true e = tt
        go false e = (step_with_law (eqb-false _ 0 e)).1 m

-- ---- a line is met exactly if its steps hold and, where both coefficients are 0, 0 ≤ d
pub record StepsHold (s : Assignment) (l : Line) : Type 0 where
  pub side_0 : Holds s (step_of l 0)
  pub side_1 : Holds s (step_of l 1)
  pub zero_zero : is_zero l ≡ true → pos 0 ⩽ l.d

module _ (s : Assignment) (n : ℕ) (l : Line) (ok : LineWorks n l) where
  none_left : l.a ≡ pos 0 → l.b ≡ pos 0 → left_side_lem s l ≡ pos 0
  unfolding left_side_lem
  none_left ea eb = ap₂ (λ (y z : ℤ). y *ℤ X s l +ℤ z *ℤ Y s l) ea eb ∙ ap₂ (λ (y z : ℤ). y +ℤ z) (zero-*ℤ (X s l)) (zero-*ℤ (Y s l))

  zero_meets : l.a ≡ pos 0 → l.b ≡ pos 0 → (pos 0 ⩽ l.d) ↔ Meets s l
  zero_meets ea eb = let e = none_left ea eb in ((λ h. rw e h), (λ h. rw e at h))

  zero_at : is_zero l ≡ true → (l.a ≡ pos 0) × (l.b ≡ pos 0)
  zero_at e = let t = and_true (eq_z l.a (pos 0)) (eq_z l.b (pos 0)) e in (eq_z_true _ _ t.0, eq_z_true _ _ t.1)

  holds_meets : StepsHold s l → Meets s l
  unfolding step_of
  holds_meets h = go (eqb (entry (cell l.a l.b 0 + 2)) 0) refl h.side_0
    where
      go : (t : Bool) → eqb (entry (cell l.a l.b 0 + 2)) 0 ≡ t → Holds s (cond t None (Some (step_with l (cell l.a l.b 0)))) → Meets s l
      go true e k =
          let m = missing (digit l.a) (digit l.b) (digit_lt l.a) (digit_lt l.b) (eqb-true _ 0 e) in
          let ea : l.a ≡ pos 0 = sym (coefficient_digit l.a ok.coefficient_a) ∙ ap coefficient m.0 in
          let eb : l.b ≡ pos 0 = sym (coefficient_digit l.b ok.coefficient_b) ∙ ap coefficient m.1 in
          (zero_meets ea eb).0 (h.zero_zero (rw (eq_eq_z _ _ ea, eq_eq_z _ _ eb)))
      go false e k = (step_with_law s l n ok 0 (omega arith) (eqb-false _ 0 e)).0 k

  pub line_steps : Meets s l ↔ StepsHold s l
  line_steps = (
    (λ m. record { side_0 = meets_holds s l n ok 0 (omega arith) m; side_1 = meets_holds s l n ok 1 (omega arith) m; zero_zero = λ e. (zero_meets (zero_at e).0 (zero_at e).1).1 m }),
    holds_meets,
  )

  -- no assignment meets a false line
  pub false_line : is_false_lem l ≡ true → Meets s l → ⊥
  unfolding is_false_lem
  false_line e m =
      let t = and_true (is_zero l) (lt_z l.d (pos 0)) e in
      clash l.d ((zero_meets (zero_at t.0).0 (zero_at t.0).1).1 m) t.1
    where
      clash : (d : ℤ) → pos 0 ⩽ d → lt_z d (pos 0) ≡ true → ⊥
      clash d = simp ints (omega arith)

-- ---- of a list: every step that a number names holds in every solution
module _ (n : ℕ) (L : List ℤ) (ok : LinesOk n L) (s : Assignment) (solves : Solves (lines_of L) s) where
  pub numbered_holds : (k : ℕ) → Holds s (step_numbered_lem L k)
  unfolding step_numbered_lem
  numbered_holds k = go (ltb (k / 2) (line_count L)) refl
    where
      go : (t : Bool) → ltb (k / 2) (line_count L) ≡ t → Holds s (cond t (step_of (line_at L (k / 2)) (k % 2)) None)
      go true e =
          let h = ltb-true _ _ e in
          meets_holds s (line_at L (k / 2)) n (ok (k / 2) h) (k % 2) (omega arith) (solves_at L s solves (k / 2) h)
      go false e = tt

  pub no_false_line : (k : ℕ) → k < line_count L → is_false_lem (line_at L k) ≡ true → ⊥
  no_false_line k h e = false_line s n (line_at L k) (ok k h) e (solves_at L s solves k h)
