-- What learning a line answers and leaves, whatever the table holds; and what it means where the table is that of a list with a solution: the verdict on the
-- longer list, and its table.
use Rattle.steps.specs.declared.Step.{Step}
use Rattle.std.specs.Prelude.{◌≡◌, Bool, cond, ◌&&◌, ◌||◌, List, ◌++◌, ℕ, ◌+◌, ◌*◌, ◌%◌, ◌<◌, ℤ, None, Option, Some}
use Rattle.std.proofs.Math.Path.{refl, sym, ap}
use Rattle.std.proofs.Common.{◌∙◌, arith}
use Rattle.std.proofs.Math.Bool.{true, false, not}
use Rattle.std.proofs.Math.ListN.{length}
use Rattle.integers.specs.Laws.{and_true}
use Rattle.integers.specs.Table.{all_below}
use Rattle.lines.specs.declared.Line.{Line}
use Rattle.lines.specs.Limits.{line_size}
use Rattle.lines.specs.Line.{line_count, line_at, lines_of, line_numbers_lem, is_false_lem}
use Rattle.lines.specs.LineNumbers.{length_numbers, line_last}
use Rattle.lines.specs.Valid.{LinesOk}
use Rattle.steps.specs.Step.{steps_of, step_numbered_lem}
use Rattle.theory_walks.specs.Least.{NoneNegative}
use Rattle.theory_walks.specs.Negative.{no_negative, no_negative_yes}
use Rattle.theory_bounds.specs.Tight.{Table}
use Rattle.theory_bounds.specs.Agree.{Agree}
use Rattle.theory_bounds.proofs.AgreeHalves.{all_ok_same}
use Rattle.theory_bounds.specs.Verdict.{has_false, consistent_halves, distances, halves_ok_lem, verdict_of}
use Rattle.theory_inserting.specs.Two.{EndsBelow, closing_same}
use Rattle.theory_kept.specs.Slack.{is_wide, wide_step}
use Rattle.theory_kept.specs.Longer.{longer_halves}
use Rattle.session_step.specs.Read.{SizedTable}
use Rattle.session_step.specs.Meaning.{TableFor}
use Rattle.session_line.specs.Numbered.{line_after, line_sized, ends}
use Rattle.session_line.specs.Both.{line_stays_in, line_inserted}
use Rattle.session_line.specs.Longer.{longer_answer, longer_table, longer_agree}
use Rattle.session_line.specs.Verdict.{longer_verdict}

-- ---- definitions
-- two steps are wide
abbrev pub both_wide_lem : Table → Option Step → Option Step → Bool
both_wide_lem D x y = wide_step D x && wide_step D y

-- whether halves stand with the steps of line k: where both are wide they do, since they did before; else each is asked for
abbrev pub halves_stand : ℕ → List ℤ → ℕ → List ℤ → Bool
halves_stand n L k t =
    both_wide_lem (line_inserted (2 * n) L k t) (step_numbered_lem L (2 * k)) (step_numbered_lem L (2 * k + 1)) || all_below (2 * n) (halves_ok_lem (line_inserted (2 * n) L k t))

-- whether line k is learnt: it is not false, its steps close no walk of negative sum, and with them all halves stand
unfoldable pub learns : ℕ → List ℤ → ℕ → List ℤ → Bool
learns n L k t = not (is_false_lem (line_at L k)) && (line_stays_in (2 * n) L k t && halves_stand n L k t)

-- the table with it, or as it was
unfoldable pub learnt : ℕ → List ℤ → ℕ → List ℤ → List ℤ
learnt n L k t = cond (learns n L k t) (line_after (2 * n) L k t) t

-- what is asked: of the table only its size, not its numbers
pub record LearnReady (n : ℕ) (L : List ℤ) (k : ℕ) (t : List ℤ) : Type 0 where
  pub table : SizedTable n t
  pub valid : LinesOk n L
  pub line : k < line_count L

-- ---- the ways through the code
module _ (n : ℕ) (L : List ℤ) (k : ℕ) (t : List ℤ) where
  pub learns_not_false : is_false_lem (line_at L k) ≡ true → false ≡ learns n L k t
  unfolding learns
  learns_not_false e = rw e refl

  pub learns_not_negative : is_false_lem (line_at L k) ≡ false → line_stays_in (2 * n) L k t ≡ false → false ≡ learns n L k t
  unfolding learns
  learns_not_negative e q = rw e (ap (λ (b : Bool). b && halves_stand n L k t) (sym q))

  pub learns_by_halves : is_false_lem (line_at L k) ≡ false → line_stays_in (2 * n) L k t ≡ true → (r : Bool) → r ≡ halves_stand n L k t → r ≡ learns n L k t
  unfolding learns
  learns_by_halves e q r h = rw e (h ∙ ap (λ (b : Bool). b && halves_stand n L k t) (sym q))

  pub learnt_no : learns n L k t ≡ false → t ≡ learnt n L k t
  unfolding learnt
  learnt_no e = rw e refl

  pub learnt_yes : learns n L k t ≡ true → (t' : List ℤ) → t' ≡ line_after (2 * n) L k t → t' ≡ learnt n L k t
  unfolding learnt
  learnt_yes e t' q = q ∙ rw e refl

  -- it keeps its size
  pub learnt_size : SizedTable n t → length (learnt n L k t) ≡ 2 * n * (2 * n)
  unfolding learnt
  learnt_size a = go (learns n L k t)
    where
      go : (b : Bool) → length (cond b (line_after (2 * n) L k t) t) ≡ 2 * n * (2 * n)
      go true = (line_sized n L k t a).size
      go false = a.size

-- ---- what it means
module _ (n : ℕ) (L : List ℤ) (l : Line) (whole : length L % line_size ≡ 0) (ok : LinesOk n (L ++ line_numbers_lem l)) (yes_verdict : verdict_of n (lines_of L) ≡ true)
    (t : List ℤ) (a : TableFor n (steps_of (lines_of L)) t) where
  abbrev M : List ℤ
  M = L ++ line_numbers_lem l

  abbrev k : ℕ
  k = line_count L

  one : line_count (line_numbers_lem l) ≡ 1
  one = omega (arith, length_numbers l)

  -- where both steps are wide, halves stand: the table is read as the longer list's, and the list's halves did not contradict
  halves_asked : line_stays_in (2 * n) (L ++ line_numbers_lem l) (line_count L) t ≡ true
      → halves_stand n (L ++ line_numbers_lem l) (line_count L) t ≡ all_below (2 * n) (halves_ok_lem (line_inserted (2 * n) (L ++ line_numbers_lem l) (line_count L) t))
  unfolding verdict_of consistent_halves
  halves_asked stay = go (both_wide_lem D x y) refl
    where
      D : Table
      D = line_inserted (2 * n) M k t

      x : Option Step
      x = step_numbered_lem M (2 * k)

      y : Option Step
      y = step_numbered_lem M (2 * k + 1)

      agree : Agree (2 * n) (line_inserted (2 * n) M k t) (distances n (lines_of M))
      agree = longer_agree L (line_numbers_lem l) whole n ok one t a stay

      nonneg : NoneNegative (steps_of (lines_of M)) (2 * n)
      nonneg = no_negative_yes (steps_of (lines_of M)) (2 * n) (sym (longer_answer L (line_numbers_lem l) whole n ok one t a) ∙ stay)

      before : all_below (2 * n) (halves_ok_lem (distances n (lines_of L))) ≡ true
      before =
          let rest = (and_true (not (has_false (lines_of L))) (no_negative (steps_of (lines_of L)) (2 * n) && consistent_halves n (lines_of L)) yes_verdict).1 in
          (and_true (no_negative (steps_of (lines_of L)) (2 * n)) (consistent_halves n (lines_of L)) rest).1

      wide_same : (z : Option Step) → EndsBelow (2 * n) z → wide_step (line_inserted (2 * n) M k t) z ≡ true → wide_step (distances n (lines_of M)) z ≡ true
      wide_same (Some s) e w = sym (ap is_wide (closing_same (2 * n) _ _ agree s e.0 e.1)) ∙ w
      wide_same None e w = refl

      go : (b : Bool) → both_wide_lem (line_inserted (2 * n) M k t) (step_numbered_lem M (2 * k)) (step_numbered_lem M (2 * k + 1)) ≡ b
          → (b || all_below (2 * n) (halves_ok_lem (line_inserted (2 * n) M k t))) ≡ all_below (2 * n) (halves_ok_lem (line_inserted (2 * n) M k t))
      go false e = refl
      go true e =
          let both = and_true (wide_step D x) (wide_step D y) e in
          sym (all_ok_same n D (distances n (lines_of M)) agree
          ∙ longer_halves n L l whole ok nonneg (wide_same x (ends n M ok (2 * k)) both.0) (wide_same y (ends n M ok (2 * k + 1)) both.1) before)

  -- the answer is the verdict on the longer list
  pub learn_verdict : learns n (L ++ line_numbers_lem l) (line_count L) t ≡ verdict_of n (lines_of (L ++ line_numbers_lem l))
  unfolding learns
  learn_verdict =
      ap (λ (b : Bool). not b && (line_stays_in (2 * n) M k t && halves_stand n M k t)) (ap is_false_lem (line_last L l whole))
      ∙ ap (λ (b : Bool). not (is_false_lem l) && b) (asked (line_stays_in (2 * n) M k t) refl)
      ∙ sym (longer_verdict n L l whole yes_verdict ok t a (line_inserted (2 * n) M k t) (λ e. longer_agree L (line_numbers_lem l) whole n ok one t a e))
    where
      asked : (b : Bool) → line_stays_in (2 * n) M k t ≡ b → (b && halves_stand n M k t) ≡ (b && all_below (2 * n) (halves_ok_lem (line_inserted (2 * n) M k t)))
      asked true e = halves_asked e
      asked false e = refl

  -- on a yes the table is that of the longer list
  pub learn_table : learns n (L ++ line_numbers_lem l) (line_count L) t ≡ true → TableFor n (steps_of (lines_of (L ++ line_numbers_lem l))) (learnt n (L ++ line_numbers_lem l) (line_count L) t)
  unfolding learns learnt
  learn_table e =
      let rest = (and_true (not (is_false_lem (line_at M k))) _ e).1 in
      rw e (longer_table L (line_numbers_lem l) whole n ok one t a (and_true (line_stays_in (2 * n) M k t) _ rest).0)
