-- A list that grows by a line: from the table of the list, `put_line` makes that of the longer list, where `both_stay` says that this has no closed walk of
-- negative sum.
use Rattle.std.specs.Prelude.{◌≡◌, true, List, ◌++◌, ℕ, zero, suc, ◌+◌, ◌*◌, ◌/◌, ◌%◌, ◌<◌, ◌≤◌, ℤ, length, Option}
use Rattle.std.proofs.Common.{sym, ap, ap₂, subst, ◌∙◌, add-one, arith}
use borrow.Author.Tests.{lt-ltb}
use Rattle.lines.specs.Limits.{line_size}
use Rattle.lines.specs.Line.{line_count, lines_of}
use Rattle.lines.specs.Valid.{LinesOk}
use Rattle.lines.specs.LineNumbers.{count_append, line_left}
use Rattle.steps.specs.declared.Step.{Step}
use Rattle.steps.specs.Step.{step_numbered_lem, steps_of, named}
use Rattle.theory_walks.specs.Row.{best}
use Rattle.theory_walks.specs.Negative.{no_negative}
use Rattle.theory_bounds.specs.Agree.{Agree}
use Rattle.decide_rows.specs.Numbers.{steps_before, before_zero, before_more, before_all}
use Rattle.session_step.specs.Meaning.{TableFor}
use Rattle.session_line.specs.Numbered.{line_after, line_table}
use Rattle.session_line.specs.Both.{line_stays_in, line_inserted, test_is, inserted_agree}

module _ (L M : List ℤ) (whole : length L % line_size ≡ 0) where
  -- ---- the steps of the shorter list keep their numbers
  number_left : (k : ℕ) → k / 2 < line_count L → step_numbered_lem (L ++ M) k ≡ step_numbered_lem L k
  unfolding step_numbered_lem
  number_left k h =
      let l : k / 2 < line_count (L ++ M) = omega (arith, h, count_append L M whole) in
      rw (lt-ltb (k / 2) (line_count L) h, lt-ltb (k / 2) (line_count (L ++ M)) l, line_left L M whole (k / 2) h)

  before_left : (k : ℕ) → k ≤ 2 * line_count L → steps_before (L ++ M) k ≡ steps_before L k
  before_left zero h = before_zero (L ++ M) ∙ sym (before_zero L)
  before_left (suc k) h =
      ap (steps_before (L ++ M)) (sym (add-one k))
      ∙ before_more (L ++ M) k
      ∙ ap₂ (λ (x : List Step) (y : Option Step). x ++ named y) (before_left k (omega arith)) (number_left k (omega arith))
      ∙ sym (before_more L k)
      ∙ ap (steps_before L) (add-one k)

  -- ---- one line more
  module _ (n : ℕ) (ok : LinesOk n (L ++ M)) (one : line_count M ≡ 1) (t : List ℤ) (a : TableFor n (steps_of (lines_of L)) t) where
    shorter : TableFor n (steps_before (L ++ M) (2 * line_count L)) t
    shorter = subst (λ (E : List Step). TableFor n E t) (sym (before_left (2 * line_count L) (omega arith) ∙ before_all L)) a

    all : steps_before (L ++ M) (2 * (line_count L + 1)) ≡ steps_of (lines_of (L ++ M))
    all =
        let e : line_count L + 1 ≡ line_count (L ++ M) = omega (arith, count_append L M whole, one) in
        ap (λ (k : ℕ). steps_before (L ++ M) (2 * k)) e ∙ before_all (L ++ M)

    -- both steps stay exactly if the longer list has no closed walk of negative sum
    pub longer_answer : line_stays_in (2 * n) (L ++ M) (line_count L) t ≡ no_negative (steps_of (lines_of (L ++ M))) (2 * n)
    longer_answer = test_is n (L ++ M) ok (line_count L) t shorter ∙ ap (λ (E : List Step). no_negative E (2 * n)) all

    -- then the table with them is that of the longer list,
    pub longer_table : line_stays_in (2 * n) (L ++ M) (line_count L) t ≡ true → TableFor n (steps_of (lines_of (L ++ M))) (line_after (2 * n) (L ++ M) (line_count L) t)
    longer_table e =
        subst (λ (E : List Step). TableFor n E (line_after (2 * n) (L ++ M) (line_count L) t)) all
        (line_table n (L ++ M) ok (line_count L) t shorter (sym (test_is n (L ++ M) ok (line_count L) t shorter) ∙ e))

    -- and so is what is read with them
    pub longer_agree : line_stays_in (2 * n) (L ++ M) (line_count L) t ≡ true → Agree (2 * n) (line_inserted (2 * n) (L ++ M) (line_count L) t) (best (steps_of (lines_of (L ++ M))) (2 * n))
    longer_agree e u v hu hv = inserted_agree n (L ++ M) ok (line_count L) t shorter e u v hu hv ∙ ap (λ (E : List Step). best E (2 * n) u v) all
