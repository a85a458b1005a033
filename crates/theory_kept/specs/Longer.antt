-- The table of a list with one line more: it is the list's with the line's two steps put in, where no closed walk is negative. So where both steps are wide
-- it is the same near 0, and halves that did not contradict don't.
use Rattle.std.specs.Prelude.{◌≡◌, refl, Bool, true, false, List, [], ◌∷◌, ◌++◌, ℕ, ◌+◌, ◌*◌, ◌/◌, ◌%◌, ◌<◌, ℤ, length, None, Option, Some}
use Rattle.std.proofs.Common.{sym, ap, ap₂, subst, ◌∙◌, inl, append_assoc, append-nil}
use native.Mathlib.Omega.{arith}
use borrow.Author.Tests.{lt-ltb}
use Rattle.integers.specs.Laws.{never}
use Rattle.integers.specs.Table.{all_below, below_at, below_all}
use Rattle.lines.specs.declared.Line.{Line}
use Rattle.lines.specs.Limits.{line_size}
use Rattle.lines.specs.Line.{line_count, lines_of, line_numbers_lem}
use Rattle.lines.specs.LineNumbers.{length_numbers, count_append, line_last, lines_snoc}
use Rattle.lines.specs.Valid.{LinesOk, all_ok}
use Rattle.steps.specs.declared.Step.{Step}
use Rattle.steps.specs.Step.{step_of, step_numbered_lem, steps_of, named}
use Rattle.theory_walks.specs.Row.{WithinPoints, best}
use Rattle.theory_walks.specs.Least.{NoneNegative, best_triangle}
use Rattle.theory_walks.specs.Negative.{no_negative, no_negative_true, no_negative_yes}
use Rattle.theory_walks.specs.Graph.{in_left, in_right, ends_points}
use Rattle.theory_bounds.specs.Verdict.{distances, halves_ok_lem}
use Rattle.theory_inserting.specs.Two.{EndsBelow, insert_named, negative_among, named_test, named_best}
use Rattle.theory_kept.specs.Slack.{wide_step, AtMost, Triangle, NearSame, both_at_most, near_same}
use Rattle.theory_kept.specs.Halves.{halves_stay}

-- ---- a step that may be there, behind others without a closed walk of negative sum
module _ (N : ℕ) (E : List Step) (x : Option Step) (within : WithinPoints N (E ++ named x)) (nonneg : NoneNegative (E ++ named x) N) where
  within_before : WithinPoints N E
  within_before t i = within t (in_left t E (named x) i)

  ends : EndsBelow N x
  ends = go x (λ t i. within t (in_right t E (named x) i))
    where
      go : (x : Option Step) → WithinPoints N (named x) → EndsBelow N x
      go (Some s) w = w s (inl refl)
      go None w = tt

  -- a closed walk of negative sum would stay
  nonneg_before : NoneNegative E N
  nonneg_before = no_negative_yes E N (go (no_negative E N) refl)
    where
      go : (b : Bool) → no_negative E N ≡ b → b ≡ true
      go true e = refl
      go false e =
          let clash : true ≡ false = sym (no_negative_true (E ++ named x) N nonneg) ∙ negative_among E (E ++ named x) N within (λ t. in_left t E (named x)) e in
          never (cc)

  best_with : (i j : ℕ) → best (E ++ named x) N i j ≡ insert_named (best E N) x i j
  best_with =
      named_best E N within_before nonneg_before x ends (sym (named_test E N within_before nonneg_before x ends) ∙ no_negative_true (E ++ named x) N nonneg)

-- ---- the steps of the longer list
steps_snoc : (ls : List Line) (l : Line) → steps_of (ls ++ l ∷ []) ≡ steps_of ls ++ (named (step_of l 0) ++ named (step_of l 1))
unfolding steps_of
steps_snoc [] l = ap (λ (x : List Step). named (step_of l 0) ++ x) (append-nil (named (step_of l 1)))
steps_snoc (k ∷ ls) l =
    let a = named (step_of k 0) in
    let b = named (step_of k 1) in
    let z = named (step_of l 0) ++ named (step_of l 1) in
    ap (λ (x : List Step). a ++ (b ++ x)) (steps_snoc ls l)
    ∙ ap (λ (x : List Step). a ++ x) (sym (append_assoc b (steps_of ls) z))
    ∙ sym (append_assoc a (b ++ steps_of ls) z)

module _ (L : List ℤ) (l : Line) (whole : length L % line_size ≡ 0) where
  last_step : (side : ℕ) → side < 2 → step_numbered_lem (L ++ line_numbers_lem l) (2 * line_count L + side) ≡ step_of l side
  unfolding step_numbered_lem
  last_step side h =
      let a : (2 * line_count L + side) / 2 ≡ line_count L = omega arith in
      let b : (2 * line_count L + side) % 2 ≡ side = omega arith in
      let c : line_count L < line_count (L ++ line_numbers_lem l) = omega (arith, count_append L (line_numbers_lem l) whole, length_numbers l) in
      rw (a, b, lt-ltb (line_count L) (line_count (L ++ line_numbers_lem l)) c, line_last L l whole)

  -- those of the list, and then the two of the line
  steps_longer : steps_of (lines_of (L ++ line_numbers_lem l))
      ≡ steps_of (lines_of L) ++ named (step_numbered_lem (L ++ line_numbers_lem l) (2 * line_count L)) ++ named (step_numbered_lem (L ++ line_numbers_lem l) (2 * line_count L + 1))
  steps_longer =
      let even : 2 * line_count L + 0 ≡ 2 * line_count L = omega arith in
      let first = ap (step_numbered_lem (L ++ line_numbers_lem l)) (sym even) ∙ last_step 0 (omega arith) in
      ap steps_of (lines_snoc L l whole)
      ∙ steps_snoc (lines_of L) l
      ∙ sym (append_assoc (steps_of (lines_of L)) (named (step_of l 0)) (named (step_of l 1)))
      ∙ sym (ap₂ (λ (x y : Option Step). steps_of (lines_of L) ++ named x ++ named y) first (last_step 1 (omega arith)))

-- ---- the longer list, without a closed walk of negative sum
module _ (n : ℕ) (L : List ℤ) (l : Line) (whole : length L % line_size ≡ 0) (ok : LinesOk n (L ++ line_numbers_lem l))
    (nonneg : NoneNegative (steps_of (lines_of (L ++ line_numbers_lem l))) (2 * n)) where
  abbrev N : ℕ
  N = 2 * n

  abbrev ls : List Line
  ls = lines_of (L ++ line_numbers_lem l)

  abbrev x : Option Step
  x = step_numbered_lem (L ++ line_numbers_lem l) (2 * line_count L)

  abbrev y : Option Step
  y = step_numbered_lem (L ++ line_numbers_lem l) (2 * line_count L + 1)

  -- the steps of the list, with the first of the line, with both
  abbrev E : List Step
  E = steps_of (lines_of L)

  abbrev F : List Step
  F = E ++ named x

  abbrev G : List Step
  G = F ++ named y

  all : steps_of ls ≡ G
  all = steps_longer L l whole

  within : WithinPoints N (steps_of ls)
  within = ends_points n ls (all_ok n (L ++ line_numbers_lem l) ok)

  within_both : WithinPoints N G
  within_both = subst (WithinPoints N) all within

  nonneg_both : NoneNegative G N
  nonneg_both = subst (λ (H : List Step). NoneNegative H N) all nonneg

  first : (i j : ℕ) → best F N i j ≡ insert_named (best E N) x i j
  first = best_with N E x (within_before N F y within_both nonneg_both) (nonneg_before N F y within_both nonneg_both)

  second : (i j : ℕ) → best (steps_of ls) N i j ≡ insert_named (best F N) y i j
  second i j = ap (λ (H : List Step). best H N i j) all ∙ best_with N F y within_both nonneg_both i j

  pub longer_triangle : Triangle (distances n (lines_of (L ++ line_numbers_lem l)))
  longer_triangle = best_triangle (steps_of ls) N within nonneg

  pub longer_at_most : AtMost (distances n (lines_of (L ++ line_numbers_lem l))) (distances n (lines_of L))
  longer_at_most = both_at_most (best E N) (best F N) (best (steps_of ls) N) x y first second

  module _ (wide_x : wide_step (distances n (lines_of (L ++ line_numbers_lem l))) (step_numbered_lem (L ++ line_numbers_lem l) (2 * line_count L)) ≡ true)
      (wide_y : wide_step (distances n (lines_of (L ++ line_numbers_lem l))) (step_numbered_lem (L ++ line_numbers_lem l) (2 * line_count L + 1)) ≡ true) where
    pub longer_near : NearSame (distances n (lines_of L)) (distances n (lines_of (L ++ line_numbers_lem l)))
    longer_near = near_same (best E N) (best F N) (best (steps_of ls) N) x y first second longer_triangle wide_x wide_y

    -- so halves that did not contradict don't
    pub longer_halves : all_below (2 * n) (halves_ok_lem (distances n (lines_of L))) ≡ true → all_below (2 * n) (halves_ok_lem (distances n (lines_of (L ++ line_numbers_lem l)))) ≡ true
    longer_halves before =
        below_all N (halves_ok_lem (distances n ls)) (λ p h. halves_stay (distances n (lines_of L)) (distances n ls) longer_near p (below_at N (halves_ok_lem (distances n (lines_of L))) before p h))
