-- The table of a list made line by line, up to the first line that closes a walk of negative sum; and that it is the table of all lines, where these have a solution.
use Rattle.std.specs.Prelude.{◌≡◌, refl, Bool, true, false, not, ◌&&◌, ℕ, zero, suc, ◌+◌, ◌-◌, ◌*◌, ◌<◌, ◌≤◌, ℤ, length, take, drop}
use Rattle.std.proofs.Common.{sym, subst, ◌∙◌, add-one, arith, drop_of_length-le}
use Rattle.std.proofs.Math.Path.{ap}
use mathlib.Core.List.{List, [], ◌++◌, append-nil}
use Rattle.integers.specs.Laws.{never, and_true}
use Rattle.integers.specs.Table.{below_all}
use Rattle.integers.specs.Lowest.{Searched, searched_none, searched_more, searched_found, searched_all, first_failing_lem, none_fails}
use Rattle.lines.specs.Line.{line_count, lines_of}
use Rattle.lines.specs.Valid.{LinesOk}
use Rattle.steps.specs.declared.Step.{Step}
use Rattle.steps.specs.Step.{steps_of}
use Rattle.theory_walks.specs.Row.{WithinPoints}
use Rattle.theory_walks.specs.AllPairs.{start_table_lem}
use Rattle.theory_walks.specs.Negative.{no_negative}
use Rattle.theory_bounds.specs.Verdict.{has_false, consistent_halves, verdict_of}
use Rattle.decide_rows.specs.Stored.{stored_row}
use Rattle.decide_rows.specs.Numbers.{steps_before, before_zero, before_all}
use Rattle.decide_rows.specs.Table.{stored_table, table_length}
use Rattle.session_step.specs.Read.{SizedTable, short_sized}
use Rattle.session_step.specs.Meaning.{TableFor, short_table}
use Rattle.session_step.specs.Start.{start_table}
use Rattle.session_line.specs.Numbered.{line_after, line_table, negative_next, within_next}
use Rattle.session_line.specs.Both.{line_stays_in, test_is}

-- ---- definitions
-- whether the lines 0 to k have no closed walk of negative sum
abbrev pub lines_stand : ℕ → List ℤ → ℕ → Bool
lines_stand n L k = no_negative (steps_before L (2 * (k + 1))) (2 * n)

-- how many lines stand before the first that closes a walk of negative sum
abbrev pub standing_lines : ℕ → List ℤ → ℕ
standing_lines n L = first_failing_lem (line_count L) (lines_stand n L)

-- the stored distances of their steps
unfoldable pub anew_table : ℕ → List ℤ → List ℤ
anew_table n L = stored_table (steps_before L (2 * standing_lines n L)) (2 * n) (2 * n)

pub anew_size : (n : ℕ) (L : List ℤ) → length (anew_table n L) ≡ 2 * n * (2 * n)
unfolding anew_table
anew_size n L = table_length (steps_before L (2 * standing_lines n L)) (2 * n) (2 * n)

-- ---- for the code
-- whether the lines 0 to k have a closed walk of negative sum
abbrev fall : ℕ → List ℤ → ℕ → Bool
fall n L k = not (lines_stand n L k)

-- the lines 0 to k - 1 stand, and the table is theirs
pub record Anew (n : ℕ) (L t : List ℤ) (k : ℕ) : Type 0 where
  pub taken : k ≤ line_count L
  pub table : TableFor n (steps_before L (2 * k)) t
  pub stand : Searched (fall n L) (line_count L) k

module _ {n : ℕ} {L : List ℤ} where
  pub anew_none : {t t₁ : List ℤ} → SizedTable n t → t₁ ≡ take 0 t ++ stored_row (start_table_lem (2 * n) (2 * n)) ++ drop (0 + 2 * n * (2 * n)) t → Anew n L t₁ 0
  anew_none {t} {t₁} sized e =
      let start = stored_row (start_table_lem (2 * n) (2 * n)) in
      let nothing : drop (0 + 2 * n * (2 * n)) t ≡ [] = drop_of_length-le t {i = 0 + 2 * n * (2 * n)} (omega (arith, sized.size)) in
      let is : t₁ ≡ start = e ∙ ap (λ (x : List ℤ). start ++ x) nothing ∙ append-nil start in
      record {
        taken = omega arith;
        table = subst (λ (E : List Step). TableFor n E t₁) (sym (before_zero L)) (rw is (start_table n sized.variables));
        stand = searched_none (fall n L) (line_count L);
      }

  -- after k lines
  module _ {k : ℕ} {t : List ℤ} (a : Anew n L t k) where
    pub anew_sized : SizedTable n t
    anew_sized = short_sized n t (short_table n (steps_before L (2 * k)) t a.table)

    table_is : k ≡ standing_lines n L → t ≡ anew_table n L
    unfolding anew_table
    table_is e = a.table.is ∙ ap (λ (j : ℕ). stored_table (steps_before L (2 * j)) (2 * n) (2 * n)) e

    pub anew_ended : line_count L ≤ k → t ≡ anew_table n L
    anew_ended h = table_is (searched_all (fall n L) (line_count L) k (omega (arith, h, a.taken)) a.stand)

    -- the next line is tested
    module _ (ok : LinesOk n L) (below : k < line_count L) where
      test : {r : Bool} → line_stays_in (2 * n) L k t ≡ r → lines_stand n L k ≡ r
      test e = sym (test_is n L ok k t a.table) ∙ e

      pub anew_stopped : line_stays_in (2 * n) L k t ≡ false → t ≡ anew_table n L
      anew_stopped e = table_is (searched_found (fall n L) (line_count L) k below (ap not (test e)) a.stand)

      pub anew_more : line_stays_in (2 * n) L k t ≡ true → {t₁ : List ℤ} → t₁ ≡ line_after (2 * n) L k t → Anew n L t₁ (k + 1)
      anew_more e is =
          record {
            taken = omega (arith, below);
            table = rw is (line_table n L ok k t a.table (test e));
            stand = searched_more (fall n L) (line_count L) k below (ap not (test e)) a.stand;
          }

-- ---- what it means
module _ (n : ℕ) (L : List ℤ) (ok : LinesOk n L) where
  within_before : (k : ℕ) → WithinPoints (2 * n) (steps_before L k)
  within_before zero = rw (before_zero L) (λ t i. absurd i)
  within_before (suc k) = subst (λ (j : ℕ). WithinPoints (2 * n) (steps_before L j)) (add-one k) (within_next n L ok k (within_before k))

  -- a closed walk of negative sum stays, whatever comes behind it
  negative_later : (k m : ℕ) → no_negative (steps_before L k) (2 * n) ≡ false → no_negative (steps_before L (k + m)) (2 * n) ≡ false
  negative_later k zero e = let z : k + 0 ≡ k = omega arith in ap (λ (j : ℕ). no_negative (steps_before L j) (2 * n)) z ∙ e
  negative_later k (suc m) e =
      let z : k + suc m ≡ k + m + 1 = omega arith in
      ap (λ (j : ℕ). no_negative (steps_before L j) (2 * n)) z ∙ negative_next n L ok (k + m) (within_before (k + m)) (negative_later k m e)

  -- so that a list without one has none in any of its beginnings
  lines_stand_law : no_negative (steps_of (lines_of L)) (2 * n) ≡ true → (k : ℕ) → k < line_count L → lines_stand n L k ≡ true
  lines_stand_law e k below = go (lines_stand n L k) refl
    where
      all : 2 * (k + 1) + (2 * line_count L - 2 * (k + 1)) ≡ 2 * line_count L
      all = omega arith

      go : (b : Bool) → lines_stand n L k ≡ b → b ≡ true
      go true q = refl
      go false q =
          let clash : true ≡ false =
          sym e
          ∙ ap (λ (E : List Step). no_negative E (2 * n)) (sym (ap (steps_before L) all ∙ before_all L))
          ∙ negative_later (2 * (k + 1)) (2 * line_count L - 2 * (k + 1)) q in
          never (cc)

  all_standing : no_negative (steps_of (lines_of L)) (2 * n) ≡ true → standing_lines n L ≡ line_count L
  all_standing e = (none_fails (line_count L) (lines_stand n L)).1 (below_all (line_count L) (lines_stand n L) (lines_stand_law e))

  -- a list with a solution has the table of all its lines
  pub anew_yes : verdict_of n (lines_of L) ≡ true → anew_table n L ≡ stored_table (steps_of (lines_of L)) (2 * n) (2 * n)
  unfolding verdict_of anew_table
  anew_yes e =
      let rest = (and_true (not (has_false (lines_of L))) (no_negative (steps_of (lines_of L)) (2 * n) && consistent_halves n (lines_of L)) e).1 in
      let none = (and_true (no_negative (steps_of (lines_of L)) (2 * n)) (consistent_halves n (lines_of L)) rest).0 in
      ap (λ (E : List Step). stored_table E (2 * n) (2 * n)) (ap (λ (k : ℕ). steps_before L (2 * k)) (all_standing none) ∙ before_all L)
