-- The verdict on a list that grows by a line, where the list had a solution: the line is not false, its steps close no walk of negative sum, and the halves
-- in the distances with them are consistent.
use Rattle.std.specs.Prelude.{◌≡◌, Bool, ◌&&◌, ◌||◌, List, [], ◌∷◌, ◌++◌, ℕ, ◌*◌, ◌%◌, ℤ, length}
use Rattle.std.proofs.Math.Path.{refl, sym, ap, ap₂}
use Rattle.std.proofs.Common.{◌∙◌, arith}
use Rattle.std.proofs.Math.Bool.{true, false, not}
use Rattle.integers.specs.Laws.{never, and_true}
use Rattle.integers.specs.Table.{all_below}
use Rattle.lines.specs.declared.Line.{Line}
use Rattle.lines.specs.Limits.{line_size}
use Rattle.lines.specs.Line.{line_count, lines_of, line_numbers_lem, is_false_lem}
use Rattle.lines.specs.LineNumbers.{length_numbers, lines_snoc}
use Rattle.lines.specs.Valid.{LinesOk}
use Rattle.steps.specs.Step.{steps_of}
use Rattle.theory_walks.specs.Negative.{no_negative}
use Rattle.theory_bounds.specs.Tight.{Table}
use Rattle.theory_bounds.specs.Agree.{Agree}
use Rattle.theory_bounds.proofs.AgreeHalves.{all_ok_same}
use Rattle.theory_bounds.specs.Verdict.{has_false, distances, halves_ok_lem, consistent_halves, verdict_of}
use Rattle.session_step.specs.Meaning.{TableFor}
use Rattle.session_line.specs.Both.{line_stays_in}
use Rattle.session_line.specs.Longer.{longer_answer}

-- a false line behind others
false_more : (ls : List Line) (l : Line) → has_false ls ≡ false → has_false (ls ++ l ∷ []) ≡ is_false_lem l
unfolding has_false
false_more [] l e = either (is_false_lem l)
  where
    either : (b : Bool) → (b || false) ≡ b
    either true = refl
    either false = refl
false_more (x ∷ ls) l e = go (is_false_lem x) e (false_more ls l)
  where
    go : (b : Bool) → (b || has_false ls) ≡ false → (has_false ls ≡ false → has_false (ls ++ l ∷ []) ≡ is_false_lem l) → (b || has_false (ls ++ l ∷ [])) ≡ is_false_lem l
    go true q later = never (cc)
    go false q later = later q

module _ (n : ℕ) (L : List ℤ) (l : Line) (whole : length L % line_size ≡ 0) (yes_verdict : verdict_of n (lines_of L) ≡ true) where
  abbrev ls : List Line
  ls = lines_of (L ++ line_numbers_lem l)

  no_false : has_false (lines_of L) ≡ false
  unfolding verdict_of
  no_false = not_yes (has_false (lines_of L)) (and_true (not (has_false (lines_of L))) (no_negative (steps_of (lines_of L)) (2 * n) && consistent_halves n (lines_of L)) yes_verdict).0
    where
      not_yes : (b : Bool) → not b ≡ true → b ≡ false
      not_yes true e = never (cc)
      not_yes false e = refl

  false_is : has_false ls ≡ is_false_lem l
  false_is = ap has_false (lines_snoc L l whole) ∙ false_more (lines_of L) l no_false

  -- with a false line
  pub false_verdict : is_false_lem l ≡ true → verdict_of n (lines_of (L ++ line_numbers_lem l)) ≡ false
  unfolding verdict_of
  false_verdict e = ap (λ (b : Bool). not b && (no_negative (steps_of ls) (2 * n) && consistent_halves n ls)) (false_is ∙ e)

  -- by the line, the walks and the halves; D is what the table is read as with the line
  module _ (ok : LinesOk n (L ++ line_numbers_lem l)) (t : List ℤ) (a : TableFor n (steps_of (lines_of L)) t) where
    one : line_count (line_numbers_lem l) ≡ 1
    one = omega (arith, length_numbers l)

    abbrev stay : Bool
    stay = line_stays_in (2 * n) (L ++ line_numbers_lem l) (line_count L) t

    -- where a closed walk is negative, halves are not asked for
    halves_are : (D : Table) → (line_stays_in (2 * n) (L ++ line_numbers_lem l) (line_count L) t ≡ true → Agree (2 * n) D (distances n (lines_of (L ++ line_numbers_lem l))))
        → (b : Bool) → stay ≡ b → (b && consistent_halves n ls) ≡ (b && all_below (2 * n) (halves_ok_lem D))
    unfolding consistent_halves
    halves_are D same false e = refl
    halves_are D same true e = sym (all_ok_same n D (distances n ls) (same e))

    pub longer_verdict : (D : Table) → (line_stays_in (2 * n) (L ++ line_numbers_lem l) (line_count L) t ≡ true → Agree (2 * n) D (distances n (lines_of (L ++ line_numbers_lem l))))
        → verdict_of n (lines_of (L ++ line_numbers_lem l)) ≡ (not (is_false_lem l) && (line_stays_in (2 * n) (L ++ line_numbers_lem l) (line_count L) t && all_below (2 * n) (halves_ok_lem D)))
    unfolding verdict_of
    longer_verdict D same =
        ap₂ (λ (p q : Bool). not p && q) false_is
        (ap (λ (b : Bool). b && consistent_halves n ls) (sym (longer_answer L (line_numbers_lem l) whole n ok one t a)) ∙ halves_are D same stay refl)
