-- The model stays where it meets the added line: it is the shorter list's nearest solution, the longer list's solutions are among that list's, and it is one
-- of them.
use Rattle.std.specs.Prelude.{◌≡◌, true, List, [], ◌∷◌, ◌++◌, ℕ, ℤ}
use Rattle.std.proofs.Common.{sym, subst}
use Rattle.lines.specs.declared.Line.{Line}
use Rattle.lines.specs.Line.{lines_of, line_numbers_lem, Assignment, assignment_of, Meets, Solves, Entails}
use Rattle.lines.specs.LineNumbers.{lines_snoc}
use Rattle.lines.specs.Solutions.{solves_append}
use Rattle.lines.specs.Valid.{Workable}
use Rattle.theory_bounds.specs.Verdict.{verdict_of}
use Rattle.theory_bounds.specs.Answers.{model_of, bounds_of, groups_of}
use Rattle.theory_answers.specs.Semantics.{Written}
use Rattle.theory_answers.specs.Meaning.{computed_written}
use Rattle.theory_answers.specs.Decided.{lines_ok}
use Rattle.theory_answers.specs.Longer.{yes_before, model_kept, longer_entails}

-- what is computed of a list with a solution is what is to be written
written : (n : ℕ) (L : List ℤ) → Workable n L → verdict_of n (lines_of L) ≡ true
    → Written n (lines_of L) (model_of n (lines_of L)) (bounds_of n (lines_of L)) (groups_of n (lines_of L))
written n L valid e = computed_written n (lines_of L) (lines_ok n L valid) e

module _ (n : ℕ) (L : List ℤ) (l : Line) (valid : Workable n L) (valid' : Workable n (L ++ line_numbers_lem l))
    (yes_verdict : verdict_of n (lines_of (L ++ line_numbers_lem l)) ≡ true) where
  entails : Entails (lines_of (L ++ line_numbers_lem l)) (lines_of L)
  entails = longer_entails L (line_numbers_lem l) valid.whole

  before : Written n (lines_of L) (model_of n (lines_of L)) (bounds_of n (lines_of L)) (groups_of n (lines_of L))
  before = written n L valid (yes_before n L (L ++ line_numbers_lem l) valid valid' entails yes_verdict)

  still_solves : (s : Assignment) → Solves (lines_of L) s → Meets s l → Solves (lines_of (L ++ line_numbers_lem l)) s
  still_solves s h m = subst (λ (ls : List Line). Solves ls s) (sym (lines_snoc L l valid.whole)) ((solves_append (lines_of L) (l ∷ []) s).1 (h, (m, tt)))

  pub model_stays : Meets (assignment_of (model_of n (lines_of L))) l → model_of n (lines_of (L ++ line_numbers_lem l)) ≡ model_of n (lines_of L)
  model_stays m =
      (model_kept n L (L ++ line_numbers_lem l) valid valid' entails _ _ _ _ _ _ before (written n (L ++ line_numbers_lem l) valid' yes_verdict)).1
      (still_solves (assignment_of (model_of n (lines_of L))) before.model_is.solves m)
