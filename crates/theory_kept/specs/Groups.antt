-- The groups stay where both steps of the added line are wide in the table of the longer list: then the same points are equal in every solution.
use Rattle.std.specs.Prelude.{◌≡◌, true, List, ◌++◌, ℕ, ◌+◌, ◌*◌, ℤ}
use Rattle.lines.specs.declared.Line.{Line}
use Rattle.lines.specs.Line.{line_count, lines_of, line_numbers_lem}
use Rattle.lines.specs.Valid.{Workable}
use Rattle.steps.specs.Step.{step_numbered_lem}
use Rattle.theory_bounds.specs.Agree.{groups_by_points}
use Rattle.theory_bounds.specs.Answers.{groups_of}
use Rattle.theory_bounds.specs.Verdict.{distances, verdict_of}
use Rattle.theory_answers.specs.Solved.{verdict_yes, closed_table}
use Rattle.theory_answers.specs.Decided.{lines_ok}
use Rattle.theory_kept.specs.Slack.{wide_step, points_stay}
use Rattle.theory_kept.specs.Longer.{longer_triangle, longer_at_most, longer_near}

-- ---- the theorem: the longer list's table is the list's with the line's two steps put in. So no entry is above the list's, and a closed walk of a sum of at
-- most 2 passes neither step, so that its entries are the list's: the same points have no tightened distance above 0 between them.
module _ (n : ℕ) (L : List ℤ) (l : Line) (valid : Workable n L) (valid' : Workable n (L ++ line_numbers_lem l))
    (yes_verdict : verdict_of n (lines_of (L ++ line_numbers_lem l)) ≡ true) where
  abbrev ls : List Line
  ls = lines_of (L ++ line_numbers_lem l)

  pub groups_stay : wide_step (distances n (lines_of (L ++ line_numbers_lem l))) (step_numbered_lem (L ++ line_numbers_lem l) (2 * line_count L)) ≡ true
      → wide_step (distances n (lines_of (L ++ line_numbers_lem l))) (step_numbered_lem (L ++ line_numbers_lem l) (2 * line_count L + 1)) ≡ true
      → groups_of n (lines_of (L ++ line_numbers_lem l)) ≡ groups_of n (lines_of L)
  unfolding groups_of
  groups_stay wide_x wide_y =
      let verdicts = verdict_yes n ls yes_verdict in
      let nonneg = verdicts.none_negative in
      let closed = closed_table n ls (lines_ok n (L ++ line_numbers_lem l) valid') verdicts in
      groups_by_points n (distances n ls) (distances n (lines_of L))
      (points_stay n (distances n (lines_of L)) (distances n ls) closed
      (longer_triangle n L l valid.whole valid'.lines nonneg)
      (longer_at_most n L l valid.whole valid'.lines nonneg)
      (longer_near n L l valid.whole valid'.lines nonneg wide_x wide_y))
