-- What is known of a list with a solution is its table, its model and its groups: made anew, and with one line more; and what is given of it are the outputs
-- of deciding.
--
-- With one line more the model is the old one where that meets the line, since it is the nearest to zero among more solutions; and the groups are the old
-- ones where no closed walk through the line's steps is near 0, since only such a walk makes two variables equal that were not (theory_kept).
use Rattle.steps.specs.declared.Step.{Step}
use Rattle.std.specs.Prelude.{◌≡◌, refl, true, not, ◌&&◌, ℕ, ◌+◌, ◌*◌, ◌%◌, ℤ, length, drop, None, Option, Some}
use Rattle.std.proofs.Common.{sym, subst, ◌∙◌}
use Rattle.std.proofs.Math.Path.{ap, ap₂}
use Rattle.std.proofs.Math.Bool.{false}
use mathlib.Core.List.{List, ◌++◌}
use Rattle.integers.specs.Laws.{and_true}
use Rattle.lines.specs.declared.Line.{Line}
use Rattle.lines.specs.Limits.{line_size}
use Rattle.lines.specs.Line.{line_count, line_at, lines_of, line_numbers_lem, assignment_of}
use Rattle.lines.specs.LineNumbers.{line_last}
use Rattle.lines.specs.Solutions.{meets_true}
use Rattle.lines.specs.Valid.{Workable, Modellable}
use Rattle.steps.specs.Step.{steps_of, step_numbered_lem}
use Rattle.theory_walks.specs.Graph.{ends_points, weights_small}
use Rattle.theory_walks.specs.Negative.{no_negative, no_negative_yes}
use Rattle.theory_bounds.specs.Answers.{model_of, bounds_of, groups_of}
use Rattle.theory_bounds.specs.Verdict.{has_false, consistent_halves, distances, verdict_of}
use Rattle.theory_inserting.specs.Two.{EndsBelow, closing_same}
use Rattle.theory_answers.specs.Decided.{lines_ok}
use Rattle.theory_kept.specs.Slack.{is_wide, wide_step}
use Rattle.theory_kept.specs.Model.{model_stays}
use Rattle.theory_kept.specs.Groups.{groups_stay}
use Rattle.decide_buffers.specs.Room.{model_room_lem, bounds_room_lem, groups_room_lem}
use Rattle.session_state.specs.State.{table_for, widened, kept_for, known_for, table_of_known, kept_of_known}
use Rattle.session_state.specs.Session.{table_known, kept_known}
use Rattle.session_step.specs.Read.{small_table, small_agree}
use Rattle.session_step.specs.Meaning.{TableFor, agree, short_table}
use Rattle.session_line.specs.Numbered.{ends}
use Rattle.session_learn.specs.Learnt.{learns, learnt, learn_verdict, learn_table}
use Rattle.session_table.specs.Anew.{anew_yes}
use Rattle.session_kept.specs.Kept.{kept_after, keeps_model_lem, keeps_groups_lem, Given}
use Rattle.session_kept.specs.Meaning.{kept_anew, kept_more, keeps_model, given_model, given_bounds, given_groups, model_length}
use Rattle.session_known.specs.Known.{known_after, known_anew_lem, after_line}

-- ---- a list with a solution
module _ (n : ℕ) (L : List ℤ) (valid : Workable n L) (yes_verdict : verdict_of n (lines_of L) ≡ true) where
  -- its table
  pub table_holds : TableFor n (steps_of (lines_of L)) (table_for n (lines_of L))
  unfolding verdict_of
  table_holds =
      let all = lines_ok n L valid in
      let rest = (and_true (not (has_false (lines_of L))) (no_negative (steps_of (lines_of L)) (2 * n) && consistent_halves n (lines_of L)) yes_verdict).1 in
      record {
        few = valid.variables;
        within = ends_points n (lines_of L) all;
        small = weights_small n (lines_of L) all;
        nonneg = no_negative_yes (steps_of (lines_of L)) (2 * n) (and_true (no_negative (steps_of (lines_of L)) (2 * n)) (consistent_halves n (lines_of L)) rest).0;
        is = refl;
      }

  module _ (modelled : Modellable n L) where
    -- made anew
    pub known_anew : (q : List ℤ) → known_anew_lem n L q ≡ known_for n (lines_of L)
    unfolding known_anew_lem known_for
    known_anew q =
        ap (λ (t : List ℤ). t ++ kept_after n false false t (kept_of_known n q)) (anew_yes n L valid.lines yes_verdict)
        ∙ ap (λ (x : List ℤ). table_for n (lines_of L) ++ x) (kept_anew n L valid modelled yes_verdict (table_for n (lines_of L)) table_holds (kept_of_known n q))

    -- given
    module _ (model bounds : List ℤ) (groups : List ℕ) (model' bounds' : List ℤ) (groups' : List ℕ)
        (given : Given n (table_of_known n (known_for n (lines_of L))) (kept_of_known n (known_for n (lines_of L))) model bounds groups model' bounds' groups') where
      abbrev own_table : List ℤ
      own_table = table_for n (lines_of L)

      outputs : Given n (table_for n (lines_of L)) (kept_for n (lines_of L)) model bounds groups model' bounds' groups'
      outputs =
          subst (λ (x : List ℤ). Given n (table_for n (lines_of L)) x model bounds groups model' bounds' groups') (kept_known n (lines_of L))
          (subst (λ (x : List ℤ). Given n x (kept_of_known n (known_for n (lines_of L))) model bounds groups model' bounds' groups') (table_known n (lines_of L)) given)

      pub known_model : model' ≡ model_of n (lines_of L) ++ drop (model_room_lem n) model
      known_model = given_model n L valid modelled yes_verdict own_table table_holds (kept_for n (lines_of L)) refl model bounds groups model' bounds' groups' outputs

      pub known_bounds : bounds' ≡ bounds_of n (lines_of L) ++ drop (bounds_room_lem n) bounds
      known_bounds = given_bounds n L valid modelled yes_verdict own_table table_holds (kept_for n (lines_of L)) refl model bounds groups model' bounds' groups' outputs

      pub known_groups : groups' ≡ groups_of n (lines_of L) ++ drop (groups_room_lem n) groups
      known_groups = given_groups n L valid modelled yes_verdict own_table table_holds (kept_for n (lines_of L)) refl model bounds groups model' bounds' groups' outputs

-- ---- one line more
module _ (n : ℕ) (L : List ℤ) (l : Line) (whole : length L % line_size ≡ 0) (valid : Workable n L) (modelled : Modellable n L)
    (valid' : Workable n (L ++ line_numbers_lem l)) (modelled' : Modellable n (L ++ line_numbers_lem l)) (yes_verdict : verdict_of n (lines_of L) ≡ true)
    (learnt_yes : learns n (L ++ line_numbers_lem l) (line_count L) (table_for n (lines_of L)) ≡ true) where
  abbrev M : List ℤ
  M = L ++ line_numbers_lem l

  abbrev k : ℕ
  k = line_count L

  -- the table and the outputs kept before, and the table with the line
  abbrev t : List ℤ
  t = table_for n (lines_of L)

  abbrev q : List ℤ
  q = kept_for n (lines_of L)

  abbrev t' : List ℤ
  t' = learnt n (L ++ line_numbers_lem l) (line_count L) (table_for n (lines_of L))

  yes_more : verdict_of n (lines_of (L ++ line_numbers_lem l)) ≡ true
  yes_more = sym (learn_verdict n L l whole valid'.lines yes_verdict t (table_holds n L valid yes_verdict)) ∙ learnt_yes

  table_more : TableFor n (steps_of (lines_of (L ++ line_numbers_lem l))) (learnt n (L ++ line_numbers_lem l) (line_count L) (table_for n (lines_of L)))
  table_more = learn_table n L l whole valid'.lines yes_verdict t (table_holds n L valid yes_verdict) learnt_yes

  -- the model that meets the line
  model_met : keeps_model_lem n (kept_for n (lines_of L)) (line_at (L ++ line_numbers_lem l) (line_count L)) ≡ true → model_of n (lines_of (L ++ line_numbers_lem l)) ≡ model_of n (lines_of L)
  model_met e =
      model_stays n L l valid valid' yes_more
      ((meets_true (assignment_of (model_of n (lines_of L))) l).0
      (sym (keeps_model n L valid modelled yes_verdict (widened (groups_of n (lines_of L))) q refl l) ∙ ap (keeps_model_lem n q) (sym (line_last L l whole)) ∙ e))

  -- a step that is wide in the table that is read is wide among the distances
  wide_read : (x : Option Step) → EndsBelow (2 * n) x → wide_step (small_table (2 * n) t') x ≡ wide_step (distances n (lines_of (L ++ line_numbers_lem l))) x
  wide_read (Some s) e =
      let small = small_agree n t' (short_table n (steps_of (lines_of M)) t' table_more) in
      let best = agree n (steps_of (lines_of M)) t' table_more in
      ap is_wide (closing_same (2 * n) _ _ small s e.0 e.1 ∙ closing_same (2 * n) _ _ best s e.0 e.1)
  wide_read None e = refl

  groups_wide : keeps_groups_lem n (L ++ line_numbers_lem l) (line_count L) t' ≡ true → groups_of n (lines_of (L ++ line_numbers_lem l)) ≡ groups_of n (lines_of L)
  groups_wide e =
      let x = step_numbered_lem M (2 * k) in
      let y = step_numbered_lem M (2 * k + 1) in
      let both = and_true (wide_step (small_table (2 * n) t') x) (wide_step (small_table (2 * n) t') y) e in
      groups_stay n L l valid valid' yes_more
      (sym (wide_read x (ends n M valid'.lines (2 * k))) ∙ both.0)
      (sym (wide_read y (ends n M valid'.lines (2 * k + 1))) ∙ both.1)

  pub known_after_law : known_after n (L ++ line_numbers_lem l) (line_count L) (known_for n (lines_of L)) ≡ known_for n (lines_of (L ++ line_numbers_lem l))
  unfolding known_for
  known_after_law =
      after_line n M k (known_for n (lines_of L)) (ap (learns n M k) (table_known n (lines_of L)) ∙ learnt_yes)
      ∙ ap₂ (λ (x y : List ℤ). learnt n M k x ++ kept_after n (keeps_model_lem n y (line_at M k)) (keeps_groups_lem n M k (learnt n M k x)) (learnt n M k x) y) (table_known n (lines_of L)) (kept_known n (lines_of L))
      ∙ ap₂ (λ (x y : List ℤ). x ++ y) table_more.is
      (kept_more n M valid' modelled' yes_more t' table_more (keeps_model_lem n q (line_at M k)) (keeps_groups_lem n M k t') (model_of n (lines_of L)) (groups_of n (lines_of L)) model_met groups_wide (model_length n (lines_of L)))
