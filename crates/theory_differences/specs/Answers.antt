-- What deciding a list of differences answers, by the walks between its variables alone: the verdict and the kind; and on a yes what is read off a table
-- of the plain distances.
use Rattle.std.specs.Prelude.{◌≡◌, Bool, ◌&&◌, List, ℕ, ◌*◌, ◌<◌}
use Rattle.std.proofs.Math.Path.{refl, sym}
use Rattle.std.proofs.Common.{◌∙◌}
use Rattle.std.proofs.Math.Bool.{true, false}
use Rattle.integers.specs.Sequence.{tabulate, tabulate_cong}
use Rattle.integers.specs.Table.{below_all}
use Rattle.lines.specs.declared.Line.{Line}
use Rattle.lines.specs.Valid.{AllOk}
use Rattle.steps.specs.Step.{steps_of}
use Rattle.theory_walks.specs.Least.{NoneNegative}
use Rattle.theory_walks.specs.Negative.{no_negative, no_negative_yes}
use Rattle.theory_bounds.specs.Tight.{Table}
use Rattle.theory_bounds.specs.Table.{table_model}
use Rattle.theory_bounds.specs.Agree.{Agree, table_model_same, bounds_same, groups_same}
use Rattle.theory_bounds.specs.Verdict.{distances, halves_ok_lem, consistent_halves, verdict_of, due_kind}
use Rattle.theory_bounds.specs.Answers.{model_of, bound_at, bounds_of, group_at_lem, groups_of}
use Rattle.theory_differences.specs.Plain.{Differences, plain_steps, none_false}
use Rattle.theory_differences.specs.Distances.{plain_distances, doubled, no_negative_plain, opposites, doubled_cong, doubled_agrees}
use Rattle.theory_differences.specs.Doubled.{absent_at, doubled_bound}

module _ (n : ℕ) (ls : List Line) (ok : AllOk n ls) (ds : Differences ls) where
  -- ---- the verdict: no closed walk over the variables is negative
  halves_consistent : consistent_halves n ls ≡ true
  unfolding consistent_halves
  halves_consistent = below_all (2 * n) (halves_ok_lem (distances n ls)) (λ i h. rw (opposites n ls ok ds i))

  pub verdict_plain : verdict_of n ls ≡ no_negative (plain_steps ls) n
  unfolding verdict_of
  verdict_plain = rw (none_false ls ds, halves_consistent, no_negative_plain n ls ok ds) (keep (no_negative (plain_steps ls) n))
    where
      keep : (b : Bool) → (b && true) ≡ b
      keep true = refl
      keep false = refl

  -- a no is always of kind 1
  pub kind_plain : no_negative (plain_steps ls) n ≡ false → due_kind n ls ≡ 1
  unfolding due_kind
  kind_plain e =
      let f : no_negative (steps_of ls) (2 * n) ≡ false = no_negative_plain n ls ok ds ∙ e in
      rw (none_false ls ds, f)

  -- ---- on a yes, a table of variables that has their distances, doubled, has the answers
  module _ (yes : no_negative (plain_steps ls) n ≡ true) (D : Table) (same : (x y : ℕ) → x < n → y < n → D x y ≡ plain_distances n ls x y) where
    nonneg : NoneNegative (plain_steps ls) n
    nonneg = no_negative_yes (plain_steps ls) n yes

    doubled_same : Agree (2 * n) (doubled D) (distances n ls)
    doubled_same p q hp hq = between p q hp hq ∙ doubled_agrees n ls ok ds nonneg p q hp hq
      where
        between : Agree (2 * n) (doubled D) (doubled (plain_distances n ls))
        between = doubled_cong n D (plain_distances n ls) same

    pub plain_model : tabulate n (table_model n (doubled D)) ≡ model_of n ls
    unfolding model_of
    plain_model = tabulate_cong n _ _ (λ x h. table_model_same n (doubled D) (distances n ls) doubled_same x)

    pub plain_groups : tabulate (2 * n) (group_at_lem (doubled D)) ≡ groups_of n ls
    unfolding groups_of
    plain_groups = groups_same n (doubled D) (distances n ls) doubled_same

    pub plain_bounds : tabulate (2 * n) absent_at ≡ bounds_of n ls
    unfolding bounds_of
    plain_bounds = tabulate_cong (2 * n) absent_at (bound_at (doubled D)) (λ i h. sym (doubled_bound D i)) ∙ bounds_same n (doubled D) (distances n ls) doubled_same
