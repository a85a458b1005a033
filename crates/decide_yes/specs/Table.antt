-- The stored table of a list holds the distances themselves: so the model, bounds and groups read off it are those of the definitions.
use Rattle.std.specs.Prelude.{◌≡◌, true, List, ℕ, ◌*◌, ◌<◌, ◌≤◌, ℤ, nat_abs}
use Rattle.std.proofs.Common.{ap, ◌∙◌, mul-le-mul_right, arith}
use Rattle.integers.specs.Integer.{Within}
use Rattle.integers.proofs.Halving.{abs_within}
use Rattle.integers.specs.Sequence.{tabulate, tabulate_cong}
use Rattle.lines.specs.Limits.{max_variables, model_constant}
use Rattle.lines.specs.Line.{lines_of, assignment_of}
use Rattle.lines.specs.Valid.{LinesOk, Workable, Modellable}
use Rattle.steps.specs.Step.{steps_of}
use Rattle.theory_walks.specs.Row.{best}
use Rattle.theory_bounds.specs.Tight.{Table}
use Rattle.theory_bounds.specs.Table.{ClosedTable, table_model}
use Rattle.theory_bounds.specs.Answers.{model_of, bound_at, bounds_of, group_at_lem, groups_of}
use Rattle.theory_bounds.specs.Verdict.{distances, verdict_of}
use Rattle.theory_answers.specs.Meaning.{closed, model_is_model, model_value}
use Rattle.theory_answers.specs.Small.{works_above, model_small}
use Rattle.theory_answers.specs.Decided.{lines_ok}
use Rattle.decide_rows.specs.Read.{distance_of, short_more}
use Rattle.decide_rows.specs.Table.{stored_table, table_length, stored_at, best_short}
use Rattle.decide_stored_table.specs.Sum.{read_back}
use Rattle.decide_stored_table.specs.Table.{table_of, ShortTable, closed_same}
use Rattle.decide_model.specs.Limit.{max_model}
use Rattle.theory_bounds.specs.Agree.{Agree, table_model_same, bounds_same, groups_same}

-- ---- the stored table of a list
abbrev pub table_for : ℕ → List ℤ → List ℤ
table_for n L = stored_table (steps_of (lines_of L)) (2 * n) (2 * n)

module _ (n : ℕ) (L : List ℤ) (few : n ≤ max_variables) (ok : LinesOk n L) where
  abbrev D : Table
  D = table_of (2 * n) (table_for n L)

  pub agree : Agree (2 * n) (table_of (2 * n) (table_for n L)) (distances n (lines_of L))
  agree u v hu hv =
      ap distance_of (stored_at (steps_of (lines_of L)) (2 * n) u v hu hv)
      ∙ read_back (best (steps_of (lines_of L)) (2 * n) u v) (short_more (omega arith) (best_short n L few ok u v))

  pub short_table : ShortTable n (table_for n L)
  short_table =
      record {
        variables = few;
        size = table_length (steps_of (lines_of L)) (2 * n) (2 * n);
        short = λ u v hu hv. rw (agree u v hu hv) (best_short n L few ok u v);
      }

  pub model_agrees : tabulate n (table_model n (table_of (2 * n) (table_for n L))) ≡ model_of n (lines_of L)
  unfolding model_of
  model_agrees = tabulate_cong n (table_model n D) (table_model n (distances n (lines_of L))) (λ x h. table_model_same n D (distances n (lines_of L)) agree x)

  pub bounds_agree : tabulate (2 * n) (bound_at (table_of (2 * n) (table_for n L))) ≡ bounds_of n (lines_of L)
  unfolding bounds_of
  bounds_agree = bounds_same n D (distances n (lines_of L)) agree

  pub groups_agree : tabulate (2 * n) (group_at_lem (table_of (2 * n) (table_for n L))) ≡ groups_of n (lines_of L)
  unfolding groups_of
  groups_agree = groups_same n D (distances n (lines_of L)) agree

-- ---- on a yes, the table is closed and the model's values are small
small_within : (n : ℕ) (z : ℤ) → n ≤ max_variables → nat_abs z ≤ n * model_constant → Within max_model z
small_within n z l h = abs_within max_model z (omega (arith, mul-le-mul_right model_constant l))

module _ (n : ℕ) (L : List ℤ) (valid : Workable n L) (yes_verdict : verdict_of n (lines_of L) ≡ true) where
  pub table_closed : ClosedTable n (table_of (2 * n) (table_for n L))
  table_closed =
      closed_same n (table_of (2 * n) (table_for n L)) (distances n (lines_of L)) (agree n L valid.variables valid.lines) (closed n (lines_of L) (lines_ok n L valid) yes_verdict)

  module _ (modelled : Modellable n L) where
    pub model_within : (k : ℕ) → k < n → Within max_model (assignment_of (model_of n (lines_of L)) k)
    model_within k h =
        let a = lines_ok n L valid in
        small_within n _ valid.variables
        (model_small n model_constant (lines_of L) a (works_above model_constant n L modelled) (assignment_of (model_of n (lines_of L))) (model_is_model n (lines_of L) a yes_verdict) k h)

    pub model_ready : (k : ℕ) → k < n → Within max_model (table_model n (table_of (2 * n) (table_for n L)) k)
    model_ready k h =
        let e : table_model n (table_of (2 * n) (table_for n L)) k ≡ table_model n (distances n (lines_of L)) k =
        table_model_same n (table_of (2 * n) (table_for n L)) (distances n (lines_of L)) (agree n L valid.variables valid.lines) k in
        rw e (rw (model_value n (lines_of L) (lines_ok n L valid) yes_verdict k h) at (model_within k h))
