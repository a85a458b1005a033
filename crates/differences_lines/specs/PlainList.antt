-- What the engine for differences asks of a list: that deciding works on it, and that each line is a difference; its plain steps then.
use Rattle.std.specs.Prelude.{◌≡◌, List, ℕ, ◌<◌, ℤ, pos}
use Rattle.std.proofs.Common.{sym, ◌∙◌}
use Rattle.integers.specs.Laws.{never}
use Rattle.lines.specs.Limits.{max_variables}
use Rattle.lines.specs.Line.{line_at, line_count, lines_of}
use Rattle.lines.specs.Valid.{VariableOk, LineWorks, AllOk, Workable, all_ok, lines_more}
use Rattle.steps.specs.declared.Step.{Step}
use Rattle.steps.specs.Step.{max_weight}
use Rattle.theory_walks.specs.Row.{In, WithinPoints}
use Rattle.theory_walks.specs.Size.{WithinWeights}
use Rattle.theory_walks.specs.Graph.{line_at_law}
use Rattle.theory_differences.specs.Plain.{Difference, forward, backward, Differences, plain_steps, plain_member, plain_step_lem, plain_within, plain_weights}

pub record PlainList (n : ℕ) (L : List ℤ) : Type 0 where
  pub works : Workable n L
  pub all : Differences (lines_of L)

-- of one line
pub record PlainAt (L : List ℤ) (k : ℕ) : Type 0 where
  pub inside : k < line_count L
  pub works : LineWorks max_variables (line_at L k)
  pub is : Difference (line_at L k)

-- both its variables have a coefficient
module _ {L : List ℤ} {k : ℕ} (p : PlainAt L k) where
  pub plain_x : VariableOk max_variables (line_at L k).x
  plain_x = p.works.variable_x (some_first p.is)
    where
      some_first : Difference (line_at L k) → (line_at L k).a ≡ pos 0 → ⊥
      some_first (forward e f) z = never (cc (sym e ∙ z))
      some_first (backward e f) z = never (cc (sym e ∙ z))

  pub plain_y : VariableOk max_variables (line_at L k).y
  plain_y = p.works.variable_y (some_second p.is)
    where
      some_second : Difference (line_at L k) → (line_at L k).b ≡ pos 0 → ⊥
      some_second (forward e f) z = never (cc (sym f ∙ z))
      some_second (backward e f) z = never (cc (sym f ∙ z))

-- its steps over the variables
abbrev pub plain_of : List ℤ → List Step
plain_of L = plain_steps (lines_of L)

module _ {n : ℕ} {L : List ℤ} (p : PlainList n L) where
  pub plain_ok : AllOk n (lines_of L)
  plain_ok = all_ok n L p.works.lines

  pub plain_at : (k : ℕ) → k < line_count L → PlainAt L k
  plain_at k h = record { inside = h; works = lines_more n max_variables L p.works.variables p.works.lines k h; is = p.all k (line_at L k) (line_at_law L k h) }

  pub ends_within : WithinPoints n (plain_of L)
  ends_within = plain_within (lines_of L) p.all n plain_ok

  pub weights_within : WithinWeights max_weight (plain_of L)
  weights_within = plain_weights (lines_of L) p.all n plain_ok

  pub step_among : (k : ℕ) → k < line_count L → In (plain_step_lem (line_at L k)) (plain_of L)
  step_among k h = plain_member (lines_of L) k (line_at L k) (line_at_law L k h)
