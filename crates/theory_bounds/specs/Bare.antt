-- Identifiers change nothing of what is decided: lines that differ in them alone have the same steps, and so the same verdict, model, bounds, groups and
-- due kind.
use Rattle.std.specs.Prelude.{◌≡◌, refl, Bool, ◌||◌, List, [], ◌∷◌, ℕ}
use Rattle.std.proofs.Common.{ap₂}
use Rattle.lines.specs.declared.Line.{Line}
use Rattle.lines.specs.Line.{is_false_lem}
use Rattle.lines.specs.Bare.{SameBare, blind_same, false_blind}
use Rattle.steps.specs.Step.{step_of, steps_of}
use Rattle.steps.specs.Laws.{step_blind}
use Rattle.theory_bounds.specs.Verdict.{has_false, consistent_halves, verdict_of, due_kind}
use Rattle.theory_bounds.specs.Answers.{model_of, bounds_of, groups_of}

pub same_false : (ls ms : List Line) → SameBare ls ms → has_false ls ≡ has_false ms
unfolding has_false
same_false [] [] e = refl
same_false [] (m ∷ ms) e = absurd e
same_false (l ∷ ls) [] e = absurd e
same_false (l ∷ ls) (m ∷ ms) e = ap₂ (λ (a b : Bool). a || b) (blind_same is_false_lem false_blind l m e.0) (same_false ls ms e.1)

pub same_steps : (ls ms : List Line) → SameBare ls ms → steps_of ls ≡ steps_of ms
unfolding steps_of
same_steps [] [] e = refl
same_steps [] (m ∷ ms) e = absurd e
same_steps (l ∷ ls) [] e = absurd e
same_steps (l ∷ ls) (m ∷ ms) e =
    rw (blind_same (λ k. step_of k 0) (step_blind 0) l m e.0, blind_same (λ k. step_of k 1) (step_blind 1) l m e.0, same_steps ls ms e.1)

module _ (n : ℕ) (ls ms : List Line) (e : SameBare ls ms) where
  pub same_verdict : verdict_of n ls ≡ verdict_of n ms
  unfolding verdict_of consistent_halves
  same_verdict = rw (same_false ls ms e, same_steps ls ms e)

  pub same_kind : due_kind n ls ≡ due_kind n ms
  unfolding due_kind
  same_kind = rw (same_false ls ms e, same_steps ls ms e)

  pub same_model : model_of n ls ≡ model_of n ms
  unfolding model_of
  same_model = rw (same_steps ls ms e)

  pub same_bounds : bounds_of n ls ≡ bounds_of n ms
  unfolding bounds_of
  same_bounds = rw (same_steps ls ms e)

  pub same_groups : groups_of n ls ≡ groups_of n ms
  unfolding groups_of
  same_groups = rw (same_steps ls ms e)
