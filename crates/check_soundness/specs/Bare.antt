-- The refutation checker looks at no identifier: on valid lists that differ in them alone it gives every refutation the same answer.
use Rattle.std.specs.Prelude.{◌≡◌, Bool, cond, ◌&&◌, ℕ, ◌/◌, ◌%◌, ℤ, None, Ok}
use Rattle.std.proofs.Math.Path.{refl, ap}
use Rattle.std.proofs.Common.{◌∙◌, ltb-true}
use Rattle.std.proofs.Math.Bool.{true, false}
use mathlib.Core.List.{List, [], ◌∷◌}
use Rattle.std.proofs.Math.Dec.{eqb, ltb}
use Rattle.lines.specs.declared.Line.{Line}
use Rattle.lines.specs.Line.{line_at, line_count, is_false_lem}
use Rattle.lines.specs.Bare.{bare, OnlyIdentifiers, blind_same, false_blind}
use Rattle.lines.specs.Refusal.{validity_of}
use Rattle.steps.specs.Step.{step_of, step_numbered_lem}
use Rattle.steps.specs.Laws.{step_blind}
use Rattle.check_refutation.specs.declared.Progress.{Progress}
use Rattle.check_refutation.specs.Progress.{start, is_false_step_lem, advance, run}
use Rattle.check_refutation.specs.Answer.{refutation_validity, refutation_answer}

module _ (L M : List ℤ) (o : OnlyIdentifiers L M) where
  -- what is asked of the line with a number, and answered by d where there is none
  at_line : {A : Type 0} (f : Line → A) → ((l : Line) → f (bare l) ≡ f l) → (d : A) (k : ℕ) → cond (ltb k (line_count L)) (f (line_at L k)) d ≡ cond (ltb k (line_count M)) (f (line_at M k)) d
  at_line {A} f blind d k = rw (← o.count) (go (ltb k (line_count L)) refl)
    where
      go : (t : Bool) → ltb k (line_count L) ≡ t → cond t (f (line_at L k)) d ≡ cond t (f (line_at M k)) d
      go true e = blind_same f blind _ _ (o.line k (ltb-true _ _ e))
      go false e = refl

  same_named : (k : ℕ) → step_numbered_lem L k ≡ step_numbered_lem M k
  unfolding step_numbered_lem
  same_named k = at_line (λ l. step_of l (k % 2)) (step_blind (k % 2)) None (k / 2)

  same_false_step : (k : ℕ) → is_false_step_lem L k ≡ is_false_step_lem M k
  unfolding is_false_step_lem
  same_false_step k = ap (λ (b : Bool). eqb (k % 2) 0 && b) (rw (← o.count) (go (ltb (k / 2) (line_count L)) refl))
    where
      go : (t : Bool) → ltb (k / 2) (line_count L) ≡ t → (t && is_false_lem (line_at L (k / 2))) ≡ (t && is_false_lem (line_at M (k / 2)))
      go true e = blind_same is_false_lem false_blind _ _ (o.line (k / 2) (ltb-true _ _ e))
      go false e = refl

  same_advance : (s : Progress) (r : ℕ) → advance L s r ≡ advance M s r
  unfolding advance
  same_advance s r = rw (same_named r, same_false_step r)

  same_run : (R : List ℕ) (s : Progress) → run L s R ≡ run M s R
  unfolding run
  same_run [] s = refl
  same_run (r ∷ R) s = same_run R (advance L s r) ∙ ap (λ (t : Progress). run M t R) (same_advance s r)

  pub same_checked : (n : ℕ) → validity_of n L ≡ Ok tt → validity_of n M ≡ Ok tt → (R : List ℕ) → refutation_answer n L R ≡ refutation_answer n M R
  unfolding refutation_answer refutation_validity
  same_checked n v w R = rw (v, w, same_run R start)
