-- A choice's refutations: those of the whole list whose steps are all of lines that the choice picks.
--
-- A step number means the same in the masked list where its line is picked, and names no step where it is not; so each refutation is carried over by its
-- own step numbers, both ways.
use Rattle.std.specs.Prelude.{◌≡◌, ◌↔◌, Bool, List, ℕ, ◌*◌, ◌/◌, ◌%◌, ◌<◌, ltb, ℤ, None, Ok, Option, Some}
use Rattle.std.proofs.Math.Path.{refl}
use Rattle.std.proofs.Common.{sym, ap, subst, ◌∙◌, arith, ltb-true}
use Rattle.std.proofs.Math.Bool.{true, false, cond}
use Rattle.integers.specs.Laws.{never}
use Rattle.lines.specs.declared.Line.{Line}
use Rattle.lines.specs.Line.{line_at, line_count, is_false_lem}
use Rattle.lines.specs.Refusal.{validity_of}
use Rattle.lines.specs.Zero.{zero_line}
use Rattle.steps.specs.declared.Step.{Step}
use Rattle.steps.specs.Step.{step_of, step_numbered_lem}
use Rattle.steps.specs.Zero.{zero_no_step, zero_not_false}
use Rattle.check_answers.specs.declared.CheckAnswer.TheVariants.{Yes}
use Rattle.check_refutation.specs.Progress.{accepts}
use Rattle.check_refutation.specs.Answer.{refutation_answer}
use Rattle.check_soundness.specs.Refutes.{FalseStep, Refutes}
use Rattle.check_soundness.specs.Meaning.{accepts_exactly}
use Rattle.check_soundness.specs.Carried.{EachStep, refutes_carried, refutes_each}
use Rattle.check_soundness.specs.Answered.{answered_yes}
use Rattle.tree_lists.specs.Masked.{is_picked_lem, masked, same_count, line_masked, line_picked, line_unpicked, masked_valid}

module _ (flags : List ℕ) (L : List ℤ) where
  -- the step number is of a line that is picked
  abbrev pub PickedStep : ℕ → Type 0
  PickedStep k = is_picked_lem flags (k / 2) ≡ true

  -- a step number names what it names in the whole list, or nothing
  pub step_masked : (k : ℕ) → step_numbered_lem (masked flags L) k ≡ cond (is_picked_lem flags (k / 2)) (step_numbered_lem L k) None
  unfolding step_numbered_lem
  step_masked k = rw (same_count flags L) (go (ltb (k / 2) (line_count L)) refl)
    where
      at : (t : Bool) → step_of (cond t (line_at L (k / 2)) zero_line) (k % 2) ≡ cond t (step_of (line_at L (k / 2)) (k % 2)) None
      at true = refl
      at false = zero_no_step (k % 2) (omega arith)

      none : (t : Bool) → ◌≡◌ {A = Option Step} None (cond t None None)
      none true = refl
      none false = refl

      go : (u : Bool) → ltb (k / 2) (line_count L) ≡ u
          → cond u (step_of (line_at (masked flags L) (k / 2)) (k % 2)) None ≡ cond (is_picked_lem flags (k / 2)) (cond u (step_of (line_at L (k / 2)) (k % 2)) None) None
      go true e = ap (λ (l : Line). step_of l (k % 2)) (line_masked flags L (k / 2) (ltb-true _ _ e)) ∙ at (is_picked_lem flags (k / 2))
      go false e = none (is_picked_lem flags (k / 2))

  -- a step of the masked list is one of a picked line of the whole list, with the same number
  pub found_masked : (k : ℕ) (t : Step) → step_numbered_lem (masked flags L) k ≡ Some t → PickedStep k × (step_numbered_lem L k ≡ Some t)
  found_masked k t e = go (is_picked_lem flags (k / 2)) (sym (step_masked k) ∙ e)
    where
      go : (b : Bool) → cond b (step_numbered_lem L k) None ≡ Some t → (b ≡ true) × (step_numbered_lem L k ≡ Some t)
      go true q = (refl, q)
      go false q = never (cc)

  pub masked_found : (k : ℕ) (t : Step) → PickedStep k → step_numbered_lem L k ≡ Some t → step_numbered_lem (masked flags L) k ≡ Some t
  masked_found k t p e = step_masked k ∙ ap (λ (b : Bool). cond b (step_numbered_lem L k) None) p ∙ e

  -- the same of false lines
  half_twice : (k l : ℕ) → k ≡ 2 * l → k / 2 ≡ l
  half_twice k l e = omega arith

  pub false_masked : (k : ℕ) → FalseStep (masked flags L) k → PickedStep k × FalseStep L k
  false_masked k w = go (is_picked_lem flags w.line) refl
    where
      within : w.line < line_count L
      within = subst (λ (c : ℕ). w.line < c) (same_count flags L) w.within

      go : (b : Bool) → is_picked_lem flags w.line ≡ b → PickedStep k × FalseStep L k
      go true e = (
        ap (is_picked_lem flags) (half_twice k w.line w.is) ∙ e,
        record { line = w.line; is = w.is; within = within; false_line = ap is_false_lem (sym (line_picked flags L w.line within e)) ∙ w.false_line },
      )
      go false e = never (cc (sym zero_not_false ∙ ap is_false_lem (sym (line_unpicked flags L w.line within e)) ∙ w.false_line))

  masked_false : (k : ℕ) → PickedStep k → FalseStep L k → FalseStep (masked flags L) k
  masked_false k p w =
      let picked : is_picked_lem flags w.line ≡ true = ap (is_picked_lem flags) (sym (half_twice k w.line w.is)) ∙ p in
      record {
        line = w.line;
        is = w.is;
        within = subst (λ (c : ℕ). w.line < c) (sym (same_count flags L)) w.within;
        false_line = ap is_false_lem (line_picked flags L w.line w.within picked) ∙ w.false_line;
      }

  -- ---- refutations
  pub refutes_picked : (R : List ℕ) → Refutes (masked flags L) R ↔ (Refutes L R × EachStep PickedStep R)
  refutes_picked R = (
    (λ r.
        let picked = refutes_each (masked flags L) PickedStep (λ k t e. (found_masked k t e).0) (λ k w. (false_masked k w).0) R r in (
          refutes_carried (masked flags L) L PickedStep (λ k t p e. (found_masked k t e).1) (λ k p w. (false_masked k w).1) R picked r,
          picked,
        )),
    (λ h. refutes_carried L (masked flags L) PickedStep masked_found masked_false R h.1 h.0),
  )

  -- the checker's rule
  pub accepts_picked : (R : List ℕ) → (accepts (masked flags L) R ≡ true) ↔ ((accepts L R ≡ true) × EachStep PickedStep R)
  accepts_picked R = (
    (λ e. let r = (refutes_picked R).0 ((accepts_exactly (masked flags L) R).0 e) in ((accepts_exactly L R).1 r.0, r.1)),
    (λ h. (accepts_exactly (masked flags L) R).1 ((refutes_picked R).1 ((accepts_exactly L R).0 h.0, h.1))),
  )

  -- the checker itself, in a valid list: what it accepts against the masked list is what it accepts against the whole list with steps of picked lines alone
  pub answers_picked : (n : ℕ) → validity_of n L ≡ Ok tt → (R : List ℕ) → (refutation_answer n (masked flags L) R ≡ Ok Yes) ↔ ((refutation_answer n L R ≡ Ok Yes) × EachStep PickedStep R)
  answers_picked n v R = (
    (λ e.
        let y = (answered_yes n (masked flags L) R).0 e in
        let a = (accepts_picked R).0 y.2 in
        ((answered_yes n L R).1 (v, y.1, a.0), a.1)),
    (λ h.
        let y = (answered_yes n L R).0 h.0 in
        (answered_yes n (masked flags L) R).1 (masked_valid flags L n v, y.1, (accepts_picked R).1 (y.2, h.1))),
  )
