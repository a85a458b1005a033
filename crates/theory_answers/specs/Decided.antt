-- The verdict is yes exactly if the list has a solution, and no exactly if the checker accepts some refutation: then it accepts one of the due kind.
use Rattle.std.specs.Prelude.{◌≡◌, ◌↔◌, Bool, cond, List, [], ◌∷◌, ℕ, ◌*◌, ◌<◌, ℤ, Ok}
use Rattle.std.proofs.Math.Path.{refl}
use Rattle.std.proofs.Common.{ap, ◌∙◌, arith}
use Rattle.std.proofs.Math.Bool.{true, false}
use Rattle.integers.specs.Laws.{never}
use Rattle.lines.specs.Line.{line_at, line_count, lines_of, assignment_of, Solvable, is_false_lem}
use Rattle.lines.specs.Refusal.{validity_of}
use Rattle.lines.specs.Valid.{AllOk, Workable, all_ok, workable}
use Rattle.steps.specs.Step.{steps_of}
use Rattle.check_answers.specs.declared.CheckAnswer.TheVariants.{Yes}
use Rattle.theory_walks.specs.Negative.{no_negative, no_negative_found}
use Rattle.check_refutation.specs.Progress.{accepts}
use Rattle.check_refutation.specs.Answer.{refutation_answer}
use Rattle.check_soundness.specs.Refutes.{Closed, Falsehood, Refutes}
use Rattle.check_soundness.specs.Meaning.{accepts_exactly}
use Rattle.check_soundness.specs.Sound.{solved_not_refuted}
use Rattle.check_soundness.specs.Answered.{accepted_when}
use Rattle.theory_walks.specs.Graph.{line_at_law, at_line, ends_points, named_steps}
use Rattle.theory_bounds.specs.Verdict.{has_false, no_false, first_false_lem, lowest_false, verdict_of, due_kind}
use Rattle.theory_answers.specs.Refuted.{Due, kind_false, falsehood, closed_walk, due_refutation}
use Rattle.theory_bounds.specs.Answers.{model_of}
use Rattle.theory_answers.specs.Meaning.{model_is_model}

-- line k is the lowest false line
pub record LowestFalseLine (L : List ℤ) (k : ℕ) : Type 0 where
  pub within : k < line_count L
  pub false_line : is_false_lem (line_at L k) ≡ true
  pub lowest : (j : ℕ) → j < k → is_false_lem (line_at L j) ≡ false

-- which kind is due, by the checker's rule
abbrev pub Some : (List ℕ → Type 0) → Type 0
Some P = (R : List ℕ) × P R

pub data DueKind (L : List ℤ) : ℕ → Type 0 where
  due_3 : Some (Falsehood L) → DueKind L 3
  due_1 : (Some (Falsehood L) → ⊥) → Some (Closed L) → DueKind L 1
  due_2 : (Some (Falsehood L) → ⊥) → (Some (Closed L) → ⊥) → DueKind L 2

module _ (n : ℕ) (L : List ℤ) (valid : Workable n L) where
  pub lines_ok : AllOk n (lines_of L)
  lines_ok = all_ok n L valid.lines

  pub yes_solvable : verdict_of n (lines_of L) ≡ true → Solvable (lines_of L)
  yes_solvable e = record { assignment = assignment_of (model_of n (lines_of L)); solves = (model_is_model n (lines_of L) lines_ok e).solves }

  pub no_unsolvable : verdict_of n (lines_of L) ≡ false → Solvable (lines_of L) → ⊥
  no_unsolvable e s = let r = due_refutation n L e in solved_not_refuted n L valid.lines s.assignment s.solves r.0 r.1.refutes

  pub solvable_yes : Solvable (lines_of L) → verdict_of n (lines_of L) ≡ true
  solvable_yes s = go (verdict_of n (lines_of L)) refl
    where
      go : (b : Bool) → verdict_of n (lines_of L) ≡ b → b ≡ true
      go true e = refl
      go false e = absurd (no_unsolvable e s)

  pub unsolvable_no : (Solvable (lines_of L) → ⊥) → verdict_of n (lines_of L) ≡ false
  unsolvable_no f = go (verdict_of n (lines_of L)) refl
    where
      go : (b : Bool) → verdict_of n (lines_of L) ≡ b → b ≡ false
      go true e = absurd (f (yes_solvable e))
      go false e = refl

  -- a refutation of any length says no; and where there is one, the checker's rule accepts it
  pub refuted_no : (R : List ℕ) → Refutes L R → verdict_of n (lines_of L) ≡ false
  refuted_no R r = unsolvable_no (λ s. solved_not_refuted n L valid.lines s.assignment s.solves R r)

  pub no_exactly_refuted : (verdict_of n (lines_of L) ≡ false) ↔ Some (λ R. accepts L R ≡ true)
  no_exactly_refuted = (
    (λ e. let r = due_refutation n L e in (r.0, (accepts_exactly L r.0).1 r.1.refutes)),
    (λ r. refuted_no r.0 ((accepts_exactly L r.0).0 r.1)),
  )

  -- ---- which kind is due: 3 if some line is false, else 1 if a closed walk of negative sum exists, else 2
  has_falsehood : (has_false (lines_of L) ≡ true) ↔ Some (Falsehood L)
  has_falsehood = ((λ e. (_, falsehood n L e)), (λ f. go (has_false (lines_of L)) refl f.1))
    where
      go : (b : Bool) → has_false (lines_of L) ≡ b → {R : List ℕ} → Falsehood L R → b ≡ true
      go true e f = refl
      go false e f = let w = f.false_step in absurd (no_false (lines_of L) e w.line _ (line_at_law L w.line w.within) w.false_line)

  -- where some line is false, a due refutation names the lowest
  pub names_the_lowest : (R : List ℕ) → Due n L R → (j : ℕ) → j < line_count L → is_false_lem (line_at L j) ≡ true → (k : ℕ) × LowestFalseLine L k × (R ≡ 3 ∷ 1 ∷ 0 ∷ 2 * k ∷ [])
  names_the_lowest R d j h f = go (has_false (lines_of L)) refl
    where
      go : (b : Bool) → has_false (lines_of L) ≡ b → (k : ℕ) × LowestFalseLine L k × (R ≡ 3 ∷ 1 ∷ 0 ∷ 2 * k ∷ [])
      go false e = absurd (no_false (lines_of L) e j _ (line_at_law L j h) f)
      go true e =
          let k = first_false_lem 0 (lines_of L) in
          let l = lowest_false (lines_of L) e in
          let a = at_line L k l.line l.at in (
            k,
            record { within = a.0; false_line = ap is_false_lem a.1 ∙ l.false_line; lowest = λ i q. l.before i (line_at L i) q (line_at_law L i (omega (arith, a.0))) },
            d.lowest (kind_false n (lines_of L) e),
          )

  has_closed : (no_negative (steps_of (lines_of L)) (2 * n) ≡ false) ↔ Some (Closed L)
  has_closed = ((λ e. closed_walk n L e), (λ c. found c.1))
    where
      found : {R : List ℕ} → Closed L R → no_negative (steps_of (lines_of L)) (2 * n) ≡ false
      found c =
          let w = c.walk in
          no_negative_found _ (2 * n) (ends_points n (lines_of L) lines_ok) c.point w.steps
          (record { path = w.path; steps = named_steps L c.numbers w.steps w.named }) c.low

  pub kind_due : DueKind L (due_kind n (lines_of L))
  unfolding due_kind
  kind_due = go (has_false (lines_of L)) refl (no_negative (steps_of (lines_of L)) (2 * n)) refl
    where
      other : {t : Bool} → t ≡ true → t ≡ false → ⊥
      other e f = never (cc)

      go : (a : Bool) → has_false (lines_of L) ≡ a → (b : Bool) → no_negative (steps_of (lines_of L)) (2 * n) ≡ b → DueKind L (cond a 3 (cond b 2 1))
      go true e b f = due_3 (has_falsehood.0 e)
      go false e false f = due_1 (λ s. other (has_falsehood.1 s) e) (has_closed.0 f)
      go false e true f = due_2 (λ s. other (has_falsehood.1 s) e) (λ s. other f (has_closed.1 s))

-- ---- the checker's answer, on a valid list
module _ (n : ℕ) (L : List ℤ) (valid : validity_of n L ≡ Ok tt) where
  -- a due refutation is short enough for the checker
  pub due_accepted : (R : List ℕ) → Due n L R → refutation_answer n L R ≡ Ok Yes
  due_accepted R d = (accepted_when n L R).1 (valid, omega (arith, d.size, (workable n L valid).variables), d.refutes)

  pub accepted_no : (R : List ℕ) → refutation_answer n L R ≡ Ok Yes → verdict_of n (lines_of L) ≡ false
  accepted_no R e = refuted_no n L (workable n L valid) R ((accepted_when n L R).0 e).2
