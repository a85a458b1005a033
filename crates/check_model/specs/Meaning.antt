-- What the answer to a proposed model means: yes exactly if the values solve the list, no exactly with the first line that fails, in list order.
use Rattle.std.specs.Prelude.{◌≡◌, refl, ◌↔◌, ◌⊎◌, Bool, true, false, List, ℕ, zero, suc, ◌<◌, ◌≤◌, ℤ, drop, Err, Ok, Result}
use Rattle.std.proofs.Common.{sym, ap, subst, ◌∙◌, inl, inr, ⊎_elim, suc-le-suc, add-one, arith, below_none, below_more}
use Rattle.integers.specs.Laws.{never}
use Rattle.integers.specs.Sequence.{tabulate}
use Rattle.lines.specs.declared.Line.{Line}
use Rattle.lines.specs.declared.Refusal.{Refusal}
use Rattle.lines.specs.Line.{Assignment, line_at, line_count, lines_of, Meets, meets, Solves, assignment_of}
use Rattle.lines.specs.Solutions.{meets_true, solves_at}
use Rattle.check_answers.specs.declared.CheckAnswer.{CheckAnswer}
use Rattle.check_answers.specs.declared.CheckAnswer.TheVariants.{Yes, No}
use Rattle.check_answers.specs.Answer.{NotRefused, unrefused, refused_when}
use Rattle.check_model.specs.Model.{model_validity_lem, first_failing_lem, model_answer}
use Rattle.check_model.specs.Laws.{failing_on, failing_at, failing_past}

-- line k is the first that fails
pub record FirstFails (L : List ℤ) (s : Assignment) (k : ℕ) : Type 0 where
  pub line : k < line_count L
  pub fails : Meets s (line_at L k) → ⊥
  pub before : (i : ℕ) → i < k → Meets s (line_at L i)

not_met : (s : Assignment) (l : Line) → (Meets s l → ⊥) → meets s l ≡ false
not_met s l h = go (meets s l) refl
  where
    go : (t : Bool) → meets s l ≡ t → t ≡ false
    go true e = absurd (h ((meets_true s l).0 e))
    go false e = refl

solves_tabulate : (n : ℕ) (f : ℕ → Line) (s : Assignment) → ((k : ℕ) → k < n → Meets s (f k)) → Solves (tabulate n f) s
solves_tabulate zero f s h = tt
solves_tabulate (suc n) f s h = (h zero (omega arith), solves_tabulate n (λ k. f (suc k)) s (λ k l. h (suc k) (suc-le-suc l)))

-- ---- the search for the first line that fails
module _ (L : List ℤ) (s : Assignment) where
  abbrev MetBefore : ℕ → Type 0
  MetBefore i = (k : ℕ) → k < i → Meets s (line_at L k)

  abbrev found : CheckAnswer
  found = first_failing_lem s 0 (lines_of L)

  -- lines that are met are passed
  passed : (i : ℕ) → i ≤ line_count L → MetBefore i → found ≡ first_failing_lem s i (drop i (lines_of L))
  passed zero h met = refl
  passed (suc i) h met = rw (← add-one i) (passed i (omega arith) (λ k l. met k (omega arith)) ∙ failing_on s L i h ((meets_true s (line_at L i)).1 (met i (omega arith))))

  solved : Solves (lines_of L) s → found ≡ Yes
  solved h = passed (line_count L) (omega arith) (solves_at L s h) ∙ failing_past s L (line_count L) (omega arith)

  failed : (k : ℕ) → FirstFails L s k → found ≡ No k
  failed k h = passed k (omega arith) h.before ∙ failing_at s L k h.line (not_met s (line_at L k) h.fails)

  -- of the lines before number i one is the first that fails, or all are met
  scan : (i : ℕ) → i ≤ line_count L → MetBefore i ⊎ ((k : ℕ) × FirstFails L s k)
  scan zero h = inl (below_none (λ k. Meets s (line_at L k)))
  scan (suc i) h = ⊎_elim (λ met. go met (meets s (line_at L i)) refl) (λ f. inr f) (scan i (omega arith))
    where
      go : MetBefore i → (t : Bool) → meets s (line_at L i) ≡ t → MetBefore (suc i) ⊎ ((k : ℕ) × FirstFails L s k)
      go met true e = inl (rw (← add-one i) (below_more (λ k. Meets s (line_at L k)) i met ((meets_true s (line_at L i)).0 e)))
      go met false e = inr (i, record { line = h; fails = λ m. never (cc ((meets_true s (line_at L i)).1 m)); before = met })

  cases : Solves (lines_of L) s ⊎ ((k : ℕ) × FirstFails L s k)
  cases = ⊎_elim (λ met. inl (solves_tabulate (line_count L) (line_at L) s met)) (λ f. inr f) (scan (line_count L) (omega arith))

  found_yes : found ≡ Yes → Solves (lines_of L) s
  found_yes e = ⊎_elim (λ h. h) (λ f. never (cc (failed f.0 f.1))) cases

  found_no : (k : ℕ) → found ≡ No k → FirstFails L s k
  found_no k e =
      ⊎_elim (λ h. never (cc (solved h))) (λ f. let q : f.0 ≡ k = cc (failed f.0 f.1) in subst (FirstFails L s) q f.1) cases

  found_some : NotRefused (Ok found)
  found_some = ⊎_elim (λ h. subst NotRefused (sym (ap Ok (solved h))) tt) (λ f. subst NotRefused (sym (ap Ok (failed f.0 f.1))) tt) cases

-- ---- the answer
same_answer : (x : Result CheckAnswer Refusal) (a b : CheckAnswer) → x ≡ Ok a → x ≡ Ok b → a ≡ b
same_answer x a b e f = cc

module _ (n : ℕ) (L m : List ℤ) where
  -- yes: nothing is refused, and the values solve the list
  pub yes_exactly : (model_answer n L m ≡ Ok Yes) ↔ ((model_validity_lem n L m ≡ Ok tt) × Solves (lines_of L) (assignment_of m))
  unfolding model_answer
  yes_exactly =
      let s = assignment_of m in
      let u = unrefused (model_validity_lem n L m) (Ok (found L s)) (Ok Yes) tt in
      ((λ e. ((u.0 e).0, found_yes L s (same_answer _ _ _ refl (u.0 e).1))), (λ h. u.1 (h.0, ap Ok (solved L s h.1))))

  -- no with line k: nothing is refused, and line k is the first that fails
  pub no_exactly : (k : ℕ) → (model_answer n L m ≡ Ok (No k)) ↔ ((model_validity_lem n L m ≡ Ok tt) × FirstFails L (assignment_of m) k)
  unfolding model_answer
  no_exactly k =
      let s = assignment_of m in
      let u = unrefused (model_validity_lem n L m) (Ok (found L s)) (Ok (No k)) tt in
      ((λ e. ((u.0 e).0, found_no L s k (same_answer _ _ _ refl (u.0 e).1))), (λ h. u.1 (h.0, ap Ok (failed L s k h.1))))

  -- a refusal: the first that applies
  pub refused_exactly : (r : Refusal) → (model_answer n L m ≡ Err r) ↔ (model_validity_lem n L m ≡ Err r)
  unfolding model_answer
  refused_exactly = refused_when (model_validity_lem n L m) (Ok (found L (assignment_of m))) (found_some L (assignment_of m))
