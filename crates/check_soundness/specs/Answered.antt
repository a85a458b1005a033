-- What the checker's answers say: yes, that the list is valid, the refutation not too long and of one of the three kinds; no, the place that its rule computes.
use Rattle.std.specs.Prelude.{◌≡◌, refl, ◌↔◌, Bool, true, false, cond, List, ◌++◌, ℕ, ◌≤◌, ℤ, length, Ok}
use Rattle.std.proofs.Common.{ap, le-ltb}
use Rattle.integers.specs.Laws.{never}
use Rattle.lines.specs.Limits.{max_refutation}
use Rattle.lines.specs.Line.{Solvable, lines_of}
use Rattle.lines.specs.Refusal.{validity_of}
use Rattle.lines.specs.Valid.{valid_list, or_valid}
use Rattle.check_answers.specs.declared.CheckAnswer.{CheckAnswer}
use Rattle.check_answers.specs.declared.CheckAnswer.TheVariants.{Yes, No}
use Rattle.check_answers.specs.Answer.{unrefused}
use Rattle.check_refutation.specs.declared.Progress.{Progress}
use Rattle.check_refutation.specs.Progress.{start, run, accepted, accepts, broken_at_lem}
use Rattle.check_refutation.specs.Answer.{refutation_validity, verdict, refutation_answer}
use Rattle.check_refutation.specs.Places.{not_long}
use Rattle.check_soundness.specs.Refutes.{Refutes}
use Rattle.check_soundness.specs.Meaning.{accepts_exactly}
use Rattle.check_soundness.specs.Place.{place_in}
use Rattle.check_soundness.specs.Sound.{accepts_nothing_solved, accepts_longer}

-- yes and no, by the checker's rule
pub verdict_yes : (s : Progress) → (verdict s ≡ Yes) ↔ (accepted s ≡ true)
unfolding verdict
verdict_yes s = (go (accepted s), (λ e. rw e))
  where
    go : (t : Bool) → cond t Yes (No (broken_at_lem s)) ≡ Yes → t ≡ true
    go true e = refl
    go false e = never (cc)

verdict_no : (s : Progress) (k : ℕ) → (verdict s ≡ No k) ↔ ((accepted s ≡ false) × (broken_at_lem s ≡ k))
unfolding verdict
verdict_no s k = (go (accepted s), (λ h. rw (h.0, h.1)))
  where
    go : (t : Bool) → cond t Yes (No (broken_at_lem s)) ≡ No k → (t ≡ false) × (broken_at_lem s ≡ k)
    go true e = never (cc)
    go false e = (refl, cc)

module _ (n : ℕ) (L : List ℤ) (R : List ℕ) where
  answered : (a : CheckAnswer) → (refutation_answer n L R ≡ Ok a) ↔ ((validity_of n L ≡ Ok tt) × (length R ≤ max_refutation) × (verdict (run L start R) ≡ a))
  unfolding refutation_answer refutation_validity
  answered a = (
    (λ e. let u = (unrefused _ _ (Ok a) tt).0 e in ((or_valid (validity_of n L) _ u.0).0, not_long (validity_of n L) (length R) u.0, (let same = u.1 in cc))),
    (λ h. rw (h.0, le-ltb max_refutation (length R) h.1) (ap Ok h.2)),
  )

  pub answered_yes : (refutation_answer n L R ≡ Ok Yes) ↔ ((validity_of n L ≡ Ok tt) × (length R ≤ max_refutation) × (accepts L R ≡ true))
  unfolding accepts
  answered_yes = (
    (λ e. let a = (answered Yes).0 e in (a.0, a.1, (verdict_yes (run L start R)).0 a.2)),
    (λ h. (answered Yes).1 (h.0, h.1, (verdict_yes (run L start R)).1 h.2)),
  )

  pub answered_no : (k : ℕ) → (refutation_answer n L R ≡ Ok (No k)) ↔ ((validity_of n L ≡ Ok tt) × (length R ≤ max_refutation) × (accepts L R ≡ false) × (place_in L R ≡ k))
  unfolding accepts
  answered_no k = (
    (λ e. let a = (answered (No k)).0 e in let b = (verdict_no (run L start R) k).0 a.2 in (a.0, a.1, b.0, b.1)),
    (λ h. (answered (No k)).1 (h.0, h.1, (verdict_no (run L start R) k).1 (h.2, h.3))),
  )

  pub accepted_when : (refutation_answer n L R ≡ Ok Yes) ↔ ((validity_of n L ≡ Ok tt) × (length R ≤ max_refutation) × Refutes L R)
  accepted_when = (
    (λ e. let a = answered_yes.0 e in (a.0, a.1, (accepts_exactly L R).0 a.2)),
    (λ h. answered_yes.1 (h.0, h.1, (accepts_exactly L R).1 h.2)),
  )

  pub answers_no_solvable : refutation_answer n L R ≡ Ok Yes → Solvable (lines_of L) → ⊥
  answers_no_solvable e s =
      let a = answered_yes.0 e in
      accepts_nothing_solved n L (valid_list n L a.0).lines s.assignment s.solves R a.2

pub answers_longer : (n : ℕ) (L M : List ℤ) (R : List ℕ) → validity_of n (L ++ M) ≡ Ok tt → refutation_answer n L R ≡ Ok Yes → refutation_answer n (L ++ M) R ≡ Ok Yes
answers_longer n L M R v e =
    let a = (answered_yes n L R).0 e in
    (answered_yes n (L ++ M) R).1 (v, a.1, accepts_longer L M (valid_list n L a.0).whole R a.2)
