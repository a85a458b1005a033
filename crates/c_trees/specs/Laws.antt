-- What the questions promise gives what is returned; and the struct tells the answers apart.
use Rattle.std.specs.Prelude.{◌≡◌, refl, List, ℕ, ◌<◌, ℤ, pos, Err, None, Ok, Option, Result, Some}
use Rattle.std.proofs.Common.{sym, ap, subst, ◌∙◌, arith}
use Rattle.integers.proofs.Linear.{ints}
use Rattle.decide_buffers.specs.Room.{Lent, ModelLent}
use Rattle.c_codes.specs.Codes.{no_code}
use Rattle.c_codes.specs.Apart.{same_pos}
use Rattle.tree_deciding.specs.declared.ConditionRefusal.{ConditionRefusal}
use Rattle.tree_deciding.specs.Refusal.{condition_number, condition_place, condition_some, one_condition}
use Rattle.tree_deciding.specs.Answer.{DecidesChoice, AnswersFirst}
use Rattle.c_trees.specs.declared.CChoice.{CChoice}
use Rattle.c_trees.specs.Calls.{refused_result, choice_returned, FirstReturns, ChoiceReturns}

pub first_returns : {n : ℕ} {L : List ℤ} {s : List ℕ} {answer : Result (Option ℕ) ConditionRefusal} {b a : ModelLent} → AnswersFirst n L s answer b a
    → (returned : CChoice) → returned ≡ choice_returned 0 answer → FirstReturns n L s returned b a
first_returns {n} {L} {s} {answer} {b} {a} d returned e =
    record { is = e ∙ ap (choice_returned 0) d.is; answers = subst (λ (x : Result (Option ℕ) ConditionRefusal). AnswersFirst n L s x b a) d.is d }

pub choice_returns : {n : ℕ} {L : List ℤ} {s : List ℕ} {k : ℕ} {answer : Result (Option ℕ) ConditionRefusal} {b a : Lent} → DecidesChoice n L s k answer b a
    → (returned : CChoice) → returned ≡ choice_returned k answer → ChoiceReturns n L s k returned b a
choice_returns {n} {L} {s} {k} {answer} {b} {a} d returned e =
    record { is = e ∙ ap (choice_returned k) d.is; decides = subst (λ (x : Result (Option ℕ) ConditionRefusal). DecidesChoice n L s k x b a) d.is d }

-- ---- the result tells which answer it is
refused_low : (n : ℕ) → pos n ≡ refused_result → ⊥
refused_low n = simp ints (omega arith)

no_not_yes : no_code ≡ 0 → ⊥
no_not_yes e = omega arith

module _ (asked : ℕ) where
  -- a yes: the choice is returned
  pub yes_told : (x : Result (Option ℕ) ConditionRefusal) → (choice_returned asked x).result ≡ pos 0 → x ≡ Ok (Some (choice_returned asked x).choice)
  yes_told (Ok (Some k)) e = refl
  yes_told (Ok None) e = absurd (no_not_yes (same_pos no_code 0 e))
  yes_told (Err r) e = absurd (refused_low 0 (sym e))

  pub no_told : (x : Result (Option ℕ) ConditionRefusal) → (choice_returned asked x).result ≡ pos no_code → x ≡ Ok None
  no_told (Ok (Some k)) e = absurd (no_not_yes (same_pos no_code 0 (sym e)))
  no_told (Ok None) e = refl
  no_told (Err r) e = absurd (refused_low no_code (sym e))

  -- a refusal: its number and its place are returned
  pub refusal_told : (x : Result (Option ℕ) ConditionRefusal) → (choice_returned asked x).result ≡ refused_result
      → (r : ConditionRefusal) × (x ≡ Err r) × ((choice_returned asked x).refusal ≡ condition_number r) × ((choice_returned asked x).place ≡ condition_place r)
  refusal_told (Ok (Some k)) e = absurd (refused_low 0 e)
  refusal_told (Ok None) e = absurd (refused_low no_code e)
  refusal_told (Err r) e = (r, refl, refl, refl)

  -- no two answers are returned alike
  pub choices_apart : (x y : Result (Option ℕ) ConditionRefusal) → choice_returned asked x ≡ choice_returned asked y → x ≡ y
  choices_apart (Ok (Some k)) y e =
      let told : y ≡ Ok (Some (choice_returned asked y).choice) = yes_told y (sym (ap (λ (c : CChoice). c.result) e)) in
      ap (λ (c : CChoice). Ok (Some c.choice)) e ∙ sym told
  choices_apart (Ok None) y e = sym (no_told y (sym (ap (λ (c : CChoice). c.result) e)))
  choices_apart (Err r) y e =
      let told = refusal_told y (sym (ap (λ (c : CChoice). c.result) e)) in
      let same : r ≡ told.0
      = one_condition r told.0 (ap (λ (c : CChoice). c.refusal) e ∙ told.2) (ap (λ (c : CChoice). c.place) e ∙ told.3) in
      ap Err same ∙ sym told.1

-- a refusal's number is not 0, which stands for none
pub refusal_shown : (asked : ℕ) (x : Result (Option ℕ) ConditionRefusal) → (choice_returned asked x).result ≡ refused_result → 0 < (choice_returned asked x).refusal
refusal_shown asked (Ok (Some k)) e = absurd (refused_low 0 e)
refusal_shown asked (Ok None) e = absurd (refused_low no_code e)
refusal_shown asked (Err r) e = condition_some r
