-- What the exported questions about a tree return, and what they leave in the buffers.
use Rattle.tree_deciding.specs.declared.ConditionRefusal.{ConditionRefusal}
use Rattle.std.specs.Prelude.{◌≡◌, List, ℕ, ℤ, pos, neg_ℤ, Err, None, Ok, Option, Result, Some}
use Rattle.decide_buffers.specs.Room.{Lent, ModelLent}
use Rattle.c_codes.specs.Codes.{no_code}
use Rattle.tree_deciding.specs.Refusal.{condition_number, condition_place}
use Rattle.tree_deciding.specs.Answer.{choice_answer_for, first_answer_for, DecidesChoice, AnswersFirst}
use Rattle.c_trees.specs.declared.CChoice.{CChoice}

-- the result where something is refused
abbrev pub refused_result : ℤ
refused_result = neg_ℤ (pos 1)

-- the struct that an answer is returned as; a no has the number of the choice that was asked for, or 0
abbrev pub choice_returned : ℕ → Result (Option ℕ) ConditionRefusal → CChoice
choice_returned asked (Ok (Some k)) = record { result = pos 0; refusal = 0; place = 0; choice = k }
choice_returned asked (Ok None) = record { result = pos no_code; refusal = 0; place = 0; choice = asked }
choice_returned asked (Err r) = record { result = refused_result; refusal = condition_number r; place = condition_place r; choice = 0 }

-- b is what the buffers held before, a what they hold after
pub record FirstReturns (n : ℕ) (L : List ℤ) (s : List ℕ) (returned : CChoice) (b a : ModelLent) : Type 0 where
  pub is : returned ≡ choice_returned 0 (first_answer_for n L s b)
  pub answers : AnswersFirst n L s (first_answer_for n L s b) b a

pub record ChoiceReturns (n : ℕ) (L : List ℤ) (s : List ℕ) (k : ℕ) (returned : CChoice) (b a : Lent) : Type 0 where
  pub is : returned ≡ choice_returned k (choice_answer_for n L s k b)
  pub decides : DecidesChoice n L s k (choice_answer_for n L s k b) b a
