-- What is answered to a proposed model: the first refusal that applies, or else yes, or no with the first line that fails.
use Rattle.lines.specs.declared.Refusal.{Refusal}
use Rattle.std.specs.Prelude.{not, cond, List, [], ◌∷◌, ℕ, ◌+◌, eqb, ℤ, length, Ok, Result}
use Rattle.integers.specs.Integer.{is_within_lem}
use Rattle.lines.specs.declared.Line.{Line}
use Rattle.lines.specs.declared.Refusal.TheVariants.{WrongModelLength, BadValue}
use Rattle.lines.specs.Limits.{max_value}
use Rattle.lines.specs.Line.{Assignment, lines_of, meets, assignment_of}
use Rattle.lines.specs.Refusal.{◌or_else◌, refuse_if, validity_of}
use Rattle.check_answers.specs.declared.CheckAnswer.{CheckAnswer}
use Rattle.check_answers.specs.declared.CheckAnswer.TheVariants.{Yes, No}
use Rattle.check_answers.specs.Answer.{unless_refused}

-- 10: values from the first, which has index k
unfoldable pub values_validity_lem : ℕ → List ℤ → Result Unit Refusal
values_validity_lem k [] = Ok tt
values_validity_lem k (v ∷ vs) = refuse_if (not (is_within_lem max_value v)) (BadValue k) or_else values_validity_lem (k + 1) vs

-- the list's; then 9, 10
unfoldable pub model_validity_lem : ℕ → List ℤ → List ℤ → Result Unit Refusal
model_validity_lem n L m =
    validity_of n L
    or_else refuse_if (not (eqb (length m) n)) WrongModelLength
    or_else values_validity_lem 0 m

-- lines from the first, which has number k: no with the first that fails, in list order
unfoldable pub first_failing_lem : Assignment → ℕ → List Line → CheckAnswer
first_failing_lem s k [] = Yes
first_failing_lem s k (l ∷ ls) = cond (meets s l) (first_failing_lem s (k + 1) ls) (No k)

-- the answer to model m of a list for n variables
unfoldable pub model_answer : ℕ → List ℤ → List ℤ → Result CheckAnswer Refusal
model_answer n L m = unless_refused (model_validity_lem n L m) (Ok (first_failing_lem (assignment_of m) 0 (lines_of L)))
