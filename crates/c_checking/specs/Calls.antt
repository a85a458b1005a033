-- What the two exported checks return: the specification's byte rules and then the answer on numbers.
use Rattle.lines.specs.declared.Refusal.{Refusal}
use Rattle.std.specs.Prelude.{not, cond, List, ℕ, ◌*◌, ◌%◌, eqb, ltb, ℤ, length, Ok, Result}
use Rattle.lines.specs.declared.Refusal.TheVariants.{WrongModelLength, LongRefutation}
use Rattle.lines.specs.Limits.{max_refutation}
use Rattle.lines.specs.Refusal.{refuse_if}
use Rattle.little_endian.specs.Bytes.{int32s, nat32s, int64s}
use Rattle.check_answers.specs.declared.CheckAnswer.{CheckAnswer}
use Rattle.check_answers.specs.declared.CheckAnswer.TheVariants.{No}
use Rattle.check_answers.specs.Answer.{unless_refused}
use Rattle.check_model.specs.Model.{model_answer}
use Rattle.check_refutation.specs.Answer.{refutation_answer}
use Rattle.c_codes.specs.CheckCode.{check_code_lem}
use Rattle.c_codes.specs.ListBytes.{number_bytes, bytes_validity}

-- the bytes of a value of a model
abbrev pub value_bytes : ℕ
value_bytes = 8

-- 9 for model bytes that are not 8n; then the answer on numbers
unfoldable pub model_of_values_lem : ℕ → List ℤ → List ℕ → Result CheckAnswer Refusal
model_of_values_lem n L m = unless_refused (refuse_if (not (eqb (length m) (value_bytes * n))) WrongModelLength) (model_answer n L (int64s m))

-- 11 for too many bytes; no, at place 0, for bytes that are no multiple of four; then the answer on numbers
unfoldable pub refutation_of_numbers_lem : ℕ → List ℤ → List ℕ → Result CheckAnswer Refusal
refutation_of_numbers_lem n L r =
    unless_refused (refuse_if (ltb (number_bytes * max_refutation) (length r)) LongRefutation)
    (cond (eqb (length r % number_bytes) 0) (refutation_answer n L (nat32s r)) (Ok (No 0)))

-- the list's refusals first
unfoldable pub model_of_bytes : ℕ → List ℕ → List ℕ → Result CheckAnswer Refusal
model_of_bytes n b m = unless_refused (bytes_validity n b) (model_of_values_lem n (int32s b) m)

unfoldable pub refutation_of_bytes : ℕ → List ℕ → List ℕ → Result CheckAnswer Refusal
refutation_of_bytes n b r = unless_refused (bytes_validity n b) (refutation_of_numbers_lem n (int32s b) r)

-- the number that each exported function returns
abbrev pub check_model_lem : ℕ → List ℕ → List ℕ → ℤ
check_model_lem n b m = check_code_lem (model_of_bytes n b m)

abbrev pub check_refutation_lem : ℕ → List ℕ → List ℕ → ℤ
check_refutation_lem n b r = check_code_lem (refutation_of_bytes n b r)
