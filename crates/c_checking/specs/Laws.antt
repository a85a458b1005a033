-- The places in an answer of a check are below a refusal's unit.
use Rattle.std.specs.Prelude.{Bool, true, false, not, cond, List, ℕ, ◌*◌, ◌%◌, eqb, ltb, ℤ, length, Ok}
use Rattle.std.proofs.Common.{arith}
use Rattle.lines.specs.declared.Refusal.TheVariants.{WrongModelLength, LongRefutation}
use Rattle.lines.specs.Limits.{max_refutation}
use Rattle.lines.specs.Places.{placed_if}
use Rattle.little_endian.specs.Bytes.{int32s, nat32s, int64s}
use Rattle.check_answers.specs.declared.CheckAnswer.TheVariants.{No}
use Rattle.check_answers.specs.Answer.{Below, below_unless}
use Rattle.check_model.specs.Places as model
use Rattle.check_refutation.specs.Answer.{refutation_answer}
use Rattle.check_refutation.specs.Places as refutation
use Rattle.c_codes.specs.Codes.{refusal_unit}
use Rattle.c_codes.specs.ListBytes.{number_bytes, bytes_placed}
use Rattle.c_checking.specs.Calls.{value_bytes, model_of_values_lem, refutation_of_numbers_lem, model_of_bytes, refutation_of_bytes}

pub model_below : (n : ℕ) (L : List ℤ) (m : List ℕ) → Below refusal_unit (model_of_values_lem n L m)
unfolding model_of_values_lem
model_below n L m =
    below_unless refusal_unit _ _ (placed_if refusal_unit (not (eqb (length m) (value_bytes * n))) WrongModelLength (omega arith))
    (λ _. model.answer_below refusal_unit (omega arith) (omega arith) n L (int64s m))

pub refutation_below : (n : ℕ) (L : List ℤ) (r : List ℕ) → Below refusal_unit (refutation_of_numbers_lem n L r)
unfolding refutation_of_numbers_lem
refutation_below n L r =
    below_unless refusal_unit _ _ (placed_if refusal_unit (ltb (number_bytes * max_refutation) (length r)) LongRefutation (omega arith))
    (λ _. go (eqb (length r % number_bytes) 0))
  where
    go : (t : Bool) → Below refusal_unit (cond t (refutation_answer n L (nat32s r)) (Ok (No 0)))
    go true = refutation.answer_below refusal_unit (omega arith) (omega arith) n L (nat32s r)
    go false = omega arith

pub model_bytes_below : (n : ℕ) (b m : List ℕ) → Below refusal_unit (model_of_bytes n b m)
unfolding model_of_bytes
model_bytes_below n b m = below_unless refusal_unit _ _ (bytes_placed n b) (λ _. model_below n (int32s b) m)

pub refutation_bytes_below : (n : ℕ) (b r : List ℕ) → Below refusal_unit (refutation_of_bytes n b r)
unfolding refutation_of_bytes
refutation_bytes_below n b r = below_unless refusal_unit _ _ (bytes_placed n b) (λ _. refutation_below n (int32s b) r)
