-- The bytes of a list, of a refutation and of a model: on them the exported checks answer as the checkers do on the numbers.
use Rattle.lines.specs.declared.Refusal.{Refusal}
use Rattle.std.specs.Prelude.{◌≡◌, Bool, not, List, ℕ, ◌*◌, eqb, ℤ, length, Err, Ok, Result}
use Rattle.std.proofs.Math.Path.{refl}
use Rattle.std.proofs.Math.Bool.{true, false}
use Rattle.std.proofs.Common.{arith, SFits}
use Rattle.std.specs.Int.{w32, w64}
use Rattle.lines.specs.declared.Refusal.TheVariants.{WrongModelLength}
use Rattle.lines.specs.Line.{number, assignment_of}
use Rattle.lines.specs.Refusal.{◌or_else◌, refuse_if, validity_of}
use Rattle.little_endian.specs.Writing.{signed_bytes64, int32_bytes, nat32_bytes, int64_bytes}
use Rattle.little_endian.specs.Back.{length_bytes_of, nat32s_back, int64s_back}
use Rattle.check_answers.specs.declared.CheckAnswer.{CheckAnswer}
use Rattle.check_answers.specs.Answer.{unless_refused, unless_again}
use Rattle.check_model.specs.Model.{model_validity_lem, model_answer}
use Rattle.check_refutation.specs.Answer.{refutation_validity, refutation_answer}
use Rattle.check_pieces.specs.Cut.{Words, words_at}
use Rattle.c_codes.specs.InBytes.{same_eqb, list_back, list_in_bytes, whole_in_bytes, long_in_bytes}
use Rattle.c_checking.specs.Calls.{value_bytes, model_of_values_lem, refutation_of_numbers_lem, model_of_bytes, refutation_of_bytes}

length_model : (m : List ℤ) → length (int64_bytes m) ≡ value_bytes * length m
length_model = length_bytes_of value_bytes signed_bytes64 (λ z. refl)

-- ---- on the bytes of numbers that fit, the answers on the numbers
-- The exported checks look for some refusals in the bytes, before the checkers look for them in the numbers: each is found in both or in neither.
module _ (n : ℕ) (L : List ℤ) (fits : (i : ℕ) → SFits w32 (number L i)) where
  pub refutation_in_bytes : (R : List ℕ) → Words R → refutation_of_bytes n (int32_bytes L) (nat32_bytes R) ≡ refutation_answer n L R
  unfolding refutation_of_bytes refutation_of_numbers_lem refutation_answer refutation_validity
  refutation_in_bytes R w =
      rw (list_in_bytes n L fits, list_back n L fits, nat32s_back R (words_at R w), long_in_bytes R, whole_in_bytes R) (unless_again (validity_of n L) _ _)

  pub model_in_bytes : (m : List ℤ) → ((i : ℕ) → SFits w64 (assignment_of m i)) → model_of_bytes n (int32_bytes L) (int64_bytes m) ≡ model_answer n L m
  unfolding model_of_bytes model_of_values_lem model_answer model_validity_lem
  model_in_bytes m f =
      let l = length_model m in
      let count = same_eqb (length (int64_bytes m)) (value_bytes * n) (length m) n (λ e. omega arith) (λ e. omega arith) in
      rw (list_in_bytes n L fits, list_back n L fits, int64s_back m f, count) (go (validity_of n L) (eqb (length m) n) _ _)
    where
      go : (v : Result Unit Refusal) (t : Bool) (w : Result Unit Refusal) (a : Result CheckAnswer Refusal)
          → unless_refused v (unless_refused (refuse_if (not t) WrongModelLength) (unless_refused (v or_else refuse_if (not t) WrongModelLength or_else w) a))
          ≡ unless_refused (v or_else refuse_if (not t) WrongModelLength or_else w) a
      go (Ok _) true w a = refl
      go (Ok _) false w a = refl
      go (Err r) t w a = refl
