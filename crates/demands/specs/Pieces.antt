-- A refutation handed over number by number, by the exported calls: the end returns what the exported check returns on the bytes of the whole.
use Rattle.std.specs.Prelude.{◌≡◌, Bool, true, List, ltb}
use Rattle.std.proofs.Math.Path.{refl, ap, subst}
use Rattle.std.proofs.Common.{sym, ◌∙◌, add-one, arith}
use Rattle.std.proofs.Math.Bool.{false}
use Prim.Native.Nat.{ℕ, zero, suc, ◌+◌, ◌*◌, ◌/◌, ◌%◌, ◌^◌, ◌<◌}
use borrow.Author.Tests.{ltb-true, ltb-false, lt-ltb, le-ltb, eqb-true, eqb-false, eq-eqb, ne_eqb}
use Rattle.std.proofs.Math.Dec.{eqb}
use Rattle.std.proofs.Math.ListN.{length}
use Rattle.lines.specs.Limits.{line_size, max_variables, max_refutation}
use Rattle.lines.specs.Refusal.{validity_of}
use Rattle.little_endian.specs.Bytes.{AreBytes, le32, int32, first_of, int32s, nat32s, length_first_of, next}
use Rattle.check_answers.specs.Answer.{unless_again}
use Rattle.check_refutation.specs.Answer.{refutation_validity, refutation_answer}
use Rattle.check_pieces.specs.Cut.{Words, words_snoc}
use Rattle.c_codes.specs.CheckCode.{check_code_lem}
use Rattle.c_codes.specs.ListBytes.{number_bytes, bytes_validity, bytes_as_numbers}
use Rattle.c_checking.specs.Calls.{refutation_of_numbers_lem, refutation_of_bytes, check_refutation_lem}
use Rattle.c_pieces.specs.Pieces.{refutation_begin, refutation_end, take_each, each_answered}

module _ (n : ℕ) (b r : List ℕ) (list-whole : length b % number_bytes ≡ 0) (whole : length r % number_bytes ≡ 0) where
  -- a list in bytes is refused as its numbers are
  list_as_numbers : bytes_validity n b ≡ validity_of n (int32s b)
  unfolding bytes_validity validity_of
  list_as_numbers = few (ltb max_variables n) refl
    where
      broken : eqb (length b % (number_bytes * line_size)) 0 ≡ false → eqb (length (int32s b) % line_size) 0 ≡ false
      broken e =
          let size : length (int32s b) ≡ length b / number_bytes = length_first_of number_bytes int32 b _ in
          ne_eqb (length (int32s b) % line_size) 0 (λ z. eqb-false (length b % (number_bytes * line_size)) 0 e (omega arith))

      lines : ltb max_variables n ≡ false → (t : Bool) → eqb (length b % (number_bytes * line_size)) 0 ≡ t → bytes_validity n b ≡ validity_of n (int32s b)
      lines f true e = bytes_as_numbers n b (ltb-false _ _ f) (eqb-true _ _ e)
      lines f false e = rw (f, e, broken e)

      few : (t : Bool) → ltb max_variables n ≡ t → bytes_validity n b ≡ validity_of n (int32s b)
      few true f = rw f
      few false f = lines f (eqb (length b % (number_bytes * line_size)) 0) refl

  long_as_numbers : ltb (number_bytes * max_refutation) (length r) ≡ ltb max_refutation (length (nat32s r))
  long_as_numbers = go (ltb max_refutation (length (nat32s r))) refl
    where
      size : length (nat32s r) ≡ length r / number_bytes
      size = length_first_of number_bytes le32 r _

      go : (t : Bool) → ltb max_refutation (length (nat32s r)) ≡ t → ltb (number_bytes * max_refutation) (length r) ≡ t
      go true e = lt-ltb (number_bytes * max_refutation) (length r) (omega (arith, size, ltb-true max_refutation (length (nat32s r)) e))
      go false e = le-ltb (number_bytes * max_refutation) (length r) (omega (arith, size, ltb-false max_refutation (length (nat32s r)) e))

  answer_as_numbers : refutation_of_bytes n b r ≡ refutation_answer n (int32s b) (nat32s r)
  unfolding refutation_of_bytes refutation_of_numbers_lem refutation_answer refutation_validity
  answer_as_numbers =
      rw (list_as_numbers, long_as_numbers, eq-eqb _ _ whole) (unless_again (validity_of n (int32s b)) _ _)

  words : AreBytes r → (m : ℕ) → Words (first_of number_bytes le32 r m)
  unfolding first_of
  words h zero = tt
  words h (suc m) =
      let i : ℕ = number_bytes * m in
      let small : le32 r i < 2 ^ 32 = omega (arith, h i, h (i + 1), h (i + 2), h (i + 3)) in
      subst Words (next number_bytes le32 r m ∙ ap (first_of number_bytes le32 r) (add-one m)) (words_snoc (first_of number_bytes le32 r m) (le32 r i) (words h m) small)

  pub each_checked : AreBytes r → refutation_end n (int32s b) (take_each (int32s b) refutation_begin (nat32s r)) ≡ check_refutation_lem n b r
  each_checked h = each_answered n (int32s b) (nat32s r) (words h _) ∙ ap check_code_lem (sym answer_as_numbers)
