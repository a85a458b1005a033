-- The bytes of a list, of a line and of a showing: on them the exported check answers as the checker does on the numbers.
use Rattle.lines.specs.declared.Refusal.{Refusal}
use Rattle.std.specs.Prelude.{◌≡◌, List, [], ℕ, ◌*◌, ltb, ℤ, length, Err, Ok, Result}
use Rattle.std.proofs.Math.Path.{refl}
use Rattle.std.proofs.Common.{ap, ◌∙◌, arith, SFits}
use borrow.Author.Tests.{eq-eqb}
use Rattle.std.specs.Int.{w32}
use Rattle.lines.specs.declared.Line.{Line}
use Rattle.lines.specs.declared.Refusal.TheVariants.{LongRefutation}
use Rattle.lines.specs.Limits.{line_size, max_refutation}
use Rattle.lines.specs.Line.{number, line_at, line_numbers_lem, line_count}
use Rattle.lines.specs.LineNumbers.{length_numbers, line_last}
use Rattle.lines.specs.Refusal.{◌or_else◌, refuse_if, shown_validity_lem, validity_of}
use Rattle.little_endian.specs.Writing.{int32_bytes, nat32_bytes}
use Rattle.little_endian.specs.Back.{int32s_back, nat32s_back}
use Rattle.check_answers.specs.declared.CheckAnswer.{CheckAnswer}
use Rattle.check_answers.specs.Answer.{unless_refused}
use Rattle.check_refutation.specs.Progress.{start, run}
use Rattle.check_refutation.specs.Answer.{verdict}
use Rattle.check_pieces.specs.Cut.{Words, words_at}
use Rattle.shown_list.specs.Against.{against}
use Rattle.check_shown.specs.Answer.{showing_validity_lem, shown_answer}
use Rattle.c_codes.specs.CheckCode.{check_code_lem}
use Rattle.c_codes.specs.ListBytes.{number_bytes}
use Rattle.c_codes.specs.InBytes.{length_list, list_back, list_in_bytes, whole_in_bytes, long_in_bytes}
use Rattle.c_check_shown.specs.Calls.{showing_of_numbers_lem, code_unless, line_in, check_shown_lem}

-- the line comes back from its bytes, which are a line's
module _ (l : Line) (fits : (i : ℕ) → SFits w32 (number (line_numbers_lem l) i)) where
  line_back : line_in (int32_bytes (line_numbers_lem l)) ≡ l
  line_back = ap (λ (N : List ℤ). line_at N 0) (int32s_back (line_numbers_lem l) fits) ∙ line_last [] l refl

  line_length : length (int32_bytes (line_numbers_lem l)) ≡ number_bytes * line_size
  line_length = omega (arith, length_list (line_numbers_lem l), length_numbers l)

-- refusals that are looked for again are found again
module _ (n : ℕ) (L : List ℤ) (l : Line) (R : List ℕ) (w : Words R) where
  numbers_in_bytes : showing_of_numbers_lem n L l (nat32_bytes R) ≡ shown_answer n L l R
  unfolding showing_of_numbers_lem shown_answer showing_validity_lem
  numbers_in_bytes =
      rw (long_in_bytes R, whole_in_bytes R, nat32s_back R (words_at R w))
      (go (validity_of n L or_else shown_validity_lem n (line_count L) l or_else refuse_if (ltb max_refutation (length R)) LongRefutation) (Ok (verdict (run (against L l) start R))))
    where
      go : (v : Result Unit Refusal) (a : Result CheckAnswer Refusal) → unless_refused v (unless_refused v a) ≡ unless_refused v a
      go (Ok _) a = refl
      go (Err r) a = refl

  -- and the list's go first
  refused_first : code_unless (validity_of n L) (check_code_lem (shown_answer n L l R)) ≡ check_code_lem (shown_answer n L l R)
  unfolding shown_answer showing_validity_lem
  refused_first = go (validity_of n L) (shown_validity_lem n (line_count L) l or_else refuse_if (ltb max_refutation (length R)) LongRefutation) (Ok (verdict (run (against L l) start R)))
    where
      go : (v u : Result Unit Refusal) (a : Result CheckAnswer Refusal) → code_unless v (check_code_lem (unless_refused (v or_else u) a)) ≡ check_code_lem (unless_refused (v or_else u) a)
      go (Ok _) u a = refl
      go (Err r) u a = refl

  pub shown_in_bytes : ((i : ℕ) → SFits w32 (number L i)) → ((i : ℕ) → SFits w32 (number (line_numbers_lem l) i))
      → check_shown_lem n (int32_bytes L) (int32_bytes (line_numbers_lem l)) (nat32_bytes R) ≡ check_code_lem (shown_answer n L l R)
  unfolding check_shown_lem
  shown_in_bytes list_fits line_fits =
      rw (list_in_bytes n L list_fits, list_back n L list_fits, line_back l line_fits, eq-eqb _ _ (line_length l line_fits), numbers_in_bytes) refused_first
