-- The places in an answer of the check are below a refusal's unit, and what it answers on a showing in bytes, by what it finds.
use Rattle.std.specs.Prelude.{◌≡◌, Bool, true, false, cond, List, ℕ, ◌*◌, ◌/◌, ◌%◌, ◌<◌, ◌≤◌, eqb, ltb, ℤ, length, Err, Ok, Result}
use Rattle.std.proofs.Common.{arith}
use borrow.Author.Tests.{lt-ltb, le-ltb, eq-eqb, ne_eqb}
use Rattle.integers.specs.Laws.{never}
use Rattle.lines.specs.declared.Line.{Line}
use Rattle.lines.specs.declared.Refusal.{Refusal}
use Rattle.lines.specs.declared.Refusal.TheVariants.{LongRefutation}
use Rattle.lines.specs.Limits.{line_size, max_refutation}
use Rattle.lines.specs.Line.{line_count}
use Rattle.lines.specs.Refusal.{◌or_else◌, refuse_if, shown_validity_lem, validity_of}
use Rattle.lines.specs.Places.{placed_if}
use Rattle.little_endian.specs.Bytes.{le32, int32, int32s, nat32s, length_first_of}
use Rattle.check_answers.specs.declared.CheckAnswer.{CheckAnswer}
use Rattle.check_answers.specs.declared.CheckAnswer.TheVariants.{No}
use Rattle.check_answers.specs.Answer.{Below, unless_refused, below_unless}
use Rattle.check_refutation.specs.Progress.{start, run}
use Rattle.check_refutation.specs.Answer.{verdict}
use Rattle.shown_list.specs.Against.{against}
use Rattle.check_shown.specs.Answer.{showing_validity_lem, shown_answer}
use Rattle.check_shown.specs.Asked.{ShownAsked, asked}
use Rattle.check_shown.specs.Places.{placed_shown, answer_below}
use Rattle.c_codes.specs.Codes.{refusal_unit, refusal_code_lem}
use Rattle.c_codes.specs.CheckCode.{check_code_lem}
use Rattle.c_codes.specs.ListBytes.{number_bytes, bytes_validity}
use Rattle.c_check_shown.specs.Calls.{showing_of_numbers_lem, broken_line_lem, line_in, check_shown_lem}

-- no more numbers than bytes allow
pub few_numbers : (r : List ℕ) → length r ≤ number_bytes * max_refutation → length (nat32s r) ≤ max_refutation
few_numbers r h = omega (arith, length_first_of number_bytes le32 r (length r / number_bytes))

pub showing_below : (n : ℕ) (L : List ℤ) (l : Line) (r : List ℕ) → Below refusal_unit (showing_of_numbers_lem n L l r)
unfolding showing_of_numbers_lem
showing_below n L l r =
    below_unless refusal_unit _ _
    (placed_shown refusal_unit (omega arith) n L l _ (placed_if refusal_unit (ltb (number_bytes * max_refutation) (length r)) LongRefutation (omega arith)))
    (λ _. go (eqb (length r % number_bytes) 0))
  where
    go : (t : Bool) → Below refusal_unit (cond t (shown_answer n L l (nat32s r)) (Ok (No 0)))
    go true = answer_below refusal_unit (omega arith) (omega arith) n L l (nat32s r)
    go false = omega arith

-- what the check answers on a showing in bytes, by what it finds: refusals of the list and of the line, too many bytes, bytes that are no multiple of four
module _ (n : ℕ) (L : List ℤ) (l : Line) (r : List ℕ) where
  pub refused_first : (q : Refusal) → showing_validity_lem n L l 0 ≡ Err q → showing_of_numbers_lem n L l r ≡ Err q
  unfolding showing_of_numbers_lem showing_validity_lem
  refused_first q =
      go (validity_of n L) (shown_validity_lem n (line_count L) l) (refuse_if (ltb (number_bytes * max_refutation) (length r)) LongRefutation)
      (cond (eqb (length r % number_bytes) 0) (shown_answer n L l (nat32s r)) (Ok (No 0)))
    where
      go : (u v w : Result Unit Refusal) (a : Result CheckAnswer Refusal) → (u or_else v or_else Ok tt) ≡ Err q → unless_refused (u or_else v or_else w) a ≡ Err q
      go (Err s) v w a e = cc
      go (Ok _) (Err s) w a e = cc
      go (Ok _) (Ok _) w a e = never (cc)

  module _ (e : showing_validity_lem n L l 0 ≡ Ok tt) where
    pub line_asked : ShownAsked n L l
    line_asked = (asked n L l 0 e).asked

    pub too_long : number_bytes * max_refutation < length r → showing_of_numbers_lem n L l r ≡ Err LongRefutation
    unfolding showing_of_numbers_lem
    too_long h = rw (line_asked.list, line_asked.line, lt-ltb (number_bytes * max_refutation) (length r) h)

    module _ (short : length r ≤ number_bytes * max_refutation) where
      pub not_whole : (length r % number_bytes ≡ 0 → ⊥) → showing_of_numbers_lem n L l r ≡ Ok (No 0)
      unfolding showing_of_numbers_lem
      not_whole h = rw (line_asked.list, line_asked.line, le-ltb (number_bytes * max_refutation) (length r) short, ne_eqb (length r % number_bytes) 0 h)

      pub whole_judged : length r % number_bytes ≡ 0 → showing_of_numbers_lem n L l r ≡ Ok (verdict (run (against L l) start (nat32s r)))
      unfolding showing_of_numbers_lem shown_answer showing_validity_lem
      whole_judged h =
          rw (line_asked.list, line_asked.line, le-ltb (number_bytes * max_refutation) (length r) short, eq-eqb (length r % number_bytes) 0 h, le-ltb max_refutation (length (nat32s r)) (few_numbers r short))

-- ---- the bytes of list and line
-- as many lines as the bytes have
pub count_of_bytes : (b : List ℕ) → length b / (number_bytes * line_size) ≡ line_count (int32s b)
count_of_bytes b = omega (arith, length_first_of number_bytes int32 b (length b / number_bytes))

module _ (n : ℕ) (b l r : List ℕ) where
  pub list_refused : (q : Refusal) → bytes_validity n b ≡ Err q → check_shown_lem n b l r ≡ refusal_code_lem q
  unfolding check_shown_lem
  list_refused q e = rw e

  pub line_broken : bytes_validity n b ≡ Ok tt → (length l ≡ number_bytes * line_size → ⊥) → check_shown_lem n b l r ≡ broken_line_lem (line_count (int32s b))
  unfolding check_shown_lem
  line_broken e h = rw (e, ne_eqb (length l) (number_bytes * line_size) h)

  pub line_whole : bytes_validity n b ≡ Ok tt → length l ≡ number_bytes * line_size → check_shown_lem n b l r ≡ check_code_lem (showing_of_numbers_lem n (int32s b) (line_in l) r)
  unfolding check_shown_lem
  line_whole e h = rw (e, eq-eqb (length l) (number_bytes * line_size) h)
