-- What the exported check of a showing returns: the specification's byte rules and then the answer on numbers.
use Rattle.lines.specs.declared.Refusal.{Refusal}
use Rattle.std.specs.Prelude.{cond, List, ℕ, ◌*◌, ◌%◌, eqb, ltb, ℤ, pos, ◌-ℤ◌, length, Err, Ok, Result}
use Rattle.lines.specs.declared.Line.{Line}
use Rattle.lines.specs.declared.Refusal.TheVariants.{BrokenLength, LongRefutation}
use Rattle.lines.specs.Limits.{line_size, max_refutation}
use Rattle.lines.specs.Line.{line_at, line_count}
use Rattle.lines.specs.Refusal.{◌or_else◌, refuse_if, shown_validity_lem, validity_of}
use Rattle.little_endian.specs.Bytes.{int32s, nat32s}
use Rattle.check_answers.specs.declared.CheckAnswer.{CheckAnswer}
use Rattle.check_answers.specs.declared.CheckAnswer.TheVariants.{No}
use Rattle.check_answers.specs.Answer.{unless_refused}
use Rattle.check_shown.specs.Answer.{shown_answer}
use Rattle.c_codes.specs.Codes.{refusal_code_lem}
use Rattle.c_codes.specs.CheckCode.{check_code_lem}
use Rattle.c_codes.specs.ListBytes.{number_bytes, bytes_validity}

-- the list's refusals and the line's; 11 for too many bytes; no, at place 0, for bytes that are no multiple of four; then the answer on numbers
unfoldable pub showing_of_numbers_lem : ℕ → List ℤ → Line → List ℕ → Result CheckAnswer Refusal
showing_of_numbers_lem n L l r =
    unless_refused (validity_of n L or_else shown_validity_lem n (line_count L) l or_else refuse_if (ltb (number_bytes * max_refutation) (length r)) LongRefutation)
    (cond (eqb (length r % number_bytes) 0) (shown_answer n L l (nat32s r)) (Ok (No 0)))

-- a line that is not of a line's bytes gets 2, at the place behind the list
unfoldable pub broken_line_lem : ℕ → ℤ
broken_line_lem k = refusal_code_lem BrokenLength -ℤ pos k

-- a refusal of the list goes first
abbrev pub code_unless : Result Unit Refusal → ℤ → ℤ
code_unless (Ok _) z = z
code_unless (Err r) z = refusal_code_lem r

-- the line in a line's bytes
abbrev pub line_in : List ℕ → Line
line_in l = line_at (int32s l) 0

-- the number that is returned on the bytes of a list, of a line and of a showing
unfoldable pub check_shown_lem : ℕ → List ℕ → List ℕ → List ℕ → ℤ
check_shown_lem n b l r =
    code_unless (bytes_validity n b) (cond (eqb (length l) (number_bytes * line_size)) (check_code_lem (showing_of_numbers_lem n (int32s b) (line_in l) r)) (broken_line_lem (line_count (int32s b))))
