-- What the checker of showings answers: the list's refusals, the line's, 11, then yes or no by the refutation checker's rule.
use Rattle.lines.specs.declared.Refusal.{Refusal}
use Rattle.std.specs.Prelude.{List, ℕ, ltb, ℤ, length, Ok, Result}
use Rattle.lines.specs.declared.Line.{Line}
use Rattle.lines.specs.declared.Refusal.TheVariants.{LongRefutation}
use Rattle.lines.specs.Limits.{max_refutation}
use Rattle.lines.specs.Line.{line_count}
use Rattle.lines.specs.Refusal.{◌or_else◌, refuse_if, shown_validity_lem, validity_of}
use Rattle.check_answers.specs.declared.CheckAnswer.{CheckAnswer}
use Rattle.check_answers.specs.Answer.{unless_refused}
use Rattle.check_refutation.specs.Progress.{start, run}
use Rattle.check_refutation.specs.Answer.{verdict}
use Rattle.shown_list.specs.Against.{against}

-- the list's; the line's, as if it stood behind the list; then 11, by the showing's length
unfoldable pub showing_validity_lem : ℕ → List ℤ → Line → ℕ → Result Unit Refusal
showing_validity_lem n L l k = validity_of n L or_else shown_validity_lem n (line_count L) l or_else refuse_if (ltb max_refutation k) LongRefutation

unfoldable pub shown_answer : ℕ → List ℤ → Line → List ℕ → Result CheckAnswer Refusal
shown_answer n L l R = unless_refused (showing_validity_lem n L l (length R)) (Ok (verdict (run (against L l) start R)))
