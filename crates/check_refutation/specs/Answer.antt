-- What the refutation checker answers: the list's refusals, then 11, then yes or no.
use Rattle.lines.specs.declared.Refusal.{Refusal}
use Rattle.std.specs.Prelude.{cond, List, ℕ, ltb, ℤ, length, Ok, Result}
use Rattle.lines.specs.declared.Refusal.TheVariants.{LongRefutation}
use Rattle.lines.specs.Limits.{max_refutation}
use Rattle.lines.specs.Refusal.{◌or_else◌, refuse_if, validity_of}
use Rattle.check_answers.specs.declared.CheckAnswer.{CheckAnswer}
use Rattle.check_answers.specs.declared.CheckAnswer.TheVariants.{Yes, No}
use Rattle.check_answers.specs.Answer.{unless_refused}
use Rattle.check_refutation.specs.declared.Progress.{Progress}
use Rattle.check_refutation.specs.Progress.{start, run, accepted, broken_at_lem}

-- the list's; then 11
unfoldable pub refutation_validity : ℕ → List ℤ → List ℕ → Result Unit Refusal
refutation_validity n L R = validity_of n L or_else refuse_if (ltb max_refutation (length R)) LongRefutation

-- yes, or no with the place where it breaks, by the checker's rule
unfoldable pub verdict : Progress → CheckAnswer
verdict s = cond (accepted s) Yes (No (broken_at_lem s))

unfoldable pub refutation_answer : ℕ → List ℤ → List ℕ → Result CheckAnswer Refusal
refutation_answer n L R = unless_refused (refutation_validity n L R) (Ok (verdict (run L start R)))
