-- The place of an answer is small: below any bound that passes the limits of lines and of a refutation.
use Rattle.lines.specs.declared.Refusal.{Refusal}
use Rattle.std.specs.Prelude.{◌≡◌, not, ◌||◌, List, ℕ, ◌+◌, ◌<◌, ◌≤◌, eqb, ltb, ℤ, length, Ok, Result}
use Rattle.std.proofs.Common.{arith, ltb-false}
use Rattle.lines.specs.declared.Refusal.TheVariants.{LongRefutation}
use Rattle.lines.specs.Limits.{max_lines, max_refutation}
use Rattle.lines.specs.Refusal.{◌or_else◌, refuse_if, validity_of}
use Rattle.lines.specs.Valid.{or_valid, not_refused}
use Rattle.lines.specs.Places.{placed_or, placed_if, placed_list}
use Rattle.check_answers.specs.declared.CheckAnswer.{CheckAnswer}
use Rattle.check_answers.specs.Answer.{Below, below_unless}
use Rattle.check_refutation.specs.declared.Progress.{Progress}
use Rattle.check_refutation.specs.Progress.{head_size, start, counts_ok_lem, run, accepted, kind_ok_lem, broken_at_lem}
use Rattle.check_refutation.specs.Small.{either, run_read, run_wrong}
use Rattle.check_refutation.specs.Answer.{refutation_validity, verdict, refutation_answer}

-- where a state breaks is hardly past what it has read
broken_small : (s : Progress) → s.wrong ≤ s.read → broken_at_lem s ≤ s.read + 2
unfolding broken_at_lem
broken_small s h =
    let P : ℕ → Type 0 = λ k. k ≤ s.read + 2 in
    either P (ltb s.read head_size || not (kind_ok_lem s.kind)) (omega arith)
    (either P (not (counts_ok_lem s.kind s.p s.q)) (omega arith)
    (either P (not (eqb s.read (head_size + s.p + s.q))) (omega arith) (either P s.good (omega arith) (omega arith))))

pub verdict_below : (m : ℕ) (s : Progress) → s.wrong ≤ s.read → s.read + 2 < m → Below m (Ok (verdict s))
unfolding verdict
verdict_below m s h l = either (λ (v : CheckAnswer). Below m (Ok v)) (accepted s) tt (omega (arith, broken_small s h))

-- the limit of a refutation, where it is not refused
pub not_long : (v : Result Unit Refusal) (k : ℕ) → (v or_else refuse_if (ltb max_refutation k) LongRefutation) ≡ Ok tt → k ≤ max_refutation
not_long v k e = ltb-false max_refutation k (not_refused _ LongRefutation (or_valid v _ e).1)

pub answer_below : (m : ℕ) → max_lines < m → max_refutation + 2 < m → (n : ℕ) (L : List ℤ) (R : List ℕ) → Below m (refutation_answer n L R)
unfolding refutation_answer refutation_validity
answer_below m h l n L R =
    below_unless m _ _ (placed_or m _ _ (placed_list m n L h) (placed_if m (ltb max_refutation (length R)) LongRefutation (omega arith)))
    (λ e. verdict_below m (run L start R) (run_wrong L start R (omega arith)) (omega (arith, run_read L start R, not_long (validity_of n L) (length R) e)))
