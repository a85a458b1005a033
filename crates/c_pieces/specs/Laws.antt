-- The places in the answer at the end are below a refusal's unit, whatever was kept.
use Rattle.std.specs.Prelude.{◌≡◌, refl, Bool, true, false, cond, List, ℕ, ltb, ℤ, Ok}
use Rattle.std.proofs.Common.{arith}
use Rattle.lines.specs.declared.Refusal.TheVariants.{LongRefutation}
use Rattle.lines.specs.Limits.{max_refutation}
use Rattle.lines.specs.Places.{placed_or, placed_if, placed_list}
use Rattle.check_answers.specs.declared.CheckAnswer.TheVariants.{No}
use Rattle.check_answers.specs.Answer.{Below, below_unless}
use Rattle.check_refutation.specs.declared.Progress.{Progress}
use Rattle.check_refutation.specs.Answer.{verdict}
use Rattle.check_refutation.specs.Places.{verdict_below}
use Rattle.check_pieces.specs.Taken.{is_small_lem, end_answer, small_test}
use Rattle.c_codes.specs.Codes.{refusal_unit}

pub end_below : (n : ℕ) (L : List ℤ) (s : Progress) → Below refusal_unit (end_answer n L s)
unfolding end_answer
end_below n L s =
    below_unless refusal_unit _ _
    (placed_or refusal_unit _ _ (placed_list refusal_unit n L (omega arith)) (placed_if refusal_unit (ltb max_refutation s.read) LongRefutation (omega arith)))
    (λ e. go (is_small_lem s) refl)
  where
    go : (b : Bool) → is_small_lem s ≡ b → Below refusal_unit (Ok (cond b (verdict s) (No 0)))
    go true e = let k = small_test s e in verdict_below refusal_unit s k.wrong (omega (arith, k.read))
    go false e = omega arith
