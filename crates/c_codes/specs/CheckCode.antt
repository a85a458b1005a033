-- The number that an answer of a check is returned as, and that it tells the answers apart.
use Rattle.lines.specs.declared.Refusal.{Refusal}
use Rattle.std.specs.Prelude.{◌≡◌, refl, ℕ, ◌+◌, ℤ, pos, Err, Ok, Result}
use Rattle.std.proofs.Common.{sym, ap, arith}
use Rattle.check_answers.specs.declared.CheckAnswer.{CheckAnswer}
use Rattle.check_answers.specs.declared.CheckAnswer.TheVariants.{Yes, No}
use Rattle.check_answers.specs.Answer.{Below}
use Rattle.c_codes.specs.Codes.{no_code, refusal_unit, refusal_code_lem}
use Rattle.c_codes.specs.Apart.{refusals_apart, no_refusal, same_pos}

abbrev pub check_code_lem : Result CheckAnswer Refusal → ℤ
check_code_lem (Ok Yes) = pos 0
check_code_lem (Ok (No k)) = pos (no_code + k)
check_code_lem (Err r) = refusal_code_lem r

pub code_yes : (a : Result CheckAnswer Refusal) → check_code_lem a ≡ pos 0 → a ≡ Ok Yes
code_yes (Ok Yes) e = refl
code_yes (Ok (No k)) e = let q : no_code + k ≡ 0 = same_pos _ _ e in absurd (omega arith)
code_yes (Err s) e = absurd (no_refusal 0 s (sym e))

pub code_no : (a : Result CheckAnswer Refusal) (k : ℕ) → check_code_lem a ≡ pos (no_code + k) → a ≡ Ok (No k)
code_no (Ok Yes) k e = let q : 0 ≡ no_code + k = same_pos _ _ e in absurd (omega arith)
code_no (Ok (No j)) k e = let q : no_code + j ≡ no_code + k = same_pos _ _ e in let p : j ≡ k = omega arith in ap (λ (i : ℕ). Ok (No i)) p
code_no (Err s) k e = absurd (no_refusal (no_code + k) s (sym e))

-- no two answers have one number
pub answers_apart : (a b : Result CheckAnswer Refusal) → Below refusal_unit a → Below refusal_unit b → check_code_lem a ≡ check_code_lem b → a ≡ b
answers_apart a (Ok Yes) h k e = code_yes a e
answers_apart a (Ok (No j)) h k e = code_no a j e
answers_apart (Ok Yes) (Err s) h k e = absurd (no_refusal 0 s e)
answers_apart (Ok (No i)) (Err s) h k e = absurd (no_refusal (no_code + i) s e)
answers_apart (Err r) (Err s) h k e = ap Err (refusals_apart r s h k e)
