-- What deciding promises gives what is returned: its places are below a refusal's unit, and the number tells the answers apart.
use Rattle.lines.specs.declared.Refusal.{Refusal}
use Rattle.std.specs.Prelude.{◌≡◌, refl, List, ℕ, ℤ, Err, Ok, Result}
use Rattle.std.proofs.Common.{sym, ap, arith}
use Rattle.decide.specs.declared.Answer.{Answer}
use Rattle.decide.specs.declared.Answer.TheVariants as decision
use Rattle.decide_buffers.specs.Room.{Lent}
use Rattle.decide.specs.Decided.{answer_for, Decided}
use Rattle.decide.specs.Places as decide
use Rattle.c_codes.specs.Codes.{no_code, refusal_unit}
use Rattle.c_codes.specs.Apart.{refusals_apart, no_refusal, same_pos}
use Rattle.c_deciding.specs.Calls.{decide_code_lem}

module _ {n : ℕ} {L : List ℤ} {answer : Result Answer Refusal} {b a : Lent} (d : Decided n L answer b a) where
  pub decided_below : decide.Below refusal_unit answer
  decided_below = decide.decided_below refusal_unit (omega arith) (omega arith) d

pub decision_below : (n : ℕ) (L : List ℤ) (b : Lent) → decide.Below refusal_unit (answer_for n L b)
decision_below = decide.answer_below refusal_unit (omega arith) (omega arith)

-- no two answers have one number
pub decisions_apart : (a b : Result Answer Refusal) → decide.Below refusal_unit a → decide.Below refusal_unit b → decide_code_lem a ≡ decide_code_lem b → a ≡ b
decisions_apart (Ok decision.Yes) (Ok decision.Yes) h k e = refl
decisions_apart (Ok decision.Yes) (Ok decision.No) h k e = let q : 0 ≡ no_code = same_pos _ _ e in absurd (omega arith)
decisions_apart (Ok decision.Yes) (Err s) h k e = absurd (no_refusal 0 s e)
decisions_apart (Ok decision.No) (Ok decision.Yes) h k e = let q : no_code ≡ 0 = same_pos _ _ e in absurd (omega arith)
decisions_apart (Ok decision.No) (Ok decision.No) h k e = refl
decisions_apart (Ok decision.No) (Err s) h k e = absurd (no_refusal no_code s e)
decisions_apart (Err r) (Ok decision.Yes) h k e = absurd (no_refusal 0 r (sym e))
decisions_apart (Err r) (Ok decision.No) h k e = absurd (no_refusal no_code r (sym e))
decisions_apart (Err r) (Err s) h k e = ap Err (refusals_apart r s h k e)
