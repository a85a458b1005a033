-- What the question promises gives what is returned: its places are below a refusal's unit, and the number tells the answers apart.
use Rattle.lines.specs.declared.Refusal.{Refusal}
use Rattle.std.specs.Prelude.{◌≡◌, refl, List, ℕ, ℤ, Err, Ok, Result}
use Rattle.std.proofs.Common.{sym, ap, subst, ◌∙◌, arith}
use Rattle.lines.specs.declared.Line.{Line}
use Rattle.decide_buffers.specs.Room.{ModelLent}
use Rattle.implied_line.specs.declared.LineAnswer.{LineAnswer}
use Rattle.implied_line.specs.declared.LineAnswer.TheVariants.{Implied, NotImplied, Unsolvable}
use Rattle.implied_line.specs.Answer.{answer_for, AnswersLine}
use Rattle.implied_line.specs.Places.{Below, answer_below}
use Rattle.c_codes.specs.Codes.{no_code, no_solution_code, refusal_unit}
use Rattle.c_codes.specs.Apart.{refusals_apart, no_refusal, same_pos}
use Rattle.c_implied_line.specs.Calls.{line_code_lem, LineReturns}

pub line_below : (n : ℕ) (L : List ℤ) (l : Line) (b : ModelLent) → Below refusal_unit (answer_for n L l b)
line_below = answer_below refusal_unit (omega arith) (omega arith)

module _ {n : ℕ} {L : List ℤ} {l : Line} {answer : Result LineAnswer Refusal} {b a : ModelLent} (d : AnswersLine n L l answer b a) where
  pub promised_below : Below refusal_unit answer
  promised_below = subst (Below refusal_unit) (sym d.is) (line_below n L l b)

  pub line_returns : (returned : ℤ) → returned ≡ line_code_lem answer → LineReturns n L l returned b a
  line_returns returned e = record { is = e ∙ ap line_code_lem d.is; answers = subst (λ (x : Result LineAnswer Refusal). AnswersLine n L l x b a) d.is d }

-- no two answers have one number
pub lines_apart : (a b : Result LineAnswer Refusal) → Below refusal_unit a → Below refusal_unit b → line_code_lem a ≡ line_code_lem b → a ≡ b
lines_apart (Ok Implied) (Ok Implied) h k e = refl
lines_apart (Ok Implied) (Ok NotImplied) h k e = let q : 0 ≡ no_code = same_pos _ _ e in absurd (omega arith)
lines_apart (Ok Implied) (Ok Unsolvable) h k e = let q : 0 ≡ no_solution_code = same_pos _ _ e in absurd (omega arith)
lines_apart (Ok Implied) (Err s) h k e = absurd (no_refusal 0 s e)
lines_apart (Ok NotImplied) (Ok Implied) h k e = let q : no_code ≡ 0 = same_pos _ _ e in absurd (omega arith)
lines_apart (Ok NotImplied) (Ok NotImplied) h k e = refl
lines_apart (Ok NotImplied) (Ok Unsolvable) h k e = let q : no_code ≡ no_solution_code = same_pos _ _ e in absurd (omega arith)
lines_apart (Ok NotImplied) (Err s) h k e = absurd (no_refusal no_code s e)
lines_apart (Ok Unsolvable) (Ok Implied) h k e = let q : no_solution_code ≡ 0 = same_pos _ _ e in absurd (omega arith)
lines_apart (Ok Unsolvable) (Ok NotImplied) h k e = let q : no_solution_code ≡ no_code = same_pos _ _ e in absurd (omega arith)
lines_apart (Ok Unsolvable) (Ok Unsolvable) h k e = refl
lines_apart (Ok Unsolvable) (Err s) h k e = absurd (no_refusal no_solution_code s e)
lines_apart (Err r) (Ok Implied) h k e = absurd (no_refusal 0 r (sym e))
lines_apart (Err r) (Ok NotImplied) h k e = absurd (no_refusal no_code r (sym e))
lines_apart (Err r) (Ok Unsolvable) h k e = absurd (no_refusal no_solution_code r (sym e))
lines_apart (Err r) (Err s) h k e = ap Err (refusals_apart r s h k e)
