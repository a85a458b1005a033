-- What the exported question on a line returns, and what it leaves in the buffers.
use Rattle.lines.specs.declared.Refusal.{Refusal}
use Rattle.std.specs.Prelude.{◌≡◌, List, ℕ, ℤ, pos, Err, Ok, Result}
use Rattle.lines.specs.declared.Line.{Line}
use Rattle.decide_buffers.specs.Room.{ModelLent}
use Rattle.implied_line.specs.declared.LineAnswer.{LineAnswer}
use Rattle.implied_line.specs.declared.LineAnswer.TheVariants.{Implied, NotImplied, Unsolvable}
use Rattle.implied_line.specs.Answer.{answer_for, AnswersLine}
use Rattle.c_codes.specs.Codes.{no_code, no_solution_code, refusal_code_lem}

-- the number that an answer on a line is returned as
abbrev pub line_code_lem : Result LineAnswer Refusal → ℤ
line_code_lem (Ok Implied) = pos 0
line_code_lem (Ok NotImplied) = pos no_code
line_code_lem (Ok Unsolvable) = pos no_solution_code
line_code_lem (Err r) = refusal_code_lem r

-- b is what the buffers held before, a what they hold after
pub record LineReturns (n : ℕ) (L : List ℤ) (l : Line) (returned : ℤ) (b a : ModelLent) : Type 0 where
  pub is : returned ≡ line_code_lem (answer_for n L l b)
  pub answers : AnswersLine n L l (answer_for n L l b) b a
