-- What the exported function that decides a list returns, and what it leaves in the buffers.
use Rattle.lines.specs.declared.Refusal.{Refusal}
use Rattle.std.specs.Prelude.{◌≡◌, List, ℕ, ℤ, pos, Err, Ok, Result}
use Rattle.decide.specs.declared.Answer.{Answer}
use Rattle.decide.specs.declared.Answer.TheVariants as decide
use Rattle.decide_buffers.specs.Room.{Lent}
use Rattle.decide.specs.Decided.{answer_for, Leaves}
use Rattle.c_codes.specs.Codes.{no_code, refusal_code_lem}

-- the number that an answer on a list is returned as
abbrev pub decide_code_lem : Result Answer Refusal → ℤ
decide_code_lem (Ok decide.Yes) = pos 0
decide_code_lem (Ok decide.No) = pos no_code
decide_code_lem (Err r) = refusal_code_lem r

-- b is what the buffers held before, a what they hold after
pub record DecideReturns (n : ℕ) (L : List ℤ) (returned : ℤ) (b a : Lent) : Type 0 where
  pub is : returned ≡ decide_code_lem (answer_for n L b)
  pub leaves : Leaves n L (answer_for n L b) b a
