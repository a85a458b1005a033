-- What the exported showing of a line returns, and what it leaves in the buffers.
use Rattle.lines.specs.declared.Refusal.{Refusal}
use Rattle.std.specs.Prelude.{◌≡◌, List, ℕ, ℤ, pos, Err, Ok, Result}
use Rattle.lines.specs.declared.Line.{Line}
use Rattle.show_line.specs.declared.ShowAnswer.{ShowAnswer}
use Rattle.show_line.specs.declared.ShowAnswer.TheVariants.{Shown, NotShown}
use Rattle.show_line.specs.Answer.{ShowLent, answer_for, ShowsLine}
use Rattle.c_codes.specs.Codes.{no_code, refusal_code_lem}

-- the number that an answer of showing is returned as
abbrev pub show_code_lem : Result ShowAnswer Refusal → ℤ
show_code_lem (Ok Shown) = pos 0
show_code_lem (Ok NotShown) = pos no_code
show_code_lem (Err r) = refusal_code_lem r

-- b is what the buffers held before, a what they hold after
pub record ShowReturns (n : ℕ) (L : List ℤ) (l : Line) (returned : ℤ) (b a : ShowLent) : Type 0 where
  pub is : returned ≡ show_code_lem (answer_for n L l b)
  pub shows : ShowsLine n L l (answer_for n L l b) b a
