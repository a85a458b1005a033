-- `lines::line_at` meets its contract: each number is read where the list has it, counted from the line's first.
use borrow.Author.Rules.{rules}
use native.Mathlib.Nat.{add-zero}
use lib.Seq.{get_or-drop}
use Rattle.lines.specs.Line.{line_at}
use Rattle.lines.proofs.line_at.Goals as goal

-- `lines::line_at` meets its contract: each number is read where the list has it, counted from the line's first.
pub returns : goal.returns
unfolding line_at
returns c = simp (get_or-drop, add-zero) (search rules)
