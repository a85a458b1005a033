-- `session_questions::line_asked` meets its contract, in each of its three ways: the line's numbers alone are a list, whose steps 0 and 1 are the line's.
use mathlib.Core.Path.{◌≡◌, sym, ap, subst, ◌∙◌}
use mathlib.Core.Bool.{false}
use mathlib.Core.List.{List}
use Prim.Native.Nat.{ℕ, ◌*◌, ◌<◌}
use native.Mathlib.Omega.{arith}
use borrow.Author.Tests.{not-true, not-false}
use lib.IntN.{ℤ}
use Rattle.lines.specs.Line.{is_false_lem}
use Rattle.lines.specs.Valid.{LinesOk}
use Rattle.steps.specs.Step.{step_of, step_numbered_lem}
use Rattle.theory_bounds.specs.Tight.{Table}
use Rattle.session_step.specs.Read.{small_table}
use Rattle.session_questions.specs.Asked.{named_implied, line_alone, step_alone, by_first, by_second}
use mathlib.Core.Bool.{not}
use Rattle.session_questions.proofs.line_asked.Goals.{After-line_numbers-numbers}
use Rattle.session_questions.proofs.line_asked.Goals as goal

-- the line is not false, and its numbers are written
module _ (c : After-line_numbers-numbers) where
  abbrev D : Table
  D = small_table (2 * c.args.n) c.args.table.now

  right : is_false_lem c.args.line ≡ false
  right = sym c.is_false.ensures ∙ c.if-is_false.false

  ready : LinesOk c.args.n c.line_numbers-numbers.result
  ready = subst (LinesOk c.args.n) (sym c.line_numbers-numbers.ensures) (line_alone c.args.line c.args.n c.requires.1)

  side : (k : ℕ) → k < 2 → named_implied D (step_numbered_lem c.line_numbers-numbers.result k) ≡ named_implied D (step_of c.args.line k)
  side k h = ap (named_implied D) (ap (λ (l : List ℤ). step_numbered_lem l k) c.line_numbers-numbers.ensures ∙ step_alone c.args.line k h)

pub step_implied-requires : goal.step_implied-requires
step_implied-requires c = (c.requires.0, ready (goal.at.step_implied-requires c).After-line_numbers-numbers)

pub returns-then-not-step_implied : goal.returns-then-not-step_implied
returns-then-not-step_implied c =
    by_first (D (goal.at.returns-then-not-step_implied c).After-line_numbers-numbers) c.args.line (right (goal.at.returns-then-not-step_implied c).After-line_numbers-numbers) (sym (side (goal.at.returns-then-not-step_implied c).After-line_numbers-numbers 0 (omega arith)) ∙ sym c.step_implied.ensures ∙ not-true _ (ap not c.if-not-step_implied.true))

pub step_implied-requires-2 : goal.step_implied-requires-2
step_implied-requires-2 c = (c.requires.0, ready (goal.at.step_implied-requires-2 c).After-line_numbers-numbers)

pub returns : goal.returns
returns c =
    by_second (D (goal.at.returns c).After-line_numbers-numbers) c.args.line (right (goal.at.returns c).After-line_numbers-numbers) (sym (side (goal.at.returns c).After-line_numbers-numbers 0 (omega arith)) ∙ sym c.step_implied.ensures ∙ not-false _ (ap not c.if-not-step_implied.false))
    c.step_implied-2.result (c.step_implied-2.ensures ∙ side (goal.at.returns c).After-line_numbers-numbers 1 (omega arith))
