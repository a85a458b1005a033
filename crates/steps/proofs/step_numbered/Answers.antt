-- `steps::step_numbered` meets its contract.
use mathlib.Core.Path.{ap, ◌∙◌}
use Prim.Native.Nat.{◌%◌}
use native.Mathlib.Omega.{arith}
use borrow.Author.Tests.{lt-ltb, le-ltb}
use Rattle.lines.specs.declared.Line.{Line}
use Rattle.steps.specs.Step.{step_of, step_numbered_lem}
use Rattle.steps.proofs.step_numbered.Goals as goal

pub line_step-requires : goal.line_step-requires
line_step-requires c =
    (rw c.line_at.ensures (c.requires c.if-number-list.true), omega arith)

pub returns-then-number-list : goal.returns-then-number-list
unfolding step_numbered_lem
returns-then-number-list c =
    rw (lt-ltb _ _ c.if-number-list.true) (c.line_step.ensures ∙ ap (λ (l : Line). step_of l (c.args.number % 2)) c.line_at.ensures)

pub returns-else-number-list : goal.returns-else-number-list
unfolding step_numbered_lem
returns-else-number-list c = rw (le-ltb _ _ c.if-number-list.false)
