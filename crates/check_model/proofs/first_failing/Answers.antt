-- `check_model::first_failing` meets its contract.
use mathlib.Core.Path.{sym, ap, ◌∙◌}
use mathlib.Core.Bool.{not}
use native.Mathlib.Omega.{arith}
use borrow.Author.Tests.{not-false}
use Rattle.lines.specs.Line.{meets, assignment_of}
use Rattle.check_answers.specs.declared.CheckAnswer.TheVariants.{No}
use Rattle.check_model.specs.Laws.{failing_on, failing_at, failing_past}
use Rattle.check_model.proofs.first_failing.Goals.{then-k-count, else-k-count+then-not-is_met}
use Rattle.check_model.proofs.first_failing.Goals as goal

pub loop-k-preserved : goal.loop-k-preserved
loop-k-preserved c =
    let s = assignment_of c.args.model.now in
    let met = sym (c.is_met.ensures ∙ ap (meets s) c.line_at.ensures) ∙ not-false _ (ap not c.if-not-is_met.false) in
    (omega arith, c.loop-k.invariant.1 ∙ failing_on s c.args.list.now c.loop-k.k (omega arith) met)

-- the loop is left past the last line, or at a line that fails
pub returns-then-failing-count : goal.returns-then-failing-count
returns-then-failing-count c =
    let s = assignment_of c.args.model.now in
    elim c.if-k-count.branch [
      | then-k-count w ↦ absurd (omega arith)
      | else-k-count+then-not-is_met w ↦
          let missed = sym (w.is_met.ensures ∙ ap (meets s) w.line_at.ensures) ∙ w.if-not-is_met.true in
          ap No w.failing-is ∙ sym (c.loop-k.invariant.1 ∙ failing_at s c.args.list.now c.loop-k.k (omega arith) missed)
    ]

pub returns-else-failing-count : goal.returns-else-failing-count
returns-else-failing-count c =
    let a = c.args in
    elim c.if-k-count.branch [
      | then-k-count w ↦ sym (c.loop-k.invariant.1 ∙ failing_past (assignment_of a.model.now) a.list.now c.loop-k.k (omega arith))
      | else-k-count+then-not-is_met w ↦ absurd (omega arith)
    ]
