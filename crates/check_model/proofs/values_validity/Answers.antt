-- `check_model::values_validity` meets its contract.
use mathlib.Core.Path.{◌≡◌, sym, ap, ◌∙◌}
use mathlib.Core.Bool.{not}
use native.Mathlib.Omega.{arith}
use borrow.Author.Tests.{not-true, not-false}
use mir.Syntax.{w64}
use Rattle.integers.proofs.Bits.{kept}
use Rattle.integers.specs.Integer.{is_within_lem}
use Rattle.lines.specs.Limits.{max_value}
use Rattle.lines.specs.Line.{assignment_of}
use Rattle.check_model.specs.Laws.{values_on, values_at, values_past}
use Rattle.check_model.proofs.values_validity.Goals.{After-between}
use Rattle.check_model.proofs.values_validity.Goals as goal

-- the test of value i
test : (v : After-between) → is_within_lem max_value (assignment_of v.args.model.now v.loop-i.i) ≡ v.between.result
test v = sym (v.between.ensures ∙ ap (is_within_lem max_value) (kept w64 (assignment_of v.args.model.now v.loop-i.i) v.between-arg-1.given))

pub returns-then-not-between : goal.returns-then-not-between
returns-then-not-between c =
    let outside = test (goal.at.returns-then-not-between c).After-between ∙ not-true _ (ap not c.if-not-between.true) in
    sym (c.loop-i.invariant ∙ values_at c.args.model.now c.loop-i.i c.loop-i-test.true outside)

pub loop-i-preserved : goal.loop-i-preserved
loop-i-preserved c =
    let inside = test (goal.at.loop-i-preserved c).After-between ∙ not-false _ (ap not c.if-not-between.false) in
    c.loop-i.invariant ∙ values_on c.args.model.now c.loop-i.i c.loop-i-test.true inside

pub returns : goal.returns
returns c = sym (c.loop-i.invariant ∙ values_past c.args.model.now c.loop-i.i (omega arith))
