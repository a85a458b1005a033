-- `hub_weights::put_numbered` meets its contract: a step's ends are points and its weight is small, so that it may be put.
use Rattle.std.specs.Prelude.{Some}
use mathlib.Core.Path.{◌≡◌, sym, ◌∙◌}
use native.Mathlib.Omega.{arith}
use borrow.Author.Tests.{not-false}
use Rattle.lines.specs.Limits.{max_variables}
use Rattle.lines.specs.Valid.{lines_more}
use Rattle.steps.specs.declared.Step.{Step}
use Rattle.steps.specs.Step.{step_numbered_lem}
use Rattle.decide_rows.specs.Numbers.{StepOk, numbered_ok}
use Rattle.engine_packed_steps.specs.Scratch.{scratch_none}
use Rattle.hub_weights.specs.Weights.{weights_end}
use Rattle.hub_weights.specs.Put.{puts_not, puts_found, puts_nothing}
use mathlib.Core.Bool.{not}
use mathlib.Core.Path.{ap}
use Rattle.hub_weights.proofs.put_numbered.Goals.{In-Some}
use Rattle.hub_weights.proofs.put_numbered.Goals as goal

pub step_numbered-named-requires : goal.step_numbered-named-requires
step_numbered-named-requires c = lines_more c.args.n max_variables c.args.list.now c.requires.valid.variables c.requires.valid.lines _

-- the step that was found
module _ (c : In-Some) where
  abbrev t : Step
  t = c.in-Some.t

  is : step_numbered_lem c.args.list.now c.args.number ≡ Some t
  is = sym c.step_numbered-named.ensures ∙ c.in-Some.is

  ok : StepOk c.args.n t
  ok = numbered_ok c.args.n c.args.list.now c.requires.valid.lines c.args.number _ is

pub returns-then-not-here : goal.returns-then-not-here
returns-then-not-here c =
    puts_not c.args.n _ (scratch_none 0 (weights_end c.args.n) c.args.work.now)

pub put_step-requires : goal.put_step-requires
put_step-requires c =
    record {
      few = omega (arith, c.requires.valid.variables);
      from_lt = (ok (goal.at.put_step-requires c).In-Some).from_lt;
      to_lt = (ok (goal.at.put_step-requires c).In-Some).to_lt;
      light = (ok (goal.at.put_step-requires c).In-Some).small;
      placed = c.has_place-here.ensures (not-false _ (ap not c.if-not-here.false));
      room = c.requires.room;
    }

pub returns-else-not-here : goal.returns-else-not-here
returns-else-not-here c = puts_found (is (goal.at.returns-else-not-here c).In-Some) c.put_step.ensures

pub returns-in_default : goal.returns-in_default
returns-in_default c = puts_nothing (sym c.step_numbered-named.ensures ∙ c.in_default.is)
