-- `session_line::put_numbered` meets its contract: a step's ends are points and its weight is small, so that `put_step` may be called.
use Rattle.std.specs.Prelude.{Some}
use mathlib.Core.Path.{◌≡◌, sym, ◌∙◌}
use Prim.Native.Nat.{◌*◌}
use Rattle.lines.specs.Limits.{max_variables}
use Rattle.lines.specs.Valid.{lines_more}
use Rattle.steps.specs.Step.{step_numbered_lem}
use Rattle.decide_rows.specs.Numbers.{numbered_ok}
use Rattle.session_line.specs.Numbered.{named_found, named_nothing}
use Rattle.session_line.proofs.put_numbered.Goals.{In-Some}
use Rattle.session_line.proofs.put_numbered.Goals as goal

pub step_numbered-named-requires : goal.step_numbered-named-requires
step_numbered-named-requires c = lines_more c.args.n max_variables c.args.list.now c.requires.0.variables c.requires.1 _

-- the step that was found
module _ (c : In-Some) where
  is : step_numbered_lem c.args.list.now c.args.number ≡ Some c.in-Some.step
  is = sym c.step_numbered-named.ensures ∙ c.in-Some.is

pub put_step-requires : goal.put_step-requires
put_step-requires c =
    (c.requires.0, numbered_ok c.args.n c.args.list.now c.requires.1 c.args.number _ (is (goal.at.put_step-requires c).In-Some))

pub returns-in-Some : goal.returns-in-Some
returns-in-Some c =
    named_found (2 * c.args.n) (step_numbered_lem c.args.list.now c.args.number) _ (is (goal.at.returns-in-Some c).In-Some) c.args.table.now c.put_step.new.table c.put_step.ensures

pub returns-in_default : goal.returns-in_default
returns-in_default c =
    named_nothing (2 * c.args.n) (step_numbered_lem c.args.list.now c.args.number) (sym c.step_numbered-named.ensures ∙ c.in_default.is) c.args.table.now
