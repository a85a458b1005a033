-- `decide_rows::relax_one` meets its contract: a step's ends are points and its weight is small, so that `relax_columns` may be called.
use Rattle.std.specs.Prelude.{Some}
use mathlib.Core.Path.{◌≡◌, sym, ◌∙◌}
use Rattle.steps.specs.Step.{step_numbered_lem}
use Rattle.decide_rows.specs.Relax.{found_ready, step_way, nothing_way}
use Rattle.decide_rows.proofs.relax_one.Goals.{In-Some}
use Rattle.decide_rows.proofs.relax_one.Goals as goal

-- the step that was found
module _ (c : In-Some) where
  is : step_numbered_lem c.args.list.now c.args.number ≡ Some c.in-Some.t
  is = sym c.step_numbered.ensures ∙ c.in-Some.is

pub relax_columns-requires : goal.relax_columns-requires
relax_columns-requires c =
    found_ready c.args.n c.args.width c.args.list.now c.args.rows.now c.requires c.args.number _ (is (goal.at.relax_columns-requires c).In-Some)

pub returns-in-Some : goal.returns-in-Some
returns-in-Some c =
    c.relax_columns.ensures ∙ step_way c.args.n c.args.width c.args.list.now c.args.rows.now c.requires c.args.number _ _ (is (goal.at.returns-in-Some c).In-Some)

pub returns-in_default : goal.returns-in_default
returns-in_default c =
    nothing_way c.args.n c.args.width c.args.list.now c.args.rows.now c.requires c.args.number _ (sym c.step_numbered.ensures ∙ c.in_default.is)
