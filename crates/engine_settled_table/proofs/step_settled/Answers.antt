-- `engine_settled_table::step_settled` meets its contract: the step on reduced weights, and the rows of its points.
use mir.Facts.{to_z-of_z}
use Rattle.steps.specs.declared.Step.{Step}
use Rattle.engine_reduced_table.specs.Weight.{OnReduced, reduced_found, reduced_fits}
use Rattle.engine_settled_table.specs.Settled.{step_no, step_if}
use Rattle.engine_settled_table.proofs.step_settled.Goals.{In-Some}
use Rattle.engine_settled_table.proofs.step_settled.Goals as goal

-- the step on reduced weights
module _ (found : In-Some) where
  abbrev step : Step
  step = found.in-Some.s

  on : OnReduced found.args.count found.args.pot found.args.size found.args.work.now found.args.i step
  on = reduced_found found.reduced_step.ensures found.in-Some.is

pub row_settled-requires : goal.row_settled-requires
row_settled-requires call =
    let o = on (goal.at.row_settled-requires call).In-Some in
    rw (to_z-of_z (reduced_fits o)) (record { ask = o.ready.ask; low = o.ready.by.low; high = o.ready.by.high })

pub returns-in-Some : goal.returns-in-Some
returns-in-Some exit =
    step_if (step (goal.at.returns-in-Some exit).In-Some) (on (goal.at.returns-in-Some exit).In-Some) exit.row_settled.result (rw (to_z-of_z (reduced_fits (on (goal.at.returns-in-Some exit).In-Some))) at exit.row_settled.ensures)

pub returns : goal.returns
returns exit = step_no _ _ _ _ _
