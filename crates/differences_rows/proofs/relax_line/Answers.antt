-- `differences_rows::relax_line` meets its contract: the step of a line of such a list has its ends among the variables, and a small weight.
use mathlib.Core.Path.{◌≡◌, ap, ◌∙◌}
use mir.Syntax.{w64}
use mir.Val.{to_z, of_z}
use mir.Facts.{to_z-of_z}
use Rattle.decide_rows.specs.Read.{weight_fits}
use Rattle.decide_rows.specs.Relax.{relax_in}
use Rattle.differences_lines.specs.PlainList.{plain_at}
use Rattle.differences_rows.specs.Round.{StepReady, step_ready, step_done}
use Rattle.differences_rows.proofs.relax_line.Goals.{After-plain_step-step}
use Rattle.differences_rows.proofs.relax_line.Goals as goal

pub plain_step-step-requires : goal.plain_step-step-requires
plain_step-step-requires c = plain_at c.requires.0.plain c.args.k c.requires.1

-- the step that was made
module _ (c : After-plain_step-step) where
  ready : StepReady c.args.n c.args.rows.now c.plain_step-step.result
  ready = rw c.plain_step-step.ensures (step_ready _ _ _ c.requires.0 c.args.k c.requires.1)

  weight_is : to_z w64 (of_z w64 c.plain_step-step.result.weight) ≡ c.plain_step-step.result.weight
  weight_is = to_z-of_z (weight_fits _ ready.small)

pub relax_at-requires : goal.relax_at-requires
relax_at-requires c =
    let step = (goal.at.relax_at-requires c).After-plain_step-step in
    let r = ready step in
    (c.requires.0.long, r.from_lt, r.to_lt, rw (weight_is step) r.small, r.short)

pub returns : goal.returns
returns c =
    let step = c.plain_step-step in
    let rows = c.args.rows.now in
    step_done _ _ _ c.requires.0 c.args.k c.requires.1 step.result step.ensures _
    (c.relax_at.ensures ∙ ap (relax_in rows c.args.n step.result.from step.result.to) (weight_is (goal.at.returns c).After-plain_step-step))
