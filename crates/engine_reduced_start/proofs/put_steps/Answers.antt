-- `engine_reduced_start::put_steps` meets its contract.
use mathlib.Core.Path.{refl, ◌∙◌}
use Rattle.engine_reduced_table.specs.Reduced.{kept_trans, kept_none}
use Rattle.engine_reduced_start.proofs.put_steps.Goals as goal

pub loop-i-init : goal.loop-i-init
loop-i-init c = (refl, kept_none c.requires)

pub put_step-requires : goal.put_step-requires
put_step-requires c = (c.loop-i.invariant.1.reduced, c.loop-i-test.true)

pub loop-i-preserved : goal.loop-i-preserved
loop-i-preserved c =
    (c.put_step.auto.work ∙ c.loop-i.invariant.0, kept_trans c.loop-i.invariant.1 c.put_step.ensures)

pub returns : goal.returns
returns c = c.loop-i.invariant.1
