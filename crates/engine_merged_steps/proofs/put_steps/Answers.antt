-- `engine_merged_steps::put_steps` meets its contract. The invariant: the steps with the numbers gone through are put.
use mathlib.Core.Path.{subst}
use native.Mathlib.Omega.{arith}
use Rattle.engine_merged_steps.specs.Cells.{StepsPut, puts_start, puts_more}
use Rattle.engine_merged_steps.proofs.put_steps.Goals as goal

pub loop-number-init : goal.loop-number-init
loop-number-init c = puts_start c.requires

pub put_step-requires : goal.put_step-requires
put_step-requires c =
    record { few = c.requires.few; valid = c.requires.valid; few_lines = c.requires.few_lines; below = c.loop-number-test.true; room = omega (arith, c.requires.room, c.loop-number.invariant.scratch.same_length) }

pub loop-number-preserved : goal.loop-number-preserved
loop-number-preserved c =
    let f = c.put_step in
    puts_more c.loop-number.invariant c.loop-number-test.true c.requires.valid _ f.ensures

pub returns : goal.returns
returns c =
    subst (StepsPut c.args.n c.args.start c.args.list.now c.args.work.now c.loop-number.work) (omega (arith, c.loop-number.invariant.at_most, c.loop-number-test.false)) c.loop-number.invariant
