-- What the loops of `engine_merged_steps::put_steps` keep.
use Rattle.engine_merged_steps.specs.Cells.{StepsPut}
use Rattle.engine_merged_steps.proofs.put_steps.Given as goal

-- `engine_merged_steps::put_steps` meets its contract. The invariant: the steps with the numbers gone through are put.
abbrev pub invariant-loop-number : goal.invariant-loop-number
invariant-loop-number l = StepsPut l.n l.start l.list l.initial.work l.work l.number
