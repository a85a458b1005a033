-- What the loops of `engine_settled_table::steps_settled` keep.
use Rattle.engine_settled_table.specs.Settled.{StepsTo}
use Rattle.engine_settled_table.proofs.steps_settled.Given as goal

-- `engine_settled_table::steps_settled` meets its contract.
abbrev pub invariant-loop-i : goal.invariant-loop-i
invariant-loop-i l = StepsTo l.count l.pot l.size l.work l.i
