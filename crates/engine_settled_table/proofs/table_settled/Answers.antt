-- `engine_settled_table::table_settled` meets its contract.
use Rattle.integers.specs.Laws.{never}
use Rattle.engine_settled_table.proofs.table_settled.Goals as goal

pub returns-then-diagonal_settled : goal.returns-then-diagonal_settled
returns-then-diagonal_settled exit =
    record { yes = λ e. record { diagonal = exit.diagonal_settled.ensures.yes exit.if-diagonal_settled.true; steps = exit.steps_settled.ensures.yes e } }

pub returns : goal.returns
returns exit = record { yes = λ e. never (cc) }
