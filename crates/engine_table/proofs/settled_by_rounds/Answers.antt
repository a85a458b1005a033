-- `engine_table::settled_by_rounds` meets its contract: rounds keep the table, and where they do not settle it, it begins anew.
use Rattle.engine_table.specs.Settling.{settling_none, kept_settling, settling_trans, settling_looked, rounded_settling, settling_far}
use Rattle.engine_table.proofs.settled_by_rounds.Goals as goal

pub returns-then-count-size : goal.returns-then-count-size
returns-then-count-size c = settling_none c.requires.reduced

pub returns-then-size-count : goal.returns-then-size-count
returns-then-size-count c = settling_none c.requires.reduced

pub returns-then-table_settled : goal.returns-then-table_settled
returns-then-table_settled c =
    settling_looked (rounded_settling c.ordered_rounds.ensures) _ (rw c.if-table_settled.true at c.table_settled.ensures)

pub put_all-requires : goal.put_all-requires
put_all-requires c =
    (settling_far (rounded_settling c.ordered_rounds.ensures) _ c.fill_far.ensures).reduced

pub returns : goal.returns
returns c =
    settling_trans (settling_far (rounded_settling c.ordered_rounds.ensures) _ c.fill_far.ensures) (kept_settling c.put_all.ensures)
