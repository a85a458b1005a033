-- `engine_table::settled` meets its contract: settled by rounds, or looked at after elimination.
use Rattle.engine_table.specs.Settling.{kept_settling, settling_trans, settling_looked}
use Rattle.engine_table.proofs.settled.Goals as goal

pub returns-then-settled_by_rounds : goal.returns-then-settled_by_rounds
returns-then-settled_by_rounds c = rw c.if-settled_by_rounds.true at c.settled_by_rounds.ensures

pub close-requires : goal.close-requires
close-requires c = c.settled_by_rounds.ensures.reduced

pub table_settled-requires : goal.table_settled-requires
table_settled-requires c = c.close.ensures.reduced

pub returns : goal.returns
returns c =
    settling_looked (settling_trans c.settled_by_rounds.ensures (kept_settling c.close.ensures)) _ c.table_settled.ensures
