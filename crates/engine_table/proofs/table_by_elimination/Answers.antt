-- `engine_table::table_by_elimination` meets its contract: the table is made over the steps, or else in rounds.
use Rattle.engine_table.specs.Found.{made_ready, found_made, table_ready, found_rounds}
use Rattle.engine_table.proofs.table_by_elimination.Goals as goal

pub made-requires : goal.made-requires
made-requires c =
    made_ready c.requires _ _ c.fewer_steps-kept.ensures

pub returns-then-made : goal.returns-then-made
returns-then-made c =
    found_made c.requires _ _ c.fewer_steps-kept.ensures _ (rw c.if-made.true at c.made.ensures)

pub distance_table-requires : goal.distance_table-requires
distance_table-requires c =
    table_ready c.requires _ _ c.fewer_steps-kept.ensures _ (rw c.if-made.false at c.made.ensures)

pub returns : goal.returns
returns c =
    found_rounds c.requires _ _ c.fewer_steps-kept.ensures _ (rw c.if-made.false at c.made.ensures) _ _ c.distance_table.ensures
