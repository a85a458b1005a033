-- `differences_table::finish` meets its contract. The invariant: the rows before v are distances, and the others are as they were.
use Rattle.differences_table.specs.Finished.{finish_ready, finish_more}
use Rattle.differences_table.proofs.finish.Goals as goal

pub finish_row-requires : goal.finish_row-requires
finish_row-requires c =
    (finish_ready c.requires c.loop-v.invariant c.loop-v-test.true, c.loop-v-test.true)

pub loop-v-preserved : goal.loop-v-preserved
loop-v-preserved c =
    finish_more c.requires c.loop-v.invariant c.loop-v-test.true c.finish_row.ensures
