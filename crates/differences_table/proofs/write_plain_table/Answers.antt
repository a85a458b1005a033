-- `differences_table::write_plain_table` meets its contract: the front is lent to be closed, and what comes back is turned to distances.
use mathlib.Core.Path.{refl}
use Rattle.differences_table.specs.Table.{start_ready, part_ranged, finish_asked, plain_table}
use Rattle.differences_table.proofs.write_plain_table.Goals as goal

pub start_table-requires : goal.start_table-requires
start_table-requires c = start_ready c.requires

pub close-requires : goal.close-requires
close-requires c = part_ranged c.requires c.start_table.ensures

pub finish-requires : goal.finish-requires
finish-requires c = finish_asked c.requires c.start_table.ensures c.close.ensures _ refl

pub returns : goal.returns
returns c = plain_table c.requires c.start_table.ensures c.close.ensures _ refl c.finish.ensures
