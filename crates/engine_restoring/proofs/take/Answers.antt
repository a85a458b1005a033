-- `engine_restoring::take` meets its contract.
use mir.Facts.{to_z-of_z}
use Rattle.engine_reduced_table.specs.Reduced.{mirror_asked, mirror_ready}
use Rattle.engine_restoring.proofs.take.Goals as goal

pub entry_at-z-requires : goal.entry_at-z-requires
entry_at-z-requires c =
    mirror_asked c.requires c.opposite_of-row.result c.opposite_of-column.result c.opposite_of-row.ensures c.opposite_of-column.ensures

pub lower_entry-requires : goal.lower_entry-requires
lower_entry-requires c =
    rw (to_z-of_z (record { sfits = c.entry_at-z.type_inv }))
    (mirror_ready c.requires c.opposite_of-row.result c.opposite_of-column.result c.opposite_of-row.ensures c.opposite_of-column.ensures c.entry_at-z.result c.entry_at-z.ensures)
