-- `engine_elimination::through` meets its contract.
use mir.Facts.{to_z-of_z}
use Rattle.engine_reduced_table.specs.Reduced.{mirror_asked, mirror_ready}
use Rattle.engine_elimination.proofs.through.Goals as goal

pub entry_at-a-requires : goal.entry_at-a-requires
entry_at-a-requires c =
    mirror_asked c.requires c.opposite_of-row.result c.opposite_of-column.result c.opposite_of-row.ensures c.opposite_of-column.ensures

pub lower-requires : goal.lower-requires
lower-requires c =
    rw (to_z-of_z (record { sfits = c.entry_at-a.type_inv }))
    (mirror_ready c.requires c.opposite_of-row.result c.opposite_of-column.result c.opposite_of-row.ensures c.opposite_of-column.ensures c.entry_at-a.result c.entry_at-a.ensures)
