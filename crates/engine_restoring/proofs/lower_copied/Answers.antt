-- `engine_restoring::lower_copied` meets its contract.
use mir.Facts.{to_z-of_z}
use Rattle.engine_reduced_table.specs.Reduced.{own_ready}
use Rattle.engine_restoring.proofs.lower_copied.Goals as goal

pub lower-requires : goal.lower-requires
lower-requires c =
    rw (to_z-of_z (record { sfits = c.entry_at-a.type_inv })) (own_ready c.requires c.entry_at-a.result c.entry_at-a.ensures)
