-- `engine_reduced_start::put_step` meets its contract: the reduced weight of a step is an entry.
use mir.Facts.{to_z-of_z}
use Rattle.engine_reduced_table.specs.Weight.{reduced_found, reduced_fits}
use Rattle.engine_reduced_start.proofs.put_step.Goals as goal

pub lower_entry-requires : goal.lower_entry-requires
lower_entry-requires call =
    let on = reduced_found call.reduced_step.ensures call.in-Some.is in
    rw (to_z-of_z (reduced_fits on)) on.ready
