-- `engine_finished_rows::turned_back` meets its contract: the numbers that it reads are those that the entry is turned back by.
use Prim.Native.Nat.{◌+◌}
use mir.Facts.{to_z-of_z}
use Rattle.lines.specs.Line.{number}
use Rattle.engine_finished_rows.proofs.turned_back.Goals as goal

pub returns : goal.returns
returns c =
    let a = c.args in
    let w = a.work.now in
    rw (to_z-of_z (record { sfits = c.distance_of.type_inv }))
    (rw (to_z-of_z {z = number w (a.row + a.j)} (record { sfits = c.z-1.given }), to_z-of_z {z = number w (a.pot + a.j)} (record { sfits = c.other-1.given }), to_z-of_z {z = a.own} c.ranges.own) at c.distance_of.ensures)
