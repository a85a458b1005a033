-- `engine_closed_walk::far_back` meets its contract.
use Prim.Native.Nat.{◌+◌}
use mir.Syntax.{w64}
use mir.Facts.{to_z-of_z}
use Rattle.lines.specs.Line.{number}
use Rattle.engine_closed_walk.specs.Back.{not_below}
use Rattle.engine_closed_walk.proofs.far_back.Goals as goal

pub from_in-at-requires : goal.from_in-at-requires
from_in-at-requires c =
    let z = number c.args.work.now (c.args.marks + c.loop-k.at) in
    let e = to_z-of_z {w = w64} {z = z} (record { sfits = c.mark-1.given }) in
    rw e (not_below z (rw e at c.if-mark-lt0.false))
