-- `file_text::put_bounds` meets its contract.
use mathlib.Core.Path.{ap}
use Prim.Native.Nat.{◌≤◌}
use native.Mathlib.Omega.{arith}
use lib.ListN.{length}
use mir.Facts.{to_z-of_z}
use Rattle.lines.specs.Limits.{absent_least, absent_greatest}
use Rattle.file_text.specs.Text.{bound_text}
use Rattle.file_text.specs.Put.{then, wider, same}
use Rattle.file_text.proofs.put_bounds.Goals as goal

pub returns : goal.returns
returns c =
    let h : c.args.at ≤ length c.args.out.now = omega arith in
    let least = same (ap (bound_text absent_least) (to_z-of_z c.ranges.least)) c.put_bound-next.ensures in
    let greatest = same (ap (bound_text absent_greatest) (to_z-of_z c.ranges.greatest)) c.put_bound-next-2.ensures in
    wider (omega arith) (then h (then h (then h least c.put_byte-next.ensures) greatest) c.put_byte.ensures)
