-- `differences_search::double_row` meets its contract: the row before the other place is as it was, and its numbers are small.
use mathlib.Core.Path.{◌≡◌}
use Prim.Native.Nat.{◌+◌}
use mir.Syntax.{w64}
use mir.Val.{to_z, of_z}
use mir.Facts.{to_z-of_z}
use Rattle.lines.specs.Line.{number}
use Rattle.differences_search.specs.Double.{single_fits, double_fits, still, doubled_more}
use Rattle.differences_search.proofs.double_row.Goals as goal

pub loop-i-preserved : goal.loop-i-preserved
loop-i-preserved c =
    let here = c.args.from + c.loop-i.i in
    let h = c.loop-i-test.true in
    let small = c.requires.small c.loop-i.i h in
    let z = number c.args.work.now here in
    let read_is : to_z w64 (of_z w64 (number c.loop-i.work here)) ≡ z = rw (still c.requires c.loop-i.invariant h) (to_z-of_z (single_fits z small)) in
    doubled_more c.requires c.loop-i.invariant h _ (rw read_is (to_z-of_z (double_fits z small)))
