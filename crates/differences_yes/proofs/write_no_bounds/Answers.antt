-- `differences_yes::write_no_bounds` meets its contract: two bounds that are none for one variable after the other.
use mathlib.Core.Path.{ap, ◌∙◌}
use mathlib.Core.List.{List}
use Prim.Native.Nat.{◌+◌, ◌*◌}
use native.Mathlib.Omega.{arith}
use lib.IntN.{ℤ}
use lib.ListN.{set}
use Rattle.lines.specs.Limits.{absent_least, absent_greatest}
use Rattle.differences_yes.specs.Pairs.{absent_filled}
use Rattle.differences_yes.proofs.write_no_bounds.Goals as goal

pub loop-x-preserved : goal.loop-x-preserved
loop-x-preserved c =
    let x = c.loop-x.x in
    ap (λ (b : List ℤ). set (set b (2 * x) absent_least) (2 * x + 1) absent_greatest) c.loop-x.invariant ∙ absent_filled c.args.bounds.now x (omega (arith, c.loop-x-test.true, c.requires))
