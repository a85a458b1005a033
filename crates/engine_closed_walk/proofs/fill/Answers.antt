-- `engine_closed_walk::fill` meets its contract. The invariant: the numbers before i are the value.
use mathlib.Core.Path.{◌≡◌, refl, subst, ◌∙◌}
use Prim.Native.Nat.{ℕ}
use native.Mathlib.Omega.{arith}
use lib.ListN.{length-set}
use mir.Facts.{to_z-of_z}
use Rattle.engine_closed_walk.specs.Filled.{Filled, filled_none, filled_more}
use Rattle.engine_closed_walk.proofs.fill.Goals as goal

pub loop-i-init : goal.loop-i-init
loop-i-init c = (refl, filled_none c.args.from c.args.end _ c.args.work.now c.requires.0)

pub loop-i-preserved : goal.loop-i-preserved
loop-i-preserved c =
    (length-set c.loop-i.work _ _ ∙ c.loop-i.invariant.0, filled_more c.requires.1 c.loop-i.invariant.1 c.loop-i-test.true)

pub returns : goal.returns
returns c =
    let e : c.loop-i.i ≡ c.args.end = omega (arith, c.loop-i.invariant.1.high, c.loop-i-test.false) in
    subst (λ (k : ℕ). Filled c.args.from c.args.end c.args.value k c.args.work.now c.loop-i.work) e (rw (to_z-of_z c.ranges.value) at c.loop-i.invariant.1)
