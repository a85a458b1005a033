-- `hub_answers::write_own_groups` meets its contract. The invariant: the groups of the first x variables are written.
use mathlib.Core.Path.{◌≡◌, refl, ap, ◌∙◌}
use mathlib.Core.List.{List}
use Prim.Native.Nat.{ℕ, ◌+◌, ◌*◌}
use native.Mathlib.Omega.{arith}
use lib.ListN.{set, length-set}
use Rattle.integers.specs.Fill.{filled, filled_none}
use Rattle.theory_hub.specs.Hub.{own_group}
use Rattle.hub_answers.specs.Written.{own_filled}
use Rattle.hub_answers.proofs.write_own_groups.Goals as goal

pub loop-x-init : goal.loop-x-init
loop-x-init c = (omega arith, refl, filled_none own_group c.args.groups.now)

pub bounds-groups-x-in-loop-x : goal.bounds-groups-x-in-loop-x
bounds-groups-x-in-loop-x c =
    omega (arith, length-set c.loop-x.groups (2 * c.loop-x.x) c.loop-x.x, c.loop-x.invariant.1, c.loop-x-test.true, c.requires.1)

pub loop-x-preserved : goal.loop-x-preserved
loop-x-preserved c =
    let x = c.loop-x.x in (
      omega (arith, c.loop-x-test.true),
      length-set (set c.loop-x.groups (2 * x) x) (2 * x + 1) 0 ∙ length-set c.loop-x.groups (2 * x) x ∙ c.loop-x.invariant.1,
      ap (λ (g : List ℕ). set (set g (2 * x) x) (2 * x + 1) 0) c.loop-x.invariant.2 ∙ own_filled c.args.groups.now x (omega (arith, c.loop-x-test.true, c.requires.1)),
    )

pub returns : goal.returns
returns c =
    let e : 2 * c.loop-x.x ≡ 2 * c.args.n = omega (arith, c.loop-x.invariant.0, c.loop-x-test.false) in
    c.loop-x.invariant.2 ∙ ap (filled own_group c.args.groups.now) e
