-- `decide_walkback::makes` meets its contract, where the number names a step and where it names nothing.
use mathlib.Core.Path.{sym, ◌∙◌}
use Prim.Native.Nat.{◌<◌}
use native.Mathlib.Omega.{arith}
use lib.ListN.{length}
use Rattle.steps.specs.declared.Step.{Step}
use Rattle.steps.specs.Laws.{numbered_weight}
use Rattle.decide_walkback.specs.Makes.{numbered_start}
use Rattle.decide_walkback.proofs.makes.Goals as goal

pub step_makes-requires : goal.step_makes-requires
step_makes-requires c =
    let t : Step = c.in-Some.t in
    let named = sym c.step_numbered.ensures ∙ c.in-Some.is in
    let low : t.from < length c.args.old.now = omega (arith, c.requires.size, numbered_start c.requires.variables c.args.list.now c.args.number t c.requires.lines named) in
    (low, c.requires.near t.from low, numbered_weight c.requires.variables c.args.list.now c.args.number t (c.requires.lines _) named)
