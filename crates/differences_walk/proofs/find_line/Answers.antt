-- `differences_walk::find_line` meets its contract: no line before k makes the value, and some line does.
use native.Mathlib.Omega.{arith}
use mir.Facts.{to_z-of_z}
use Rattle.differences_walk.specs.Makes.{none_more}
use Rattle.differences_walk.proofs.find_line.Goals as goal

pub loop-k-preserved : goal.loop-k-preserved
loop-k-preserved c = none_more _ _ _ _ _ _ c.loop-k.invariant c.makes.ensures c.if-makes.false

pub returns : goal.returns
returns c =
    let found = c.requires.is in
    absurd (c.loop-k.invariant c.requires.line (omega (arith, found.inside, c.loop-k-test.false)) (rw (to_z-of_z c.ranges.z) found.makes))
