-- `decide_walkback::walk_back` meets its contract.
use native.Mathlib.Omega.{arith}
use Rattle.lines.specs.Limits.{max_variables}
use Rattle.lines.specs.Valid.{lines_more}
use Rattle.decide_walkback.specs.WalkBack.{reading_start, reading_move, reading_stays, reading_goes, reading_end}
use Rattle.decide_walkback.proofs.walk_back.Goals as goal

pub loop-k-init : goal.loop-k-init
loop-k-init c = reading_start _ _ _ _ _ _ _ c.requires

pub move_back-requires : goal.move_back-requires
move_back-requires c =
    reading_move _ _ _ _ _ _ _ c.requires _ _ _ _ c.loop-k.invariant c.loop-k-test.true

pub returns : goal.returns
returns c = reading_end _ _ _ _ _ _ _ c.requires _ _ _ _ c.loop-k.invariant (omega arith)

pub loop-k-preserved-in-Some : goal.loop-k-preserved-in-Some
loop-k-preserved-in-Some c =
    rw c.start_of-point.ensures (reading_goes _ _ _ _ _ _ _ c.requires _ _ _ _ c.loop-k.invariant c.loop-k-test.true _ c.in-Some.number (c.in-Some.ensures))

pub loop-k-preserved : goal.loop-k-preserved
loop-k-preserved c =
    reading_stays _ _ _ _ _ _ _ c.requires _ _ _ _ c.loop-k.invariant c.loop-k-test.true _ c.in_default.ensures

pub start_of-point-requires : goal.start_of-point-requires
start_of-point-requires c = lines_more _ max_variables _ c.requires.few c.requires.lines
