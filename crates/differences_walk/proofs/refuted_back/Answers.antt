-- `differences_walk::refuted_back` meets its contract: the walk that was read back, and the part of it between two places with one variable.
use mathlib.Core.Path.{◌≡◌}
use Prim.Native.Nat.{◌+◌, ◌-◌}
use native.Mathlib.Omega.{arith}
use lib.ListN.{take, drop}
use Rattle.differences_rows.specs.Layout.{points_at_lem}
use Rattle.differences_walk.specs.Again.{MetAgain}
use Rattle.differences_walk.specs.Refuted.{copy_fits, back_refuted, not_refuted}
use Rattle.differences_walk.proofs.refuted_back.Goals.{After-met_again-part}
use Rattle.differences_walk.proofs.refuted_back.Goals as goal

-- the part that was found
shown : (met : After-met_again-part) → MetAgain (take (met.args.top + 1) (drop (points_at_lem met.args.n) met.walk_back.new.work)) met.met_again-part.result
shown met =
    let points = met.points_at-points in
    let size : points.result + met.args.top + 1 - points.result ≡ met.args.top + 1 = omega arith in
    rw (size, points.ensures) at met.met_again-part.ensures

pub returns-then-top-last : goal.returns-then-top-last
returns-then-top-last c =
    let met = (goal.at.returns-then-top-last c).After-met_again-part in
    not_refuted c.requires c.walk_back.ensures c.met_again-part.result (shown met) c.if-top-last.true

pub copy_numbers-requires : goal.copy_numbers-requires
copy_numbers-requires c =
    let met = (goal.at.copy_numbers-requires c).After-met_again-part in
    copy_fits c.requires c.walk_back.ensures c.met_again-part.result (shown met) (omega (arith, c.if-top-last.false)) c.walk_at.result c.walk_at.ensures

pub returns : goal.returns
returns c =
    let met = (goal.at.returns c).After-met_again-part in
    back_refuted c.requires c.walk_back.ensures c.met_again-part.result (shown met) (omega (arith, c.if-top-last.false)) c.walk_at.result c.walk_at.ensures _ c.copy_numbers.ensures _ c.write_head.ensures
