-- `engine_halves_walks::walk_between` meets its contract: what is asked for passes and for following back is kept.
use Prim.Native.Nat.{◌*◌}
use Rattle.engine_closed_walk.specs.Passes.{Passed}
use Rattle.engine_halves_walks.specs.Between.{passed_after, between_pass, between_follow, walked_between}
use Rattle.engine_halves_walks.proofs.walk_between.Goals.{After-pass_all}
use Rattle.engine_halves_walks.proofs.walk_between.Goals as goal

pub pass_all-requires : goal.pass_all-requires
pass_all-requires call = between_pass call.requires call.row_at-row.ensures call.start_row.ensures

-- all passes were made
module _ (after : After-pass_all) where
  passed : Passed after.row_at-row.result (2 * after.args.n) after.args.work.now after.pass_all.new.work (2 * after.args.n)
  passed = passed_after after.start_row.ensures after.pass_all.ensures

pub follow_back-requires : goal.follow_back-requires
follow_back-requires call = between_follow call.requires call.row_at-row.ensures (passed (goal.at.follow_back-requires call).After-pass_all)

pub returns : goal.returns
returns exit =
    walked_between exit.requires exit.row_at-row.ensures (passed (goal.at.returns exit).After-pass_all) exit.follow_back.ensures
