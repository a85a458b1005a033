-- `engine_halves_walks::pass_all` meets its contract: each pass keeps what one asks.
use mathlib.Core.Path.{refl}
use native.Mathlib.Omega.{arith}
use Rattle.engine_closed_walk.specs.Passes.{Passed, passed_none, pass_ready}
use Rattle.engine_halves_walks.specs.Between.{passed_after}
use Rattle.engine_halves_walks.proofs.pass_all.Goals.{After-mark_turn-last}
use Rattle.engine_halves_walks.proofs.pass_all.Goals as goal

pub loop-turn-init : goal.loop-turn-init
loop-turn-init c = (refl, passed_none c.args.row c.args.size c.args.size c.args.work.now c.requires.small (omega arith))

pub mark_turn-last-requires : goal.mark_turn-last-requires
mark_turn-last-requires c = pass_ready c.requires c.loop-turn.invariant.1

-- after a pass more
module _ (c : After-mark_turn-last) where
  passed : Passed c.args.row c.args.size c.args.work.now c.mark_turn-last.new.work c.args.size
  passed = passed_after c.loop-turn.invariant.1 c.mark_turn-last.ensures

pub returns-then-size-last : goal.returns-then-size-last
returns-then-size-last c = passed (goal.at.returns-then-size-last c).After-mark_turn-last

pub loop-turn-preserved : goal.loop-turn-preserved
loop-turn-preserved c = ((passed (goal.at.loop-turn-preserved c).After-mark_turn-last).scratch.same_length, passed (goal.at.loop-turn-preserved c).After-mark_turn-last)

pub returns : goal.returns
returns c = c.loop-turn.invariant.1
