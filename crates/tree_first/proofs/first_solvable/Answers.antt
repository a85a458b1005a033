-- `tree_first::first_solvable` meets its contract. The invariant is `Trying`: no choice before this one has a solution.
use Rattle.std.specs.Prelude.{◌≡◌}
use Rattle.std.proofs.Common.{arith}
use Rattle.tree_first.specs.Tried.{none_tried, asked_still, one_more, found_first, all_tried}
use Rattle.tree_first.proofs.first_solvable.Goals as goal

pub loop-choice-init : goal.loop-choice-init
loop-choice-init c = none_tried _ _ _ _ _ _ c.requires

pub try_choice-requires : goal.try_choice-requires
try_choice-requires c =
    (asked_still _ _ _ _ _ _ c.requires _ c.loop-choice.invariant, omega arith)

pub returns-then-try_choice : goal.returns-then-try_choice
returns-then-try_choice c =
    found_first _ _ _ _ _ _ c.requires _ c.loop-choice.invariant c.loop-choice-test.true c.try_choice.ensures c.if-try_choice.true

pub loop-choice-preserved : goal.loop-choice-preserved
loop-choice-preserved c =
    one_more _ _ _ _ _ _ c.requires _ c.loop-choice.invariant c.loop-choice-test.true c.try_choice.ensures c.if-try_choice.false

pub returns : goal.returns
returns c =
    let all : c.loop-choice.choice ≡ c.args.total = omega (arith, c.loop-choice.invariant.below) in
    rw all at (all_tried _ _ _ _ _ _ c.requires _ c.loop-choice.invariant (omega arith))
