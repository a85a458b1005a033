-- `engine_settled_table::steps_settled` meets its contract.
use native.Mathlib.Omega.{arith}
use Rattle.integers.specs.Laws.{never}
use borrow.Author.Tests.{not-false}
use Rattle.engine_settled_table.specs.Settled.{steps_more}
use mathlib.Core.Bool.{not}
use mathlib.Core.Path.{ap}
use Rattle.engine_settled_table.proofs.steps_settled.Goals as goal

pub loop-i-init : goal.loop-i-init
loop-i-init start i h = absurd (omega arith)

pub returns-then-not-settled : goal.returns-then-not-settled
returns-then-not-settled exit = record { yes = λ e. never (cc) }

pub loop-i-preserved : goal.loop-i-preserved
loop-i-preserved turned =
    steps_more _ _ _ _ turned.loop-i.i turned.loop-i.invariant (turned.step_settled-settled.ensures.yes (not-false _ (ap not turned.if-not-settled.false)))

pub returns : goal.returns
returns exit = record { yes = λ _ i h. exit.loop-i.invariant i (omega (arith, h, exit.loop-i-test.false)) }
