-- `engine_merged_steps::clear_cells` meets its contract. The invariant: the cells gone through are cleared.
use mathlib.Core.Path.{refl, subst}
use native.Mathlib.Omega.{arith}
use borrow.Author.Rules.{rules}
use Rattle.engine_merged_steps.specs.Cells.{Cleared, cleared_start, cleared_more}
use Rattle.engine_merged_steps.proofs.clear_cells.Goals as goal

pub loop-c-init : goal.loop-c-init
loop-c-init c = (refl, cleared_start c.args.start c.args.cells c.args.work.now)

pub loop-c-preserved : goal.loop-c-preserved
loop-c-preserved c =
    (search rules, cleared_more c.loop-c.invariant.1 (omega (arith, c.requires, c.loop-c.invariant.0)) c.loop-c-test.true)

pub returns : goal.returns
returns c =
    subst (Cleared c.args.start c.args.cells c.args.work.now c.loop-c.work) (omega (arith, c.loop-c.invariant.1.at_most, c.loop-c-test.false)) c.loop-c.invariant.1
