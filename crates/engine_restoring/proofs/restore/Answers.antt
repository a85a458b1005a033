-- `engine_restoring::restore` meets its contract.
use mathlib.Core.Path.{refl, ◌∙◌}
use native.Mathlib.Omega.{arith}
use Rattle.engine_reduced_table.specs.Reduced.{asked, kept_trans, kept_none}
use Rattle.engine_restoring.proofs.restore.Goals as goal

pub restore_row-requires : goal.restore_row-requires
restore_row-requires c = asked c.requires.reduced _ _ (omega arith) (omega arith)

pub restore_row-requires-2 : goal.restore_row-requires-2
restore_row-requires-2 c = asked c.restore_row.ensures.reduced _ _ (omega arith) (omega arith)

pub loop-j-init : goal.loop-j-init
loop-j-init c = (refl, kept_none c.restore_row-2.ensures.reduced, omega arith)

pub lower_own-requires : goal.lower_own-requires
lower_own-requires c = asked c.loop-j.invariant.1.reduced _ _ (omega arith) c.loop-j-test.true

pub lower_own-requires-in-loop-j : goal.lower_own-requires-in-loop-j
lower_own-requires-in-loop-j c = asked c.lower_own.ensures.reduced _ _ (omega arith) c.loop-j-test.true

pub take-requires : goal.take-requires
take-requires c =
    asked c.lower_own-in-loop-j.ensures.reduced _ _ c.loop-j-test.true (omega (arith, c.loop-j.invariant.2))

pub take-requires-in-loop-j : goal.take-requires-in-loop-j
take-requires-in-loop-j c =
    asked c.take.ensures.reduced _ _ c.loop-j-test.true c.loop-j.invariant.2

pub loop-j-preserved : goal.loop-j-preserved
loop-j-preserved c = (
  c.take-in-loop-j.auto.work ∙ c.take.auto.work ∙ c.lower_own-in-loop-j.auto.work ∙ c.lower_own.auto.work ∙ c.loop-j.invariant.0,
  kept_trans (kept_trans (kept_trans (kept_trans c.loop-j.invariant.1 c.lower_own.ensures) c.lower_own-in-loop-j.ensures) c.take.ensures) c.take-in-loop-j.ensures,
  c.loop-j.invariant.2,
)

pub returns : goal.returns
returns c =
    kept_trans (kept_trans c.restore_row.ensures c.restore_row-2.ensures) c.loop-j.invariant.1
