-- `engine_elimination::eliminate` meets its contract.
use mathlib.Core.Path.{refl, ◌∙◌}
use native.Mathlib.Omega.{arith}
use Rattle.engine_reduced_table.specs.Reduced.{asked, kept_trans, kept_none}
use Rattle.engine_elimination.proofs.eliminate.Goals as goal

pub through-requires : goal.through-requires
through-requires c = asked c.requires.reduced _ _ (omega arith) (omega arith)

pub through-requires-2 : goal.through-requires-2
through-requires-2 c = asked c.through.ensures.reduced _ _ (omega arith) (omega arith)

pub loop-i-init : goal.loop-i-init
loop-i-init c = (refl, kept_none c.through-2.ensures.reduced)

pub through-requires-in-loop-i : goal.through-requires-in-loop-i
through-requires-in-loop-i c = asked c.loop-i.invariant.1.reduced _ _ c.loop-i-test.true (omega arith)

pub through-requires-in-loop-i-2 : goal.through-requires-in-loop-i-2
through-requires-in-loop-i-2 c = asked c.through-in-loop-i.ensures.reduced _ _ c.loop-i-test.true (omega arith)

pub loop-i-preserved : goal.loop-i-preserved
loop-i-preserved c =
    (c.through-in-loop-i-2.auto.work ∙ c.through-in-loop-i.auto.work ∙ c.loop-i.invariant.0, kept_trans (kept_trans c.loop-i.invariant.1 c.through-in-loop-i.ensures) c.through-in-loop-i-2.ensures)

pub returns : goal.returns
returns c =
    kept_trans (kept_trans c.through.ensures c.through-2.ensures) c.loop-i.invariant.1
