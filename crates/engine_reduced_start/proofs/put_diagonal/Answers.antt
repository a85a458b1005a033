-- `engine_reduced_start::put_diagonal` meets its contract.
use mathlib.Core.Path.{refl, ◌∙◌}
use Rattle.engine_reduced_table.specs.Reduced.{kept_trans, kept_none}
use Rattle.engine_reduced_start.specs.Start.{diagonal_ready}
use Rattle.engine_reduced_start.proofs.put_diagonal.Goals as goal

pub loop-t-init : goal.loop-t-init
loop-t-init c = (refl, kept_none c.requires)

pub lower_entry-requires : goal.lower_entry-requires
lower_entry-requires c = diagonal_ready c.loop-t.invariant.1.reduced _ c.loop-t-test.true

pub loop-t-preserved : goal.loop-t-preserved
loop-t-preserved c =
    (c.lower_entry.auto.work ∙ c.loop-t.invariant.0, kept_trans c.loop-t.invariant.1 c.lower_entry.ensures)

pub returns : goal.returns
returns c = c.loop-t.invariant.1
