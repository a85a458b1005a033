-- `engine_restoring::restore_all` meets its contract: the table is kept from turn to turn.
use mathlib.Core.Path.{refl, ◌∙◌}
use native.Mathlib.Omega.{arith}
use Rattle.engine_reduced_table.specs.Reduced.{kept_trans, kept_none}
use Rattle.engine_restoring.proofs.restore_all.Goals as goal

pub loop-v-init : goal.loop-v-init
loop-v-init start = (refl, kept_none start.requires)

pub restore-requires : goal.restore-requires
restore-requires call = record { reduced = call.loop-v.invariant.1.reduced; low = omega arith }

pub loop-v-preserved : goal.loop-v-preserved
loop-v-preserved turned =
    (turned.restore.auto.work ∙ turned.loop-v.invariant.0, kept_trans turned.loop-v.invariant.1 turned.restore.ensures)

pub returns : goal.returns
returns exit = exit.loop-v.invariant.1
