-- `engine_restoring::restore_row` meets its contract.
use mathlib.Core.Path.{refl, ◌∙◌}
use mathlib.Core.Logic.{inr}
use Prim.Native.Nat.{◌+◌, ◌*◌}
use native.Mathlib.Omega.{arith}
use Rattle.engine_packed_steps.specs.Layout.{row_width}
use Rattle.engine_reduced_table.specs.Reduced.{Kept, kept_none, asked, kept_trans, copied_kept}
use Rattle.engine_restoring.proofs.restore_row.Goals.{After-copy_row}
use Rattle.engine_restoring.proofs.restore_row.Goals as goal

pub copy_row-requires : goal.copy_row-requires
copy_row-requires c = record { apart = inr (omega (arith, c.requires.i_row)); from_room = omega (arith, c.requires.i_row, c.requires.reduced.room); to_room = omega (arith, c.requires.reduced.room) }

-- the row is copied
module _ (c : After-copy_row) where
  done : Kept c.args.count c.args.pot c.args.size c.args.work.now c.copy_row.new.work
  done =
      copied_kept c.requires.reduced (c.args.pot + 2 * c.args.size + c.args.k * row_width c.args.size) (omega (arith, c.requires.i_row, c.requires.reduced.room)) c.copy_row.new.work c.copy_row.auto.work
      c.copy_row.ensures

pub loop-j-init : goal.loop-j-init
loop-j-init c = (refl, kept_none (done (goal.at.loop-j-init c).After-copy_row).reduced)

pub lower_copied-requires : goal.lower_copied-requires
lower_copied-requires c =
    asked c.loop-j.invariant.1.reduced _ _ c.requires.i_lt c.loop-j-test.true

pub loop-j-preserved : goal.loop-j-preserved
loop-j-preserved c =
    let f = c.lower_copied in
    (f.auto.work ∙ c.loop-j.invariant.0, kept_trans c.loop-j.invariant.1 f.ensures)

pub returns : goal.returns
returns c = kept_trans (done (goal.at.returns c).After-copy_row) c.loop-j.invariant.1
