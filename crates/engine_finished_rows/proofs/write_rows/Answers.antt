-- `engine_finished_rows::write_rows` meets its contract: each row lies in the table, which ends within the work area.
use mathlib.Core.Path.{refl, ◌∙◌}
use Prim.Native.Nat.{◌+◌, ◌*◌, ◌≤◌}
use native.Mathlib.Omega.{arith}
use lib.ListN.{length}
use Rattle.decide_rows.specs.Table.{table_start}
use Rattle.engine_finished_rows.specs.Rows.{RowReady, rows_start, row_ready, rows_more, rows_end}
use Rattle.engine_finished_rows.proofs.write_rows.Goals.{In-loop-v, Start}
use Rattle.engine_finished_rows.proofs.write_rows.Goals as goal

-- the table ends within the work area
table_room : (c : Start) → table_start (2 * c.args.n) + 2 * c.args.n * (2 * c.args.n) ≤ length c.args.work.now
table_room c = omega (arith, c.requires.after, c.requires.behind, c.requires.reduced.room)

pub overflow_mul-start : goal.overflow_mul-start
overflow_mul-start c = record { fits = omega (arith, table_room c, c.well_formed.0.0) }

pub loop-v-init : goal.loop-v-init
loop-v-init c = (refl, rows_start c.requires)

-- the row of v
module _ (c : In-loop-v) where
  row : RowReady c.args.count c.args.n c.args.at c.args.pot (table_start (2 * c.args.n) + c.loop-v.v * (2 * c.args.n)) c.loop-v.v c.loop-v.work
  row = row_ready c.requires c.loop-v.work c.loop-v.v c.loop-v.invariant.1 c.loop-v-test.true

pub overflow_mul-v : goal.overflow_mul-v
overflow_mul-v c = record { fits = omega (arith, (row (goal.at.overflow_mul-v c).In-loop-v).in_table, table_room (goal.at.overflow_mul-v c).Start, c.well_formed.0.0) }

pub overflow_add-start-in-loop-v : goal.overflow_add-start-in-loop-v
overflow_add-start-in-loop-v c = record { fits = omega (arith, (row (goal.at.overflow_add-start-in-loop-v c).In-loop-v).in_table, table_room (goal.at.overflow_add-start-in-loop-v c).Start, c.well_formed.0.0) }

pub write_row-requires : goal.write_row-requires
write_row-requires c = row (goal.at.write_row-requires c).In-loop-v

pub loop-v-preserved : goal.loop-v-preserved
loop-v-preserved c =
    let f = c.write_row in
    (f.auto.work ∙ c.loop-v.invariant.0, rows_more c.requires c.loop-v.work c.loop-v.v c.loop-v.invariant.1 c.loop-v-test.true f.new.work f.ensures)

pub returns : goal.returns
returns c = rows_end c.requires c.loop-v.work c.loop-v.v c.loop-v.invariant.1 c.loop-v-test.false
