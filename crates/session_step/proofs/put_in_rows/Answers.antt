-- `session_step::put_in_rows` meets its contract.
use Prim.Native.Nat.{◌+◌, ◌*◌, ◌-◌}
use native.Mathlib.Omega.{arith}
use Rattle.session_step.specs.Rows.{rows_none, row_ready, rows_more, rows_all}
use Rattle.session_step.proofs.put_in_rows.Goals as goal

pub loop-v-init : goal.loop-v-init
loop-v-init c = rows_none (2 * c.args.n) c.args.step c.args.table.now

pub put_in_row-requires : goal.put_in_row-requires
put_in_row-requires c =
    let size = 2 * c.args.n in
    let at = c.loop-v.v * size in
    row_ready c.requires c.loop-v.invariant c.loop-v-test.true (at + size - at) (omega arith)

pub loop-v-preserved : goal.loop-v-preserved
loop-v-preserved c =
    let size = 2 * c.args.n in
    let at = c.loop-v.v * size in
    rows_more c.requires c.loop-v.invariant c.loop-v-test.true (at + size - at) (omega arith) c.put_in_row.new.row c.put_in_row.ensures

pub returns : goal.returns
returns c = rows_all c.requires c.loop-v.invariant (omega arith)
