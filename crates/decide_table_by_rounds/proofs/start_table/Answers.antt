-- `decide_table_by_rounds::start_table` meets its contract.
use Prim.Native.Nat.{◌+◌, ◌*◌, ◌-◌}
use native.Mathlib.Omega.{arith}
use Rattle.decide_table_by_rounds.specs.Start.{started_none, started_more}
use Rattle.decide_table_by_rounds.proofs.start_table.Goals as goal

pub loop-v-init : goal.loop-v-init
loop-v-init c = started_none c.args.size c.args.place c.args.work.now

pub loop-v-preserved : goal.loop-v-preserved
loop-v-preserved c =
    let size = c.args.size in
    let at = c.args.place + c.loop-v.v * size in
    started_more size c.args.place c.args.work.now c.requires c.loop-v.work c.loop-v.v c.loop-v.invariant c.loop-v-test.true (at + size - at) (omega arith) c.start_row.new.work c.start_row.ensures
