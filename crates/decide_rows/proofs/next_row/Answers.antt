-- `decide_rows::next_row` meets its contract: the part with two rows is lent, comes back with the next row, and is then looked at.
use Prim.Native.Nat.{◌+◌, ◌*◌, ◌-◌}
use native.Mathlib.Omega.{arith}
use Rattle.decide_rows.specs.Next.{row_ready}
use Rattle.decide_rows.proofs.next_row.Goals as goal

pub relax_row-requires : goal.relax_row-requires
relax_row-requires c =
    row_ready c.args.n c.args.width c.args.list.now c.args.work.now c.args.from (c.args.from + 2 * (2 * c.args.n * c.args.width) - c.args.from) (omega arith) c.requires
