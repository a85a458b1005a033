-- `differences_closing::through_rows` meets its contract: one row after the other.
use native.Mathlib.Omega.{arith}
use Rattle.differences_closing.specs.Closed.{rows_more}
use Rattle.differences_closing.proofs.through_rows.Goals as goal

pub loop-v-preserved : goal.loop-v-preserved
loop-v-preserved c =
    rows_more c.requires.k_lt c.loop-v.invariant (omega (arith, c.loop-v-test.true, c.requires.end_le)) c.through_row.ensures
