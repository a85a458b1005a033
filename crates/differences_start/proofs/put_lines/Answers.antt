-- `differences_start::put_lines` meets its contract: the entry of one line after the other is put.
use Rattle.differences_start.specs.Start.{lines_more}
use Rattle.differences_start.proofs.put_lines.Goals as goal

pub loop-k-preserved : goal.loop-k-preserved
loop-k-preserved c = lines_more c.loop-k.invariant c.loop-k-test.true c.put_line.ensures
