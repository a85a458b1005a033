-- `differences_start::start_table` meets its contract: far everywhere, then the diagonal, then the lines.
use native.Mathlib.Omega.{arith}
use Rattle.differences_start.specs.Start.{put_ready, started}
use Rattle.differences_start.proofs.start_table.Goals as goal

pub put_lines-requires : goal.put_lines-requires
put_lines-requires c =
    put_ready c.requires c.fill.ensures c.put_diagonal.ensures

pub returns : goal.returns
returns c = started c.requires c.fill.ensures c.put_diagonal.ensures c.put_lines.ensures (omega arith)
