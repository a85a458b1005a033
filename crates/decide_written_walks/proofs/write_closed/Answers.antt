-- `decide_written_walks::write_closed` meets its contract: the walk is written behind the head, then the head.
use Rattle.decide_written_walks.specs.Refutation.{closed_written}
use Rattle.decide_written_walks.proofs.write_closed.Goals as goal

pub returns : goal.returns
returns c =
    closed_written _ _ _ _ _ c.requires _ _ _ c.write_walk-count.ensures _ c.write_head.ensures
