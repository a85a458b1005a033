-- `differences_closing::close` meets its contract: one variable after the other.
use Rattle.differences_closing.specs.Closed.{closed_more}
use Rattle.differences_closing.proofs.close.Goals as goal

pub loop-k-preserved : goal.loop-k-preserved
loop-k-preserved c =
    closed_more c.loop-k-test.true c.loop-k.invariant c.through.ensures
