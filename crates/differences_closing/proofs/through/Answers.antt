-- `differences_closing::through` meets its contract: the rows before k, and those behind it.
use Rattle.differences_closing.specs.Closed.{all_through}
use Rattle.differences_closing.proofs.through.Goals as goal

pub returns : goal.returns
returns c =
    all_through c.requires.0 c.requires.1 c.through_rows.ensures c.through_rows-2.ensures
