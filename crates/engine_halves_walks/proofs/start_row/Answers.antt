-- `engine_halves_walks::start_row` meets its contract: the row is far everywhere, and 0 at its source.
use Rattle.engine_halves_walks.specs.Between.{row_started}
use Rattle.engine_halves_walks.proofs.start_row.Goals as goal

pub returns : goal.returns
returns c =
    row_started c.requires.0 c.requires.1 c.fill.ensures c.fill-2.ensures
