-- `c_implied_line::utvpi_implied_line` meets its contract: the place of a refusal is small.
use Rattle.c_implied_line.specs.Laws.{promised_below}
use Rattle.c_implied_line.proofs.utvpi_implied_line.Goals as goal

pub line_code-requires : goal.line_code-requires
line_code-requires c = promised_below c.implied_line.ensures
