-- `c_implied::utvpi_implied_pair` meets its contract: the place of a refusal is small.
use Rattle.c_implied.specs.Laws.{answer_below}
use Rattle.c_implied.proofs.utvpi_implied_pair.Goals as goal

pub pair_code-requires : goal.pair_code-requires
pair_code-requires c = answer_below _ _ _ _ _ _ _ c.implied_pair.ensures
