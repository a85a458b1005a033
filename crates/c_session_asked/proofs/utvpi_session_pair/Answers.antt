-- `c_session_asked::utvpi_session_pair` meets its contract.
use mathlib.Core.Path.{sym, ap, subst, ◌∙◌}
use Rattle.implied_pair.specs.Places.{Below}
use Rattle.c_codes.specs.Codes.{refusal_unit}
use Rattle.c_implied.specs.Calls.{pair_code_lem}
use Rattle.c_session_asked.specs.Laws.{pair_below}
use Rattle.c_session_asked.proofs.utvpi_session_pair.Goals as goal

pub pair_code-requires : goal.pair_code-requires
pair_code-requires c = subst (Below refusal_unit) (sym c.session_pair.ensures) (pair_below _ _ _)

pub returns : goal.returns
returns c = c.pair_code.ensures ∙ ap pair_code_lem c.session_pair.ensures
