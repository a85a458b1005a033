-- `c_session::utvpi_session_add` meets its contract.
use mathlib.Core.Path.{sym, subst, ◌∙◌}
use mir.Syntax.{w64}
use Rattle.integers.proofs.Bits.{kept}
use Rattle.decide.specs.Places.{Below}
use Rattle.c_codes.specs.Codes.{refusal_unit}
use Rattle.c_session.specs.Laws.{add_below, add_returns}
use Rattle.c_session.proofs.utvpi_session_add.Goals as goal

pub decide_code-requires : goal.decide_code-requires
decide_code-requires c = subst (Below refusal_unit) (sym c.add.ensures.is) (add_below _ _ _)

pub returns : goal.returns
returns c = add_returns c.add.ensures _ (kept w64 c.decide_code.result c.decide_code.type_inv ∙ c.decide_code.ensures)
