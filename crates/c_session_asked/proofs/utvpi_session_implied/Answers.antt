-- `c_session_asked::utvpi_session_implied` meets its contract.
use mathlib.Core.Path.{sym, ap, subst, ◌∙◌}
use mir.Syntax.{w64}
use Rattle.integers.proofs.Bits.{kept}
use Rattle.implied_line.specs.Places.{Below}
use Rattle.c_codes.specs.Codes.{refusal_unit}
use Rattle.c_implied_line.specs.Calls.{line_code_lem}
use Rattle.c_session_asked.specs.Laws.{line_below}
use Rattle.c_session_asked.proofs.utvpi_session_implied.Goals as goal

pub line_code-requires : goal.line_code-requires
line_code-requires c = subst (Below refusal_unit) (sym c.session_implied.ensures) (line_below _ _)

pub returns : goal.returns
returns c = kept w64 c.line_code.result c.line_code.type_inv ∙ c.line_code.ensures ∙ ap line_code_lem c.session_implied.ensures
