-- `c_session::utvpi_session_start` meets its contract.
use mathlib.Core.Path.{sym, subst, ◌∙◌}
use mir.Syntax.{w64}
use Rattle.integers.proofs.Bits.{kept}
use Rattle.lines.specs.Places.{Placed}
use Rattle.c_codes.specs.Codes.{refusal_unit}
use Rattle.c_session.specs.Laws.{start_placed, start_returns}
use Rattle.c_session.proofs.utvpi_session_start.Goals as goal

pub done_code-requires : goal.done_code-requires
done_code-requires c = subst (Placed refusal_unit) (sym c.start.ensures.is) (start_placed _ _)

pub returns : goal.returns
returns c = start_returns c.start.ensures _ (kept w64 c.done_code.result c.done_code.type_inv ∙ c.done_code.ensures)
