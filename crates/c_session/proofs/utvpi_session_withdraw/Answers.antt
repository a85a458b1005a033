-- `c_session::utvpi_session_withdraw` meets its contract.
use mathlib.Core.Path.{sym, subst, ◌∙◌}
use mir.Syntax.{w64}
use Rattle.integers.proofs.Bits.{kept}
use Rattle.lines.specs.Places.{Placed}
use Rattle.c_codes.specs.Codes.{refusal_unit}
use Rattle.c_session.specs.Laws.{withdraw_placed, withdraw_returns}
use Rattle.c_session.proofs.utvpi_session_withdraw.Goals as goal

pub done_code-requires : goal.done_code-requires
done_code-requires c = subst (Placed refusal_unit) (sym c.withdraw.ensures.is) (withdraw_placed _)

pub returns : goal.returns
returns c = withdraw_returns c.withdraw.ensures _ (kept w64 c.done_code.result c.done_code.type_inv ∙ c.done_code.ensures)
