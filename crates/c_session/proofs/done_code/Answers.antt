-- `c_session::done_code` meets its contract.
use mathlib.Core.Path.{sym, ap, subst, ◌∙◌}
use mir.Syntax.{w64}
use Rattle.integers.proofs.Bits.{kept}
use Rattle.lines.specs.Places.{Placed, place_at}
use Rattle.c_codes.specs.Codes.{refusal_unit}
use Rattle.c_session.specs.Calls.{done_code_lem}
use Rattle.c_session.proofs.done_code.Goals as goal

pub refusal_code-requires : goal.refusal_code-requires
refusal_code-requires c = place_at (subst (Placed refusal_unit) c.in-Err.is c.requires)

pub returns-in-Ok : goal.returns-in-Ok
returns-in-Ok c = ap done_code_lem (sym c.in-Ok.is)

pub returns-in-Err : goal.returns-in-Err
returns-in-Err c = kept w64 c.refusal_code.result c.refusal_code.type_inv ∙ c.refusal_code.ensures ∙ ap done_code_lem (sym c.in-Err.is)
