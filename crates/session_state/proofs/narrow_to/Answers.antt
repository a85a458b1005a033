-- `session_state::narrow_to` meets its contract.
use mathlib.Core.Path.{◌∙◌}
use native.Mathlib.Omega.{arith}
use Rattle.longer_list.specs.Written.{filled_all}
use Rattle.session_state.proofs.narrow_to.Goals as goal

pub returns : goal.returns
returns c = c.loop-i.invariant ∙ filled_all c.args.numbers.now c.args.list.now c.loop-i.i (omega arith)
