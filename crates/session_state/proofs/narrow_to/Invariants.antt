-- What the loop of `session_state::narrow_to` keeps.
use mathlib.Core.Path.{◌≡◌}
use Rattle.integers.specs.Fill.{filled}
use Rattle.lines.specs.Line.{number}
use Rattle.session_state.proofs.narrow_to.Given as goal

-- the first i numbers are copied, and the rest is as it was
abbrev pub invariant-loop-i : goal.invariant-loop-i
invariant-loop-i l = l.list ≡ filled (number l.numbers) l.initial.list l.i
