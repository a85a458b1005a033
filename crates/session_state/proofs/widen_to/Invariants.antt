-- What the loop of `session_state::widen_to` keeps.
use mathlib.Core.Path.{◌≡◌}
use Rattle.integers.specs.Fill.{filled}
use Rattle.lines.specs.Line.{number}
use Rattle.session_state.proofs.widen_to.Given as goal

-- the first i numbers are copied, and the rest is as it was
abbrev pub invariant-loop-i : goal.invariant-loop-i
invariant-loop-i l = l.wide ≡ filled (number l.numbers) l.initial.wide l.i
