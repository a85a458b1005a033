-- What the loop of `session_kept::read_values` keeps: the first i values are copied, and the rest is as it was.
use mathlib.Core.Path.{◌≡◌}
use Rattle.integers.specs.Fill.{filled}
use Rattle.session_kept.specs.Kept.{value_at}
use Rattle.session_kept.proofs.read_values.Given as goal

abbrev pub invariant-loop-i : goal.invariant-loop-i
invariant-loop-i l = l.values ≡ filled (value_at l.kept) l.initial.values l.i
