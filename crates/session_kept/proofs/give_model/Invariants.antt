-- What the loop of `session_kept::give_model` keeps: the first i values are written, and the rest is as it was.
use mathlib.Core.Path.{◌≡◌}
use Rattle.integers.specs.Fill.{filled}
use Rattle.session_kept.specs.Kept.{value_at}
use Rattle.session_kept.proofs.give_model.Given as goal

abbrev pub invariant-loop-i : goal.invariant-loop-i
invariant-loop-i l = l.model ≡ filled (value_at l.kept) l.initial.model l.i
