-- What the loop of `session_kept::give_bounds` keeps: the first i bounds are written.
use mathlib.Core.Path.{◌≡◌}
use Prim.Native.Nat.{◌*◌}
use Rattle.integers.specs.Fill.{filled}
use Rattle.theory_bounds.specs.Answers.{bound_at}
use Rattle.session_step.specs.Read.{small_table}
use Rattle.session_kept.proofs.give_bounds.Given as goal

abbrev pub invariant-loop-i : goal.invariant-loop-i
invariant-loop-i l = l.bounds ≡ filled (bound_at (small_table (2 * l.n) l.table)) l.initial.bounds l.i
