-- What the loops of `session_step::put_in_rows` keep.
use Prim.Native.Nat.{◌*◌}
use Rattle.session_step.specs.Rows.{Rows}
use Rattle.session_step.proofs.put_in_rows.Given as goal

-- The rows 0 to v - 1 have the step.
abbrev pub invariant-loop-v : goal.invariant-loop-v
invariant-loop-v l = Rows (2 * l.n) l.step l.initial.table l.table l.v
