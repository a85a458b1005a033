-- What the loops of `decide_bounds_groups::write_bounds` keep.
use mathlib.Core.Path.{◌≡◌}
use Prim.Native.Nat.{◌*◌}
use Rattle.theory_bounds.specs.Answers.{bound_at}
use Rattle.decide_stored_table.specs.Table.{table_of}
use Rattle.integers.specs.Fill.{filled}
use Rattle.decide_bounds_groups.proofs.write_bounds.Given as goal

-- The first i bounds are written.
abbrev pub invariant-loop-i : goal.invariant-loop-i
invariant-loop-i l = l.bounds ≡ filled (bound_at (table_of (2 * l.n) l.table)) l.initial.bounds l.i
