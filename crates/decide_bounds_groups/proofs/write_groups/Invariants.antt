-- What the loops of `decide_bounds_groups::write_groups` keep.
use mathlib.Core.Path.{◌≡◌}
use Prim.Native.Nat.{◌*◌}
use Rattle.theory_bounds.specs.Answers.{group_at_lem}
use Rattle.decide_stored_table.specs.Table.{by_rows}
use Rattle.integers.specs.Fill.{filled}
use Rattle.decide_bounds_groups.proofs.write_groups.Given as goal

-- The groups of the first x variables are written.
abbrev pub invariant-loop-x : goal.invariant-loop-x
invariant-loop-x l = l.groups ≡ filled (group_at_lem (by_rows (2 * l.n) l.table)) l.initial.groups (2 * l.x)
