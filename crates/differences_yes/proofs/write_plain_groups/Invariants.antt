-- What the loops of `differences_yes::write_plain_groups` keep.
use mathlib.Core.Path.{◌≡◌}
use Prim.Native.Nat.{◌*◌}
use Rattle.integers.specs.Fill.{filled}
use Rattle.theory_bounds.specs.Answers.{group_at_lem}
use Rattle.theory_differences.specs.Distances.{doubled}
use Rattle.decide_stored_table.specs.Table.{table_of}
use Rattle.differences_yes.proofs.write_plain_groups.Given as goal

-- The groups of the first x variables are written.
abbrev pub invariant-loop-x : goal.invariant-loop-x
invariant-loop-x l = l.groups ≡ filled (group_at_lem (doubled (table_of l.n l.table))) l.initial.groups (2 * l.x)
