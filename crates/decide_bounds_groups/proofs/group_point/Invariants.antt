-- What the loops of `decide_bounds_groups::group_point` keep.
use Prim.Native.Nat.{◌*◌}
use Rattle.theory_bounds.specs.Answers.{same_points_lem}
use Rattle.decide_stored_table.specs.Table.{by_rows}
use Rattle.integers.specs.Lowest.{Searched}
use Rattle.decide_bounds_groups.proofs.group_point.Given as goal

-- No point before p is found.
abbrev pub invariant-loop-p : goal.invariant-loop-p
invariant-loop-p l = Searched (same_points_lem (by_rows (2 * l.n) l.table) (2 * l.x)) (2 * l.x) l.p
