-- What the loops of `session_learn::points_stand` keep.
use mathlib.Core.Path.{◌≡◌}
use mathlib.Core.Bool.{true}
use Prim.Native.Nat.{◌*◌, ◌≤◌}
use Rattle.integers.specs.Table.{all_below}
use Rattle.theory_bounds.specs.Verdict.{halves_ok_lem}
use Rattle.theory_inserting.specs.Two.{insert_named}
use Rattle.session_step.specs.Read.{small_table}
use Rattle.session_learn.proofs.points_stand.Given as goal

-- `session_learn::points_stand` meets its contract. The invariant: the points before p pass.
abbrev pub invariant-loop-p : goal.invariant-loop-p
invariant-loop-p l = (l.p ≤ l.count) × (all_below l.p (halves_ok_lem (insert_named (insert_named (small_table (2 * l.n) l.table) l.x) l.y)) ≡ true)
