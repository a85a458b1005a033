-- `decide_bounds_groups::write_groups` meets its contract.
use mathlib.Core.Path.{ap, ◌∙◌}
use mathlib.Core.List.{List}
use Prim.Native.Nat.{ℕ, ◌+◌, ◌*◌, ◌/◌, ◌%◌, ◌≤◌}
use native.Mathlib.Omega.{arith}
use borrow.Author.Rules.{rules}
use lib.ListN.{set}
use Rattle.theory_bounds.specs.Tight.{Table}
use Rattle.theory_bounds.specs.Answers.{same_points_lem}
use Rattle.decide_stored_table.specs.Table.{by_rows}
use Rattle.integers.specs.Lowest.{lowest_at_most}
use Rattle.decide_bounds_groups.specs.Grouping.{pair_filled}
use Rattle.decide_bounds_groups.proofs.write_groups.Goals.{After-group_point-p, Start}
use Rattle.decide_bounds_groups.proofs.write_groups.Goals as goal

abbrev D : Start → Table
D s = by_rows (2 * s.args.n) s.args.table.now

-- a point is no higher than the variable's own, so that it is small
small : (c : After-group_point-p) → c.group_point-p.result ≤ 2 * c.loop-x.x
small c =
    rw c.group_point-p.ensures (lowest_at_most (same_points_lem (D (goal.at.After-group_point-p c).Start) (2 * c.loop-x.x)) (2 * c.loop-x.x))

pub overflow_cast-groups : goal.overflow_cast-groups
overflow_cast-groups c = let h = small c in search rules

pub loop-x-preserved : goal.loop-x-preserved
loop-x-preserved c =
    let x = c.loop-x.x in
    let p = c.group_point-p.result in
    ap (λ (g : List ℕ). set (set g (2 * x) (p / 2)) (2 * x + 1) (p % 2)) c.loop-x.invariant
    ∙ pair_filled (D (goal.at.loop-x-preserved c).Start) c.args.groups.now x p (omega arith) c.group_point-p.ensures
