-- `decide_rows::relax_at` meets its contract: the sum fits, and each of the three ways leaves the smaller of entry and sum.
use mathlib.Core.Path.{◌≡◌, sym, ap, ◌∙◌}
use mathlib.Core.List.{List}
use Prim.Native.Nat.{◌+◌}
use lib.IntN.{ℤ, ◌+ℤ◌}
use mir.Syntax.{w64}
use mir.Val.{SFits, to_z, of_z}
use mir.Facts.{to_z-of_z}
use Rattle.integers.specs.Integer.{Within}
use Rattle.integers.proofs.Halving.{test_yes, test_no}
use Rattle.lines.specs.Line.{number}
use Rattle.decide_rows.specs.Read.{no_walk_lem, max_distance, sum_fits}
use Rattle.decide_rows.specs.Relax.{none_way, less_way, more_way, entry_small}
use Rattle.decide_rows.proofs.relax_at.Goals.{After-distance-1, Else-distance-eq-NO_WALK}
use Rattle.decide_rows.proofs.relax_at.Goals as goal

-- the entry of the step's start
module _ (c : After-distance-1) where
  abbrev rows : List ℤ
  rows = c.args.rows.now

  abbrev entry : ℤ
  entry = number rows c.args.from

  read : to_z w64 (of_z w64 entry) ≡ entry
  read = to_z-of_z {w = w64} (record { sfits = c.distance-1.given })

-- where it is a number: the sum
module _ (c : Else-distance-eq-NO_WALK) where
  walk : entry (goal.at.Else-distance-eq-NO_WALK c).After-distance-1 ≡ no_walk_lem → ⊥
  walk e = c.if-distance-eq-NO_WALK.false (ap (of_z w64) e)

  small : Within max_distance (entry (goal.at.Else-distance-eq-NO_WALK c).After-distance-1)
  small = entry_small (rows (goal.at.Else-distance-eq-NO_WALK c).After-distance-1) c.args.from c.requires.4 walk

  fits : SFits w64 (entry (goal.at.Else-distance-eq-NO_WALK c).After-distance-1 +ℤ c.args.weight)
  fits = sum_fits _ _ small c.requires.3

  sum_is : to_z w64 (of_z w64 (to_z w64 (of_z w64 (entry (goal.at.Else-distance-eq-NO_WALK c).After-distance-1)) +ℤ to_z w64 (of_z w64 c.args.weight))) ≡ entry (goal.at.Else-distance-eq-NO_WALK c).After-distance-1 +ℤ c.args.weight
  sum_is = rw (read (goal.at.Else-distance-eq-NO_WALK c).After-distance-1, to_z-of_z c.ranges.weight) (to_z-of_z fits)

pub returns-then-distance-eq-NO_WALK : goal.returns-then-distance-eq-NO_WALK
returns-then-distance-eq-NO_WALK c = none_way _ _ _ _ _ (sym (read (goal.at.returns-then-distance-eq-NO_WALK c).After-distance-1) ∙ ap (to_z w64) c.if-distance-eq-NO_WALK.true)

pub overflow_add-sum : goal.overflow_add-sum
overflow_add-sum c = rw (read (goal.at.overflow_add-sum c).After-distance-1, to_z-of_z c.ranges.weight) (fits c)

pub returns-then-sum-entry : goal.returns-then-sum-entry
returns-then-sum-entry c =
    let z = to_z-of_z {w = w64} {z = number (rows (goal.at.returns-then-sum-entry c).After-distance-1) (c.args.size + c.args.to)} (record { sfits = c.entry-1.given }) in
    rw (sum_is (goal.at.returns-then-sum-entry c).Else-distance-eq-NO_WALK) (less_way (rows (goal.at.returns-then-sum-entry c).After-distance-1) c.args.size c.args.from c.args.to c.args.weight (walk (goal.at.returns-then-sum-entry c).Else-distance-eq-NO_WALK) (test_yes _ _ (rw (sum_is (goal.at.returns-then-sum-entry c).Else-distance-eq-NO_WALK, z) at c.if-sum-entry.true)))

pub returns-else-sum-entry : goal.returns-else-sum-entry
returns-else-sum-entry c =
    let z = to_z-of_z {w = w64} {z = number (rows (goal.at.returns-else-sum-entry c).After-distance-1) (c.args.size + c.args.to)} (record { sfits = c.entry-1.given }) in
    more_way (rows (goal.at.returns-else-sum-entry c).After-distance-1) c.args.size c.args.from c.args.to c.args.weight (walk (goal.at.returns-else-sum-entry c).Else-distance-eq-NO_WALK) (small (goal.at.returns-else-sum-entry c).Else-distance-eq-NO_WALK) c.requires.3 (test_no _ _ (rw (sum_is (goal.at.returns-else-sum-entry c).Else-distance-eq-NO_WALK, z) at c.if-sum-entry.false))
