-- `differences_closing::lower_row` meets its contract: the sums fit, since entries are small, and what is stored is the smaller of an entry and a sum.
use mathlib.Core.Path.{◌≡◌}
use Prim.Native.Nat.{ℕ, ◌<◌}
use native.Mathlib.Omega.{arith}
use lib.IntN.{ℤ, ◌+ℤ◌, ◌-ℤ◌}
use mir.Syntax.{w64}
use mir.Val.{SFits, to_z, of_z}
use mir.Facts.{to_z-of_z}
use Rattle.engine_reduced_table.specs.Reduced.{NegativePart, Least, least_by, least_fits}
use Rattle.differences_closing.specs.Entries.{entry_in, sum_fits, less_fits}
use Rattle.differences_closing.specs.Closed.{Lowering, part_under, by_low, by_high, lowering_more, lowering_end}
use Rattle.differences_closing.proofs.lower_row.Goals.{After-negative_part-less, After-old-1, After-sum-1, Start}
use Rattle.differences_closing.proofs.lower_row.Goals as goal

-- the numbers before the loop
module _ (s : Start) where
  abbrev a : ℤ
  a = s.args.a

  a_is : to_z w64 (of_z w64 a) ≡ a
  a_is = to_z-of_z s.ranges.a

-- the entry of the other row, and the sum
module _ (c : After-sum-1) where
  abbrev n : ℕ
  n = c.args.n

  abbrev u : ℕ
  u = c.loop-u.u

  inside : u < n
  inside = c.loop-u-test.true

  lowering : Lowering n c.args.to c.args.by c.args.a c.args.table.now c.loop-u.table u
  lowering = rw (a_is (goal.at.After-sum-1 c).Start) at c.loop-u.invariant

  abbrev entry : ℤ
  entry = entry_in n c.loop-u.table u c.args.by

  read : to_z w64 (of_z w64 entry) ≡ entry
  read = to_z-of_z {w = w64} (record { sfits = c.sum-1.given })

  fits : SFits w64 (entry +ℤ c.args.a)
  fits =
      let r = lowering.lowered.ranged in
      sum_fits entry c.args.a (r.low u c.args.by inside c.requires.by_lt) (r.high u c.args.by inside c.requires.by_lt) (by_low c.requires) (by_high c.requires)

  sum_is : to_z w64 (of_z w64 (to_z w64 (of_z w64 entry) +ℤ to_z w64 (of_z w64 c.args.a))) ≡ entry +ℤ c.args.a
  sum_is = rw (read, a_is (goal.at.After-sum-1 c).Start) (to_z-of_z fits)

-- the entry of the row itself
module _ (c : After-old-1) where
  abbrev old : ℤ
  old = entry_in c.args.n c.loop-u.table c.loop-u.u c.args.to

  old_fits : SFits w64 old
  old_fits = record { sfits = c.old-1.given }

  old_is : to_z w64 (of_z w64 old) ≡ old
  old_is = to_z-of_z old_fits

  difference : SFits w64 ((entry (goal.at.After-old-1 c).After-sum-1 +ℤ c.args.a) -ℤ old)
  difference =
      let after_sum = (goal.at.After-old-1 c).After-sum-1 in
      let r = (lowering after_sum).lowered.ranged in
      let p = c.requires in
      less_fits (entry after_sum) c.args.a old (r.low c.loop-u.u c.args.by (inside after_sum) p.by_lt) (r.high c.loop-u.u c.args.by (inside after_sum) p.by_lt) (by_low p) (by_high p)
      (r.low c.loop-u.u c.args.to (inside after_sum) p.to_lt) (r.high c.loop-u.u c.args.to (inside after_sum) p.to_lt)

-- what is stored
module _ (c : After-negative_part-less) where
  abbrev less : ℤ
  less = c.negative_part-less.result

  less_is : to_z w64 (of_z w64 less) ≡ less
  less_is = to_z-of_z {w = w64} (record { sfits = c.negative_part-less.type_inv })

  part : NegativePart ((entry (goal.at.After-negative_part-less c).After-sum-1 +ℤ c.args.a) -ℤ old (goal.at.After-negative_part-less c).After-old-1) less
  part =
      let after_old = (goal.at.After-negative_part-less c).After-old-1 in
      rw (sum_is (goal.at.After-negative_part-less c).After-sum-1, old_is after_old, to_z-of_z (difference after_old)) at c.negative_part-less.ensures

  smaller : Least (old (goal.at.After-negative_part-less c).After-old-1) (entry (goal.at.After-negative_part-less c).After-sum-1 +ℤ c.args.a) (old (goal.at.After-negative_part-less c).After-old-1 +ℤ less)
  smaller = least_by (old (goal.at.After-negative_part-less c).After-old-1) (entry (goal.at.After-negative_part-less c).After-sum-1 +ℤ c.args.a) less part

  smaller_fits : SFits w64 (old (goal.at.After-negative_part-less c).After-old-1 +ℤ less)
  smaller_fits = least_fits (old_fits (goal.at.After-negative_part-less c).After-old-1) (fits (goal.at.After-negative_part-less c).After-sum-1) smaller

pub overflow_add-sum-in-loop-u : goal.overflow_add-sum-in-loop-u
overflow_add-sum-in-loop-u c = rw (read c, a_is (goal.at.overflow_add-sum-in-loop-u c).Start) (fits c)

pub overflow_sub-sum : goal.overflow_sub-sum
overflow_sub-sum c = rw (sum_is (goal.at.overflow_sub-sum c).After-sum-1, old_is c) (difference c)

pub overflow_add-table : goal.overflow_add-table
overflow_add-table c = rw (old_is (goal.at.overflow_add-table c).After-old-1, less_is c) (smaller_fits c)

pub loop-u-preserved : goal.loop-u-preserved
loop-u-preserved c =
    let start = (goal.at.loop-u-preserved c).Start in
    let after_old = (goal.at.loop-u-preserved c).After-old-1 in
    let after_sum = (goal.at.loop-u-preserved c).After-sum-1 in
    rw (a_is start, old_is after_old, less_is c, to_z-of_z (smaller_fits c))
    (lowering_more c.requires (lowering after_sum) (inside after_sum) (old after_old +ℤ less c) (smaller c) (part_under (old after_old) (entry after_sum +ℤ c.args.a) (less c) (part c)))

pub returns : goal.returns
returns c =
    lowering_end (omega (arith, c.loop-u-test.false)) (rw (a_is (goal.at.returns c).Start) at c.loop-u.invariant)
