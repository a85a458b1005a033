-- `engine_reduced_table::lower` meets its contract: each number stored is an entry.
use mathlib.Core.Path.{◌≡◌}
use lib.IntN.{ℤ, ◌+ℤ◌, ◌-ℤ◌}
use mir.Syntax.{w64}
use mir.Val.{SFits, to_z, of_z}
use mir.Facts.{to_z-of_z}
use Rattle.lines.specs.Line.{number}
use Rattle.engine_reduced_table.specs.Reduced.{cell, NegativePart, Least, entry_sum_fits, less_fits, least_by, least_fits, lower_one}
use borrow.Author.Rules.{rules}
use Rattle.engine_reduced_table.proofs.lower.Goals.{After-negative_part-less, After-old-1, After-sum-1}
use Rattle.engine_reduced_table.proofs.lower.Goals as goal

-- the number of row k, and the sum
module _ (c : After-sum-1) where
  abbrev entry : ℤ
  entry = number c.loop-t.work (cell c.args.pot c.args.size c.args.k c.loop-t.t)

  read : to_z w64 (of_z w64 entry) ≡ entry
  read = to_z-of_z {w = w64} (record { sfits = c.sum-1.given })

  fits : SFits w64 (entry +ℤ c.args.a)
  fits = entry_sum_fits (c.loop-t.invariant.1.reduced.entry c.args.k c.loop-t.t c.requires.ask.k_lt c.loop-t-test.true) c.requires.by

  sum_is : to_z w64 (of_z w64 (to_z w64 (of_z w64 entry) +ℤ to_z w64 (of_z w64 c.args.a))) ≡ entry +ℤ c.args.a
  sum_is = rw (read, to_z-of_z c.ranges.a) (to_z-of_z fits)

-- the number of row i
module _ (c : After-old-1) where
  abbrev old : ℤ
  old = number c.loop-t.work (cell c.args.pot c.args.size c.args.i c.loop-t.t)

  old_fits : SFits w64 old
  old_fits = record { sfits = c.old-1.given }

  old_is : to_z w64 (of_z w64 old) ≡ old
  old_is = to_z-of_z old_fits

  difference : SFits w64 ((entry (goal.at.After-old-1 c).After-sum-1 +ℤ c.args.a) -ℤ old)
  difference =
      let r = c.loop-t.invariant.1.reduced in
      let h = c.loop-t-test.true in
      less_fits (r.entry c.args.i c.loop-t.t c.requires.ask.i_lt h) (r.entry c.args.k c.loop-t.t c.requires.ask.k_lt h) c.requires.by

-- what is stored
module _ (c : After-negative_part-less) where
  abbrev less : ℤ
  less = c.negative_part-less.result

  less_is : to_z w64 (of_z w64 less) ≡ less
  less_is = to_z-of_z {w = w64} (record { sfits = c.negative_part-less.type_inv })

  part : NegativePart ((entry (goal.at.After-negative_part-less c).After-sum-1 +ℤ c.args.a) -ℤ old (goal.at.After-negative_part-less c).After-old-1) less
  part = rw (sum_is (goal.at.After-negative_part-less c).After-sum-1, old_is (goal.at.After-negative_part-less c).After-old-1, to_z-of_z (difference (goal.at.After-negative_part-less c).After-old-1)) at c.negative_part-less.ensures

  smaller : Least (old (goal.at.After-negative_part-less c).After-old-1) (entry (goal.at.After-negative_part-less c).After-sum-1 +ℤ c.args.a) (old (goal.at.After-negative_part-less c).After-old-1 +ℤ less)
  smaller = least_by (old (goal.at.After-negative_part-less c).After-old-1) (entry (goal.at.After-negative_part-less c).After-sum-1 +ℤ c.args.a) less part

  smaller_fits : SFits w64 (old (goal.at.After-negative_part-less c).After-old-1 +ℤ less)
  smaller_fits = least_fits (old_fits (goal.at.After-negative_part-less c).After-old-1) (fits (goal.at.After-negative_part-less c).After-sum-1) smaller

pub overflow_add-sum-in-loop-t : goal.overflow_add-sum-in-loop-t
overflow_add-sum-in-loop-t c = rw (read c, to_z-of_z c.ranges.a) (fits c)

pub overflow_sub-sum : goal.overflow_sub-sum
overflow_sub-sum c = rw (sum_is (goal.at.overflow_sub-sum c).After-sum-1, old_is c) (difference c)

pub overflow_add-work : goal.overflow_add-work
overflow_add-work c = rw (old_is (goal.at.overflow_add-work c).After-old-1, less_is c) (smaller_fits c)

pub loop-t-preserved : goal.loop-t-preserved
loop-t-preserved c = (
  search rules,
  rw (old_is (goal.at.loop-t-preserved c).After-old-1, less_is c, to_z-of_z (smaller_fits c))
      (lower_one c.requires.ask.reduced c.loop-t.invariant.1 c.args.i c.args.k c.loop-t.t c.requires.ask.i_lt c.requires.ask.k_lt c.loop-t-test.true c.args.a (old (goal.at.loop-t-preserved c).After-old-1 +ℤ less c) c.requires.by (smaller c)),
)
