-- `engine_settled_table::row_settled` meets its contract. The invariant: what the sum says of the columns gone through.
use mathlib.Core.Path.{◌≡◌, ap}
use mathlib.Core.List.{List}
use native.Mathlib.Omega.{arith}
use borrow.Author.Tests.{eqb-true}
use lib.IntN.{ℤ, ◌+ℤ◌, ◌-ℤ◌}
use mir.Syntax.{w64}
use mir.Val.{SFits, to_z, of_z}
use mir.Facts.{to_z-of_z}
use Rattle.lines.specs.Line.{number}
use Rattle.engine_reduced_table.specs.Reduced.{cell, NegativePart}
use Rattle.engine_settled_table.specs.Settled.{Summed, summed_start, reach_fits, above_fits, sum_fits, summed_more}
use Rattle.engine_settled_table.proofs.row_settled.Goals.{After-negative_part-less, After-old-1, After-reach-1}
use Rattle.engine_settled_table.proofs.row_settled.Goals as goal

pub loop-t-init : goal.loop-t-init
loop-t-init c = summed_start _ _ _ _ _ _

-- what was read of row u
module _ (c : After-reach-1) where
  abbrev w : List ℤ
  w = c.args.work.now

  abbrev y : ℤ
  y = number w (cell c.args.pot c.args.size c.args.u c.loop-t.t)

  abbrev x : ℤ
  x = number w (cell c.args.pot c.args.size c.args.s c.loop-t.t)

  r_is : to_z w64 (of_z w64 c.args.r) ≡ c.args.r
  r_is = to_z-of_z c.ranges.r

  y_is : to_z w64 (of_z w64 y) ≡ y
  y_is = to_z-of_z {w = w64} (record { sfits = c.reach-1.given })

  reach_is : to_z w64 (of_z w64 (to_z w64 (of_z w64 y) +ℤ to_z w64 (of_z w64 c.args.r))) ≡ y +ℤ c.args.r
  reach_is = rw (y_is, r_is) (to_z-of_z (reach_fits c.requires c.loop-t.t c.loop-t-test.true))

-- and of row s
module _ (c : After-old-1) where
  x_is : to_z w64 (of_z w64 (x (goal.at.After-old-1 c).After-reach-1)) ≡ x (goal.at.After-old-1 c).After-reach-1
  x_is = to_z-of_z {w = w64} (record { sfits = c.old-1.given })

  above : SFits w64 ((y (goal.at.After-old-1 c).After-reach-1 +ℤ c.args.r) -ℤ x (goal.at.After-old-1 c).After-reach-1)
  above = above_fits c.requires c.loop-t.t c.loop-t-test.true

module _ (c : After-negative_part-less) where
  abbrev less : ℤ
  less = c.negative_part-less.result

  less_is : to_z w64 (of_z w64 less) ≡ less
  less_is = to_z-of_z {w = w64} (record { sfits = c.negative_part-less.type_inv })

  part : NegativePart ((y (goal.at.After-negative_part-less c).After-reach-1 +ℤ c.args.r) -ℤ x (goal.at.After-negative_part-less c).After-reach-1) less
  part = rw (reach_is (goal.at.After-negative_part-less c).After-reach-1, x_is (goal.at.After-negative_part-less c).After-old-1, to_z-of_z (above (goal.at.After-negative_part-less c).After-old-1)) at c.negative_part-less.ensures

  so_far : Summed c.args.pot c.args.size c.args.s c.args.u c.args.r (w (goal.at.After-negative_part-less c).After-reach-1) c.loop-t.t (to_z w64 c.loop-t.sum-bits)
  so_far = rw (r_is (goal.at.After-negative_part-less c).After-reach-1) at c.loop-t.invariant

  fits : SFits w64 (to_z w64 c.loop-t.sum-bits +ℤ less)
  fits = sum_fits c.requires c.loop-t.t c.loop-t-test.true _ less so_far part

pub overflow_add-reach-in-loop-t : goal.overflow_add-reach-in-loop-t
overflow_add-reach-in-loop-t c = rw (y_is c, r_is c) (reach_fits c.requires c.loop-t.t c.loop-t-test.true)

pub overflow_sub-reach : goal.overflow_sub-reach
overflow_sub-reach c = rw (reach_is (goal.at.overflow_sub-reach c).After-reach-1, x_is c) (above c)

pub overflow_add-sum : goal.overflow_add-sum
overflow_add-sum c = rw (less_is c) (fits c)

pub loop-t-preserved : goal.loop-t-preserved
loop-t-preserved c =
    rw (less_is c, to_z-of_z (fits c), r_is (goal.at.loop-t-preserved c).After-reach-1) (summed_more c.requires c.loop-t.t c.loop-t-test.true _ (less c) (so_far c) (part c))

pub returns : goal.returns
returns c =
    let p : Summed c.args.pot c.args.size c.args.s c.args.u c.args.r c.args.work.now c.loop-t.t (to_z w64 c.loop-t.sum-bits) = rw (to_z-of_z c.ranges.r) at c.loop-t.invariant in
    record { all = λ e j h. p.settled (ap (to_z w64) (eqb-true c.loop-t.sum-bits 0 e)) j (omega (arith, h, c.loop-t-test.false)) }
