-- `engine_reduced_start::write_points` meets its contract.
use mathlib.Core.Path.{◌≡◌, refl, subst}
use Prim.Native.Nat.{ℕ, ◌+◌, ◌*◌}
use native.Mathlib.Omega.{arith}
use lib.IntN.{ℤ, ◌-ℤ◌}
use lib.ListN.{length-set}
use mir.Syntax.{w64}
use mir.Val.{SFits, to_z, of_z}
use mir.Facts.{to_z-of_z}
use Rattle.integers.specs.Integer.{Within}
use Rattle.engine_reduced_table.specs.Reduced.{max_potential}
use Rattle.engine_reduced_start.specs.Start.{Pointed, pointed_start, pointed_more, difference_fits, difference_small, negative_fits}
use borrow.Author.Rules.{rules}
use Rattle.engine_reduced_start.proofs.write_points.Goals.{After-not_large-other}
use Rattle.engine_reduced_start.proofs.write_points.Goals as goal

-- the two numbers that were read
module _ (c : After-not_large-other) where
  abbrev x : ℤ
  x = c.not_large-own.result

  abbrev y : ℤ
  y = c.not_large-other.result

  x_is : to_z w64 (of_z w64 x) ≡ x
  x_is = to_z-of_z {w = w64} (record { sfits = c.not_large-own.type_inv })

  y_is : to_z w64 (of_z w64 y) ≡ y
  y_is = to_z-of_z {w = w64} (record { sfits = c.not_large-other.type_inv })

  fits : SFits w64 (x -ℤ y)
  fits = difference_fits x y c.not_large-own.ensures c.not_large-other.ensures

  d_is : to_z w64 (of_z w64 (x -ℤ y)) ≡ x -ℤ y
  d_is = to_z-of_z fits

  small : Within max_potential (x -ℤ y)
  small = difference_small x y c.not_large-own.ensures c.not_large-other.ensures

pub loop-place-init : goal.loop-place-init
loop-place-init c = (refl, pointed_start c.args.pot c.args.size c.args.work.now, c.requires.even)

pub variable_at-x-requires : goal.variable_at-x-requires
variable_at-x-requires c = (omega (arith, c.loop-place.invariant.0, c.requires.order_room), c.loop-place-test.true)

pub slice_copy_out-not_large-in-loop-place : goal.slice_copy_out-not_large-in-loop-place
slice_copy_out-not_large-in-loop-place c =
    omega (arith, c.loop-place.invariant.0, c.loop-place.invariant.2, c.variable_at-x.ensures, c.requires.row_room)

pub overflow_sub-number : goal.overflow_sub-number
overflow_sub-number c = rw (x_is c, y_is c) (fits c)

pub overflow_sub-work : goal.overflow_sub-work
overflow_sub-work c = rw (x_is c, y_is c, d_is c) (negative_fits _ (small c))

pub bounds-work-pot-in-loop-place : goal.bounds-work-pot-in-loop-place
bounds-work-pot-in-loop-place c =
    simp length-set (omega (arith, c.loop-place.invariant.0, c.loop-place.invariant.1.even, c.loop-place.invariant.2, c.loop-place-test.true, c.requires.room))

pub loop-place-preserved : goal.loop-place-preserved
loop-place-preserved c =
    let next : 2 * (c.loop-place.place + 1) ≡ 2 * c.loop-place.place + 2 = omega arith in (
      search rules,
      rw (next, x_is c, y_is c, d_is c, to_z-of_z (negative_fits _ (small c)))
          (pointed_more c.args.pot c.args.size c.args.work.now c.loop-place.work (2 * c.loop-place.place) c.loop-place.invariant.1 c.loop-place.invariant.2 (omega (arith, c.requires.room, c.loop-place.invariant.0)) (omega (arith, c.loop-place-test.true)) (x c -ℤ y c) (small c)),
      c.loop-place.invariant.2,
    )

pub returns : goal.returns
returns c =
    subst (λ (k : ℕ). Pointed c.args.pot c.args.size c.args.work.now c.loop-place.work k) (omega (arith, c.loop-place.invariant.1.at_most, c.loop-place-test.false, c.loop-place.invariant.2)) c.loop-place.invariant.1
