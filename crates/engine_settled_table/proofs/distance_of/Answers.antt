-- `engine_settled_table::distance_of` meets its contract.
use mathlib.Core.Path.{◌≡◌, sym, ap, ◌∙◌}
use lib.IntN.{◌+ℤ◌, ◌-ℤ◌}
use mir.Syntax.{w64}
use mir.Val.{SFits, to_z, of_z}
use mir.Facts.{to_z-of_z}
use Rattle.integers.specs.Integer.{half}
use Rattle.decide_rows.specs.Stored.{stored}
use Rattle.engine_settled_table.specs.Out.{plus_fits, less_fits, out_near, out_far}
use Rattle.engine_settled_table.proofs.distance_of.Goals.{Then-z-lt-FAR}
use Rattle.engine_settled_table.proofs.distance_of.Goals as goal

-- the numbers, where there is a walk
module _ (c : Then-z-lt-FAR) where
  z_is : to_z w64 (of_z w64 c.args.z) ≡ c.args.z
  z_is = to_z-of_z c.ranges.z

  own_is : to_z w64 (of_z w64 c.args.own) ≡ c.args.own
  own_is = to_z-of_z c.ranges.own

  other_is : to_z w64 (of_z w64 c.args.other) ≡ c.args.other
  other_is = to_z-of_z c.ranges.other

  first : SFits w64 (c.args.z +ℤ c.args.other)
  first = plus_fits _ _ c.requires.low c.requires.high c.requires.other_small

  second : SFits w64 ((c.args.z +ℤ c.args.other) -ℤ c.args.own)
  second = less_fits _ _ _ c.requires.low c.requires.high c.requires.own_small c.requires.other_small

pub overflow_add-z : goal.overflow_add-z
overflow_add-z c = rw (z_is c, other_is c) (first c)

pub overflow_sub-z : goal.overflow_sub-z
overflow_sub-z c = rw (z_is c, other_is c, to_z-of_z (first c), own_is c) (second c)

pub returns-then-z-lt-FAR : goal.returns-then-z-lt-FAR
returns-then-z-lt-FAR c =
    let e : c.halved.result ≡ half ((c.args.z +ℤ c.args.other) -ℤ c.args.own) = rw (z_is (goal.at.returns-then-z-lt-FAR c).Then-z-lt-FAR, other_is (goal.at.returns-then-z-lt-FAR c).Then-z-lt-FAR, to_z-of_z (first (goal.at.returns-then-z-lt-FAR c).Then-z-lt-FAR), own_is (goal.at.returns-then-z-lt-FAR c).Then-z-lt-FAR, to_z-of_z (second (goal.at.returns-then-z-lt-FAR c).Then-z-lt-FAR)) at c.halved.ensures in
    to_z-of_z {w = w64} (record { sfits = c.halved.type_inv }) ∙ e ∙ ap stored (sym (out_near _ _ _ (rw (z_is (goal.at.returns-then-z-lt-FAR c).Then-z-lt-FAR) at c.if-z-lt-FAR.true)))

pub returns : goal.returns
returns c =
    ap stored (sym (out_far c.args.own c.args.other c.args.z (rw (to_z-of_z c.ranges.z) at c.if-z-lt-FAR.false)))
