-- `decide_model::limit_step` meets its contract.
use mathlib.Core.Path.{◌≡◌, ap, ap₂, ◌∙◌}
use Prim.Native.Nat.{ℕ, ◌*◌}
use native.Mathlib.Omega.{arith}
use lib.IntN.{ℤ, pos, neg_ℤ, ◌-ℤ◌}
use mir.Syntax.{w64}
use mir.Val.{SFits, to_z, of_z}
use mir.Facts.{to_z-of_z}
use Rattle.integers.proofs.Bits.{kept}
use Rattle.steps.specs.Point.{point}
use Rattle.theory_walks.specs.Distance.{Distance, some, min_d, ◌⊞◌}
use Rattle.theory_walks.specs.Size.{within_more}
use Rattle.decide_rows.specs.Stored.{stored}
use Rattle.decide_rows.specs.Read.{distance_of}
use Rattle.decide_stored_table.specs.Sum.{minus_is}
use Rattle.decide_stored_table.specs.Table.{by_rows, rows_short}
use Rattle.decide_model.specs.Limit.{max_model, by_value, plus_point, minus_fits, minus_within, step_back}
use Rattle.decide_model.proofs.limit_step.Goals.{Start}
use Rattle.decide_model.proofs.limit_step.Goals as goal

-- the value and its opposite, as the code passes them on
module _ (s : Start) where
  abbrev v : ℤ
  v = s.args.value

  value_is : to_z w64 (of_z w64 v) ≡ v
  value_is = to_z-of_z s.ranges.value

  opposite_fits : SFits w64 (neg_ℤ v)
  opposite_fits = minus_fits v (within_more (omega arith) s.requires.3)

  opposite_is : to_z w64 (of_z w64 (pos 0 -ℤ to_z w64 (of_z w64 v))) ≡ neg_ℤ v
  opposite_is = ap (λ (z : ℤ). to_z w64 (of_z w64 (pos 0 -ℤ z))) value_is ∙ ap (λ (z : ℤ). to_z w64 (of_z w64 z)) (minus_is v) ∙ to_z-of_z opposite_fits

pub limit_by-plus-requires : goal.limit_by-plus-requires
limit_by-plus-requires c = (c.requires.0, c.requires.1, omega (arith, c.requires.2), rw (value_is c) c.requires.3)

pub overflow_sub-value : goal.overflow_sub-value
overflow_sub-value c =
    rw (value_is (goal.at.overflow_sub-value c).Start, minus_is) (opposite_fits (goal.at.overflow_sub-value c).Start)

pub limit_by-minus-requires : goal.limit_by-minus-requires
limit_by-minus-requires c =
    (c.requires.0, c.requires.1, omega (arith, c.requires.2), rw (opposite_is (goal.at.limit_by-minus-requires c).Start) (minus_within max_model (v (goal.at.limit_by-minus-requires c).Start) c.requires.3))

pub returns : goal.returns
returns c =
    let D = by_rows (2 * c.args.n) c.args.table.now in
    let plus : to_z w64 (of_z w64 c.limit_by-plus.result) ≡ stored (D c.args.p (point c.args.x 0) ⊞ some (v (goal.at.returns c).Start)) =
    kept w64 c.limit_by-plus.result c.limit_by-plus.type_inv ∙ c.limit_by-plus.ensures ∙ ap₂ (λ (q : ℕ) (z : ℤ). stored (D c.args.p q ⊞ some z)) (plus_point c.args.x) (value_is (goal.at.returns c).Start) in
    let minus : to_z w64 (of_z w64 c.limit_by-minus.result) ≡ stored (D c.args.p (point c.args.x 1) ⊞ some (neg_ℤ (v (goal.at.returns c).Start))) =
    kept w64 c.limit_by-minus.result c.limit_by-minus.type_inv ∙ c.limit_by-minus.ensures ∙ ap (λ (z : ℤ). stored (D c.args.p (point c.args.x 1) ⊞ some z)) (opposite_is (goal.at.returns c).Start) in
    let less : distance_of (to_z w64 (of_z w64 c.smaller.result)) ≡ by_value D c.args.p c.args.x (v (goal.at.returns c).Start) =
    step_back c.args.n D (rows_short c.args.n c.args.table.now c.requires.0) c.args.p c.args.x c.requires.1 (omega (arith, c.requires.1, c.requires.2)) (v (goal.at.returns c).Start) c.requires.3 _ _ _ plus minus
    (kept w64 c.smaller.result c.smaller.type_inv ∙ c.smaller.ensures) in
    kept w64 c.smaller-2.result c.smaller-2.type_inv ∙ c.smaller-2.ensures
    ∙ ap₂ (λ (z : ℤ) (d : Distance). stored (min_d (distance_of z) d)) (to_z-of_z c.ranges.limit) less
