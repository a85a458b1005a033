-- `differences_model::limit_by` meets its contract: one sum for each of the two limits.
use mathlib.Core.Path.{◌≡◌, ap, ◌∙◌}
use Prim.Native.Nat.{ℕ}
use native.Mathlib.Omega.{arith}
use lib.IntN.{ℤ, pos, neg_ℤ, ◌-ℤ◌}
use mir.Syntax.{w64}
use mir.Val.{SFits, to_z, of_z}
use mir.Facts.{to_z-of_z}
use Rattle.integers.proofs.Bits.{kept}
use Rattle.integers.specs.Integer.{Within}
use Rattle.theory_walks.specs.Distance.{Distance, ◌⊞◌}
use Rattle.theory_walks.specs.Size.{within_more}
use Rattle.decide_rows.specs.Stored.{stored}
use Rattle.decide_rows.specs.Read.{distance_of, Short, max_distance}
use Rattle.decide_stored_table.specs.Sum.{minus_is}
use Rattle.decide_stored_table.specs.Table.{table_of}
use Rattle.decide_model.specs.Limit.{max_model, minus_fits, minus_within, value_short, entry_short, sum_back}
use Rattle.differences_model.proofs.limit_by.Goals.{After-distance_at, After-distance_at-2, Start}
use Rattle.differences_model.proofs.limit_by.Goals as goal

-- the distances that are read, and the value and its opposite as the code passes them on
module _ (s : Start) where
  abbrev distance : ℕ → ℕ → Distance
  distance u v = table_of s.args.n s.args.table.now u v

  abbrev v : ℤ
  v = s.args.value

  there : Short max_distance (distance s.args.k s.args.x)
  there = s.requires.0.short s.args.k s.args.x s.requires.1 s.requires.2

  back : Short max_distance (distance s.args.x s.args.k)
  back = s.requires.0.short s.args.x s.args.k s.requires.2 s.requires.1

  value_is : to_z w64 (of_z w64 v) ≡ v
  value_is = to_z-of_z s.ranges.value

  minus_small : Within max_model (neg_ℤ v)
  minus_small = minus_within max_model v s.requires.3

  opposite_fits : SFits w64 (neg_ℤ v)
  opposite_fits = minus_fits v (within_more (omega arith) s.requires.3)

  opposite_is : to_z w64 (of_z w64 (pos 0 -ℤ to_z w64 (of_z w64 v))) ≡ neg_ℤ v
  opposite_is = ap (λ (z : ℤ). to_z w64 (of_z w64 (pos 0 -ℤ z))) value_is ∙ ap (λ (z : ℤ). to_z w64 (of_z w64 z)) (minus_is v) ∙ to_z-of_z opposite_fits

-- the greatest value
module _ (c : After-distance_at) where
  abbrev entry : ℤ
  entry = to_z w64 (of_z w64 c.distance_at.result)

  is : entry ≡ stored (distance (goal.at.After-distance_at c).Start c.args.k c.args.x)
  is = kept w64 c.distance_at.result c.distance_at.type_inv ∙ c.distance_at.ensures

pub sum-requires : goal.sum-requires
sum-requires c =
    let start = (goal.at.sum-requires c).Start in
    (entry_short (distance start c.args.k c.args.x) (there start) (entry c) (is c), rw (value_is start) (value_short c.args.value c.requires.3))

pub returns-then-upper : goal.returns-then-upper
returns-then-upper c =
    let after_distance_at = (goal.at.returns-then-upper c).After-distance_at in
    let start = (goal.at.returns-then-upper c).Start in
    rw c.if-upper.true
    (kept w64 c.sum.result c.sum.type_inv
    ∙ c.sum.ensures
    ∙ ap (λ (z : ℤ). stored (distance_of (entry after_distance_at) ⊞ distance_of z)) (value_is start)
    ∙ sum_back (distance start c.args.k c.args.x) (there start) (entry after_distance_at) (is after_distance_at) c.args.value c.requires.3)

-- the least one, negated
module _ (c : After-distance_at-2) where
  abbrev entry2 : ℤ
  entry2 = to_z w64 (of_z w64 c.distance_at-2.result)

  is2 : entry2 ≡ stored (distance (goal.at.After-distance_at-2 c).Start c.args.x c.args.k)
  is2 = kept w64 c.distance_at-2.result c.distance_at-2.type_inv ∙ c.distance_at-2.ensures

pub sum-requires-2 : goal.sum-requires-2
sum-requires-2 c =
    let start = (goal.at.sum-requires-2 c).Start in
    (entry_short (distance start c.args.x c.args.k) (back start) (entry2 c) (is2 c), rw (opposite_is start) (value_short (neg_ℤ c.args.value) (minus_small start)))

pub returns : goal.returns
returns c =
    let after_distance_at = (goal.at.returns c).After-distance_at-2 in
    let start = (goal.at.returns c).Start in
    rw c.if-upper.false
    (kept w64 c.sum-2.result c.sum-2.type_inv
    ∙ c.sum-2.ensures
    ∙ ap (λ (z : ℤ). stored (distance_of (entry2 after_distance_at) ⊞ distance_of z)) (opposite_is start)
    ∙ sum_back (distance start c.args.x c.args.k) (back start) (entry2 after_distance_at) (is2 after_distance_at) (neg_ℤ c.args.value) (minus_small start))
