-- `session_step::lower_row` meets its contract. The invariant: the row, lowered in the columns from k on, is the entry's row lowered in all.
use mathlib.Core.Path.{◌≡◌, refl, sym, ap, ◌∙◌}
use Prim.Native.Nat.{ℕ, ◌+◌, ◌<◌}
use native.Mathlib.Omega.{arith}
use borrow.Author.Rules.{rules}
use lib.IntN.{ℤ}
use lib.ListN.{length, set, get_or, drop}
use mir.Syntax.{w64}
use mir.Val.{to_z, of_z}
use mir.Facts.{to_z-of_z}
use Rattle.integers.proofs.Bits.{kept}
use Rattle.lines.specs.Line.{number}
use Rattle.decide_rows.specs.Read.{distance_of, Short}
use Rattle.decide_stored_table.specs.Sum.{max_tight}
use Rattle.session_step.specs.Lower.{lower_to, lower_all, lower_is, lower_next, lower_end}
use Rattle.session_step.proofs.lower_row.Goals.{After-shared_slice_known-in-loop-k-1}
use Rattle.session_step.proofs.lower_row.Goals as goal

pub loop-k-init : goal.loop-k-init
loop-k-init c = (omega arith, refl, refl)

-- the numbers of a turn
module _ (c : After-shared_slice_known-in-loop-k-1) where
  abbrev k : ℕ
  k = c.loop-k.k

  listed : k < length c.args.columns.now
  listed = omega (arith, c.loop-k-test.true)

  abbrev u : ℕ
  u = get_or c.args.columns.now k 0

  inside : u < length c.loop-k.row
  inside = omega (arith, c.loop-k.invariant.1, c.requires.0.inside k listed)

  small : u < length c.args.row.now
  small = c.requires.0.inside k listed

  abbrev own : ℤ
  own = number c.args.sums.now k

  abbrev rest : ℤ
  rest = to_z w64 (of_z w64 c.args.rest)

  rest_short : Short max_tight (distance_of rest)
  rest_short = rw (to_z-of_z c.ranges.rest) c.requires.1

pub offset_bounds-row-u : goal.offset_bounds-row-u
offset_bounds-row-u c = record { fits = omega (arith, small c, c.well_formed.0.0) }

pub sum-requires : goal.sum-requires
sum-requires c =
    (rw (kept w64 (own (goal.at.sum-requires c).After-shared_slice_known-in-loop-k-1) c.sum-arg-1.given) (c.requires.0.short (k (goal.at.sum-requires c).After-shared_slice_known-in-loop-k-1) (listed (goal.at.sum-requires c).After-shared_slice_known-in-loop-k-1)), rest_short (goal.at.sum-requires c).After-shared_slice_known-in-loop-k-1)

pub offset_bounds-row-u-in-loop-k : goal.offset_bounds-row-u-in-loop-k
offset_bounds-row-u-in-loop-k c = record { fits = omega (arith, small (goal.at.offset_bounds-row-u-in-loop-k c).After-shared_slice_known-in-loop-k-1, c.well_formed.0.0) }

pub loop-k-preserved : goal.loop-k-preserved
loop-k-preserved c =
    let row = c.loop-k.row in
    let columns = c.args.columns.now in
    let sums = c.args.sums.now in
    let m = to_z w64 (of_z w64 c.sum.result) in
    let v = to_z w64 (of_z w64 c.smaller.result) in
    let sum_is_lem = kept w64 c.sum.result c.sum.type_inv ∙ rw (kept w64 (own (goal.at.loop-k-preserved c).After-shared_slice_known-in-loop-k-1) c.sum-arg-1.given) at c.sum.ensures in
    let less-is = kept w64 c.smaller.result c.smaller.type_inv ∙ rw (kept w64 (number row (u (goal.at.loop-k-preserved c).After-shared_slice_known-in-loop-k-1)) c.smaller-arg-1.given) at c.smaller.ensures in
    let is : v ≡ lower_to (number row (u (goal.at.loop-k-preserved c).After-shared_slice_known-in-loop-k-1)) (own (goal.at.loop-k-preserved c).After-shared_slice_known-in-loop-k-1) (rest (goal.at.loop-k-preserved c).After-shared_slice_known-in-loop-k-1) =
    lower_is (number row (u (goal.at.loop-k-preserved c).After-shared_slice_known-in-loop-k-1)) (own (goal.at.loop-k-preserved c).After-shared_slice_known-in-loop-k-1) (rest (goal.at.loop-k-preserved c).After-shared_slice_known-in-loop-k-1) m v (c.requires.0.short (k (goal.at.loop-k-preserved c).After-shared_slice_known-in-loop-k-1) (listed (goal.at.loop-k-preserved c).After-shared_slice_known-in-loop-k-1)) (rest_short (goal.at.loop-k-preserved c).After-shared_slice_known-in-loop-k-1) sum_is_lem less-is in (
      omega (arith, listed (goal.at.loop-k-preserved c).After-shared_slice_known-in-loop-k-1),
      search rules,
      ap (λ (z : ℤ). lower_all (rest (goal.at.loop-k-preserved c).After-shared_slice_known-in-loop-k-1) (drop (k (goal.at.loop-k-preserved c).After-shared_slice_known-in-loop-k-1 + 1) columns) (drop (k (goal.at.loop-k-preserved c).After-shared_slice_known-in-loop-k-1 + 1) sums) (set row (u (goal.at.loop-k-preserved c).After-shared_slice_known-in-loop-k-1) z)) is
          ∙ sym (lower_next (rest (goal.at.loop-k-preserved c).After-shared_slice_known-in-loop-k-1) columns sums row (k (goal.at.loop-k-preserved c).After-shared_slice_known-in-loop-k-1) (listed (goal.at.loop-k-preserved c).After-shared_slice_known-in-loop-k-1) (omega (arith, listed (goal.at.loop-k-preserved c).After-shared_slice_known-in-loop-k-1, c.requires.0.long)))
          ∙ c.loop-k.invariant.2,
    )

pub returns : goal.returns
returns c =
    let columns = c.args.columns.now in
    let sums = c.args.sums.now in
    sym (lower_end (to_z w64 (of_z w64 c.args.rest)) columns sums c.loop-k.row c.loop-k.k (omega (arith, c.loop-k-test.false)))
    ∙ c.loop-k.invariant.2
    ∙ ap (λ (z : ℤ). lower_all z columns sums c.args.row.now) (to_z-of_z c.ranges.rest)
