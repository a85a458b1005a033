-- `engine_finished_rows::write_row` meets its contract: the two points of a variable at once, the first of which is even.
use mathlib.Core.Path.{◌≡◌, refl, ap, ◌∙◌}
use mathlib.Core.List.{List}
use Prim.Native.Nat.{ℕ, ◌+◌, ◌*◌, ◌≤◌, ◌<◌, ◌%◌}
use native.Mathlib.Omega.{arith}
use borrow.Author.Rules.{rules}
use lib.IntN.{ℤ}
use mir.Syntax.{w64}
use mir.Val.{to_z, of_z}
use mir.Facts.{to_z-of_z}
use Rattle.lines.specs.Line.{number}
use Rattle.steps.specs.Point.{opposite}
use Rattle.engine_packed_steps.specs.Layout.{row_width}
use Rattle.engine_renaming.specs.Inverse.{renamed_point_lem}
use Rattle.engine_finished_rows.specs.Kept.{RowsReady, opposite_low, distance_at}
use Rattle.engine_finished_rows.specs.Rows.{point_ready, point_low, opposite_first, opposite_second, row_room, row_start, ready, column_ready, turned, row_two, row_end}
use Rattle.engine_finished_rows.proofs.write_row.Goals.{After-renamed_point-i, After-renamed_point-j, After-turned_back-second, In-loop-x}
use Rattle.engine_finished_rows.proofs.write_row.Goals as goal

pub renamed_point-i-requires : goal.renamed_point-i-requires
renamed_point-i-requires c =
    point_ready c.requires.rows c.opposite_of.result (rw c.opposite_of.ensures (opposite_low c.args.n c.args.v c.requires.low))

-- the point of v
module _ (c : After-renamed_point-i) where
  abbrev w₀ : List ℤ
  w₀ = c.args.work.now

  abbrev i : ℕ
  i = c.renamed_point-i.result

  i_is : i ≡ renamed_point_lem c.args.at w₀ (opposite c.args.v)
  i_is = c.renamed_point-i.ensures ∙ ap (renamed_point_lem c.args.at w₀) c.opposite_of.ensures

  i_low : i < 2 * c.args.n
  i_low = point_low c.requires.rows c.args.v i c.requires.low i_is

  i_row : i * row_width (2 * c.args.n) + row_width (2 * c.args.n) ≤ 2 * c.args.n * row_width (2 * c.args.n)
  i_row = row_room (2 * c.args.n) i i_low

pub overflow_add-own : goal.overflow_add-own
overflow_add-own c = record { fits = omega (arith, i_low c, c.requires.rows.reduced.room, c.well_formed.0.0) }

pub offset_bounds-work-pot : goal.offset_bounds-work-pot
offset_bounds-work-pot c = record { fits = omega (arith, i_low c, c.requires.rows.reduced.room, c.well_formed.0.0) }

pub slice_copy_out-own : goal.slice_copy_out-own
slice_copy_out-own c = omega (arith, i_low c, c.requires.rows.reduced.room)

pub overflow_mul-row-2 : goal.overflow_mul-row-2
overflow_mul-row-2 c = record { fits = omega (arith, i_row (goal.at.overflow_mul-row-2 c).After-renamed_point-i, c.requires.rows.reduced.room, c.well_formed.0.0) }

pub overflow_add-row-3 : goal.overflow_add-row-3
overflow_add-row-3 c = record { fits = omega (arith, i_row (goal.at.overflow_add-row-3 c).After-renamed_point-i, c.requires.rows.reduced.room, c.well_formed.0.0) }

pub loop-x-init : goal.loop-x-init
loop-x-init c = (refl, row_start c.requires)

-- what is read from holds in a turn
module _ (t : In-loop-x) where
  abbrev u : ℕ
  u = 2 * t.loop-x.x

  now_ready : RowsReady t.args.count t.args.n t.args.at t.args.pot t.loop-x.work
  now_ready = ready t.requires t.loop-x.work u t.loop-x.invariant.1

  first_point : u < 2 * t.args.n
  first_point = omega (arith, t.loop-x-test.true)

  second_point : u + 1 < 2 * t.args.n
  second_point = omega (arith, t.loop-x-test.true)

  even : u % 2 ≡ 0
  even = omega arith

  abbrev own : ℤ
  own = number (w₀ (goal.at.In-loop-x t).After-renamed_point-i) (t.args.pot + i (goal.at.In-loop-x t).After-renamed_point-i)

  own_is : to_z w64 (of_z w64 own) ≡ own
  own_is = to_z-of_z {w = w64} (record { sfits = t.own-1.given })

pub renamed_point-j-requires : goal.renamed_point-j-requires
renamed_point-j-requires c =
    let t = (goal.at.renamed_point-j-requires c).In-loop-x in
    point_ready (now_ready t) (u t) (first_point t)

-- the point of u
module _ (c : After-renamed_point-j) where
  abbrev turn : In-loop-x
  turn = (goal.at.After-renamed_point-j c).In-loop-x

  abbrev w : List ℤ
  w = c.loop-x.work

  abbrev j : ℕ
  j = c.renamed_point-j.result

  first_is : j + 1 ≡ renamed_point_lem c.args.at w (opposite (u turn))
  first_is = opposite_first c.args.at w (u turn) j (even turn) c.renamed_point-j.ensures

  second_is : j ≡ renamed_point_lem c.args.at w (opposite (u turn + 1))
  second_is = opposite_second c.args.at w (u turn) j (even turn) c.renamed_point-j.ensures

pub turned_back-first-requires : goal.turned_back-first-requires
turned_back-first-requires c =
    let t = (goal.at.turned_back-first-requires c).In-loop-x in
    let p = (goal.at.turned_back-first-requires c).After-renamed_point-i in
    rw (own_is t) (column_ready c.requires (w c) (u t) c.loop-x.invariant.1 (u t) (first_point t) (i p) (j c + 1) (i_is p) (first_is c))

pub turned_back-second-requires : goal.turned_back-second-requires
turned_back-second-requires c =
    let t = (goal.at.turned_back-second-requires c).In-loop-x in
    let p = (goal.at.turned_back-second-requires c).After-renamed_point-i in
    let q = (goal.at.turned_back-second-requires c).After-renamed_point-j in
    rw (own_is t) (column_ready c.requires (w q) (u t) c.loop-x.invariant.1 (u t + 1) (second_point t) (i p) (j q) (i_is p) (second_is q))

-- the two entries that were read
module _ (c : After-turned_back-second) where
  abbrev again : In-loop-x
  again = (goal.at.After-turned_back-second c).In-loop-x

  abbrev of_v : After-renamed_point-i
  of_v = (goal.at.After-turned_back-second c).After-renamed_point-i

  abbrev of_u : After-renamed_point-j
  of_u = (goal.at.After-turned_back-second c).After-renamed_point-j

  first_turned : c.turned_back-first.result ≡ distance_at c.args.count c.args.n c.args.at (w₀ of_v) c.args.v (u again)
  first_turned =
      rw (own_is again) at c.turned_back-first.ensures
      ∙ turned c.requires (w of_u) (u again) c.loop-x.invariant.1 (u again) (first_point again) (i of_v) (j of_u + 1) (i_is of_v) (first_is of_u)

  second_turned : c.turned_back-second.result ≡ distance_at c.args.count c.args.n c.args.at (w₀ of_v) c.args.v (u again + 1)
  second_turned =
      rw (own_is again) at c.turned_back-second.ensures
      ∙ turned c.requires (w of_u) (u again) c.loop-x.invariant.1 (u again + 1) (second_point again) (i of_v) (j of_u) (i_is of_v) (second_is of_u)

pub loop-x-preserved : goal.loop-x-preserved
loop-x-preserved c =
    let t = (goal.at.loop-x-preserved c).In-loop-x in
    let q = (goal.at.loop-x-preserved c).After-renamed_point-j in
    let next : 2 * (c.loop-x.x + 1) ≡ u t + 2 = omega arith in (
      search rules,
      rw next (row_two c.requires (w q) (u t) c.loop-x.invariant.1 (second_point t) _ _ (to_z-of_z {w = w64} (record { sfits = c.turned_back-first.type_inv }) ∙ first_turned c) (to_z-of_z {w = w64} (record { sfits = c.turned_back-second.type_inv }) ∙ second_turned c)),
    )

pub returns : goal.returns
returns c = row_end c.requires c.loop-x.work (2 * c.loop-x.x) c.loop-x.invariant.1 (omega (arith, c.loop-x-test.false))
