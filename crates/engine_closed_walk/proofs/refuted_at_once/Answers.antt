-- `engine_closed_walk::refuted_at_once` meets its contract: passes after the row is filled, and after passes that write nothing.
use mathlib.Core.Path.{◌≡◌, refl}
use mathlib.Core.Bool.{false}
use mathlib.Core.List.{List}
use Prim.Native.Nat.{ℕ, ◌+◌, ◌*◌, ◌≤◌}
use native.Mathlib.Omega.{arith}
use borrow.Author.Rules.{rules}
use lib.IntN.{ℤ}
use lib.ListN.{length}
use Rattle.integers.specs.Laws.{never}
use Rattle.engine_packed_steps.specs.Layout.{row_at}
use Rattle.engine_closed_walk.specs.AtOnce.{AtOnce, OnTheWay, way_filled, ready_after, at_once_after}
use Rattle.engine_closed_walk.proofs.refuted_at_once.Goals.{After-fill-2, After-refuted_by_passes, After-row_at-row}
use Rattle.engine_closed_walk.proofs.refuted_at_once.Goals as goal

-- the row's place
module _ (r : After-row_at-row) where
  abbrev n : ℕ
  n = r.args.n

  abbrev row_is : r.row_at-row.result ≡ row_at n
  row_is = r.row_at-row.ensures

  marks_in : r.row_at-row.result + 2 * n + 2 * n ≤ length r.args.work.now
  marks_in = omega (arith, row_is, r.requires.work_room)

pub overflow_add-marks : goal.overflow_add-marks
overflow_add-marks c = let h = marks_in c in search rules

pub fill-requires : goal.fill-requires
fill-requires c = let h = marks_in (goal.at.fill-requires c).After-row_at-row in (omega arith, omega (arith, h))

pub overflow_add-marks-2 : goal.overflow_add-marks-2
overflow_add-marks-2 c = let h = marks_in (goal.at.overflow_add-marks-2 c).After-row_at-row in search rules

pub fill-requires-2 : goal.fill-requires-2
fill-requires-2 c =
    (omega arith, omega (arith, c.fill.ensures.scratch.same_length, marks_in (goal.at.fill-requires-2 c).After-row_at-row))

-- the row is 0, and the marks are below 0
module _ (c : After-fill-2) where
  abbrev begun : List ℤ
  begun = c.fill-2.new.work

  first : OnTheWay (n (goal.at.After-fill-2 c).After-row_at-row) c.args.work.now begun
  first = way_filled (row_is (goal.at.After-fill-2 c).After-row_at-row) c.fill.ensures c.fill-2.ensures

pub refuted_by_passes-requires : goal.refuted_by_passes-requires
refuted_by_passes-requires c = ready_after (first (goal.at.refuted_by_passes-requires c).After-fill-2) refl c.requires

-- after the passes over light steps
module _ (c : After-refuted_by_passes) where
  light : AtOnce c.args.n c.args.list.now c.args.refutation.now c.args.work.now c.refuted_by_passes.new.refutation c.refuted_by_passes.new.work c.refuted_by_passes.result
  light = at_once_after (first (goal.at.After-refuted_by_passes c).After-fill-2) refl c.refuted_by_passes.ensures

  way : c.refuted_by_passes.result ≡ false → OnTheWay c.args.n c.args.work.now c.refuted_by_passes.new.work
  way h = record { scratch = light.scratch; small = (light.on_no h).1 }

pub returns-then-refuted_by_passes : goal.returns-then-refuted_by_passes
returns-then-refuted_by_passes c = record { scratch = (light (goal.at.returns-then-refuted_by_passes c).After-refuted_by_passes).scratch; on_yes = λ _. (light (goal.at.returns-then-refuted_by_passes c).After-refuted_by_passes).on_yes c.if-refuted_by_passes.true; on_no = λ z. never (cc) }

pub refuted_by_passes-requires-2 : goal.refuted_by_passes-requires-2
refuted_by_passes-requires-2 c =
    ready_after (way (goal.at.refuted_by_passes-requires-2 c).After-refuted_by_passes c.if-refuted_by_passes.false) ((light (goal.at.refuted_by_passes-requires-2 c).After-refuted_by_passes).on_no c.if-refuted_by_passes.false).0 c.requires

pub returns : goal.returns
returns c =
    at_once_after (way (goal.at.returns c).After-refuted_by_passes c.if-refuted_by_passes.false) ((light (goal.at.returns c).After-refuted_by_passes).on_no c.if-refuted_by_passes.false).0 c.refuted_by_passes-2.ensures
