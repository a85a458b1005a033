-- `engine_closed_walk::refuted_by_passes` meets its contract. The invariant: the row is small, and nothing is written to the refutation.
use mathlib.Core.Path.{◌≡◌, refl, ◌∙◌}
use Prim.Native.Nat.{ℕ}
use native.Mathlib.Omega.{arith}
use borrow.Author.Rules.{rules}
use Rattle.engine_packed_steps.specs.Layout.{walks_at, row_at, places_at}
use Rattle.engine_packed_steps.specs.Scratch.{scratch_none}
use Rattle.engine_closed_walk.specs.AtOnce.{OnTheWay, way_ready, way_more, way_kept, way_none, way_refuted}
use Rattle.engine_closed_walk.proofs.refuted_by_passes.Goals.{After-mark_turn-p, After-row_at-row, Else-refuted_from}
use Rattle.engine_closed_walk.proofs.refuted_by_passes.Goals as goal

pub row_at-row-requires : goal.row_at-row-requires
row_at-row-requires c = c.requires.0.few

-- the row's place
module _ (r : After-row_at-row) where
  abbrev n : ℕ
  n = r.args.n

  abbrev row_is : r.row_at-row.result ≡ row_at n
  row_is = r.row_at-row.ensures

pub loop-turn-init : goal.loop-turn-init
loop-turn-init r = (refl, refl, refl, record { scratch = scratch_none (walks_at (n r)) (places_at (n r)) r.args.work.now; small = r.requires.1 })

pub mark_turn-p-requires : goal.mark_turn-p-requires
mark_turn-p-requires c =
    let p = c.requires.0 in
    way_ready c.loop-turn.invariant.3 (row_is (goal.at.mark_turn-p-requires c).After-row_at-row) p.steps p.work_room

-- after one pass more
module _ (c : After-mark_turn-p) where
  passed : OnTheWay (n (goal.at.After-mark_turn-p c).After-row_at-row) c.args.work.now c.mark_turn-p.new.work
  passed = way_more c.loop-turn.invariant.3 (row_is (goal.at.After-mark_turn-p c).After-row_at-row) c.mark_turn-p.ensures

pub returns-then-size-p : goal.returns-then-size-p
returns-then-size-p c = way_none (passed (goal.at.returns-then-size-p c).After-mark_turn-p) _ _ _ c.loop-turn.invariant.2

pub refuted_from-requires : goal.refuted_from-requires
refuted_from-requires c =
    let p = c.requires.0 in (
      record { few = p.few; valid = p.valid; lines = p.lines; room = omega (arith, p.room, c.loop-turn.invariant.0); work_room = omega (arith, p.work_room, (passed (goal.at.refuted_from-requires c).After-mark_turn-p).scratch.same_length) },
      omega (arith, c.if-size-p.false),
    )

pub returns-then-refuted_from : goal.returns-then-refuted_from
returns-then-refuted_from c =
    let e = c.refuted_from.ensures in
    way_refuted (passed (goal.at.returns-then-refuted_from c).After-mark_turn-p) _ _ _ _ c.loop-turn.invariant.2 e.scratch (e.on_yes c.if-refuted_from.true)

-- nothing was written after it
module _ (c : Else-refuted_from) where
  unwritten : c.refuted_from.new.refutation ≡ c.args.refutation.now
  unwritten = c.refuted_from.ensures.on_no c.if-refuted_from.false ∙ c.loop-turn.invariant.2

  kept : OnTheWay (n (goal.at.Else-refuted_from c).After-row_at-row) c.args.work.now c.refuted_from.new.work
  kept = way_kept (passed (goal.at.Else-refuted_from c).After-mark_turn-p) c.refuted_from.ensures.scratch

pub loop-turn-preserved : goal.loop-turn-preserved
loop-turn-preserved c =
    let e = (goal.at.loop-turn-preserved c).Else-refuted_from in
    (search rules, (kept e).scratch.same_length, unwritten e, kept e)

pub returns-else-refuted_from : goal.returns-else-refuted_from
returns-else-refuted_from c =
    let e = (goal.at.returns-else-refuted_from c).Else-refuted_from in
    way_none (kept e) _ _ _ (unwritten e)

pub returns : goal.returns
returns c = way_none c.loop-turn.invariant.3 _ _ _ c.loop-turn.invariant.2
