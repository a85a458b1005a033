-- `implied_pair::implied_pair` meets its contract: a refusal, a list without a solution, or the pair off the table that the search leaves.
use Rattle.std.proofs.lemmas.Result.{err_from_is_err_and}
use Rattle.std.specs.Prelude.{Ok}
use mathlib.Core.Path.{◌≡◌, sym, ◌∙◌}
use native.Mathlib.Omega.{arith}
use lib.ListN.{length}
use Rattle.decide.specs.Searched.{part_is}
use Rattle.implied_pair.specs.Pair.{pair_validity_lem}
use Rattle.implied_pair.specs.Called.{refused, few, start_small, search_ready, room_left, table_fits, unsolvable, pair_ready, implied}
use Rattle.implied_pair.proofs.implied_pair.Goals.{In_ok-pair_validity}
use Rattle.implied_pair.proofs.implied_pair.Goals as goal

pub returns-in_err-pair_validity : goal.returns-in_err-pair_validity
returns-in_err-pair_validity c =
    let p = err_from_is_err_and c.from_residual.result c.from_residual.ensures.1 in
    rw (p.1, p.2) (refused _ _ _ _ _ _ (sym c.pair_validity.ensures ∙ c.in_err-pair_validity.was))

-- nothing is refused
module _ (told : In_ok-pair_validity) where
  valid : pair_validity_lem told.args.n told.args.list.now told.args.x told.args.y (length told.args.work.now) ≡ Ok tt
  valid = sym told.pair_validity.ensures ∙ told.in_ok-pair_validity.was

pub work_room-room-requires : goal.work_room-room-requires
work_room-room-requires c = few _ _ _ _ c.args.work.now (valid c)

pub refuted-requires : goal.refuted-requires
refuted-requires c = search_ready _ _ _ _ _ (valid (goal.at.refuted-requires c).In_ok-pair_validity)

pub clear-requires : goal.clear-requires
clear-requires c =
    let v = valid (goal.at.clear-requires c).In_ok-pair_validity in
    rw c.work_room-room.ensures (room_left _ _ _ _ _ v c.refuted.ensures)

pub returns-then-refuted : goal.returns-then-refuted
returns-then-refuted c =
    let v = valid (goal.at.returns-then-refuted c).In_ok-pair_validity in
    unsolvable _ _ _ _ _ v c.refuted.ensures c.if-refuted.true _ (rw c.work_room-room.ensures at c.clear.ensures)

pub offset_bounds-work-start : goal.offset_bounds-work-start
offset_bounds-work-start c =
    let v = valid (goal.at.offset_bounds-work-start c).In_ok-pair_validity in
    record { fits = omega (arith, start_small _ _ _ _ c.args.work.now v) }

pub slice_bounds-pair_in-end : goal.slice_bounds-pair_in-end
slice_bounds-pair_in-end c =
    let v = valid (goal.at.slice_bounds-pair_in-end c).In_ok-pair_validity in
    omega (arith, table_fits _ _ _ _ _ v c.refuted.ensures)

pub pair_in-pair-requires : goal.pair_in-pair-requires
pair_in-pair-requires c =
    let v = valid (goal.at.pair_in-pair-requires c).In_ok-pair_validity in
    rw (part_is c.args.n) (pair_ready _ _ _ _ _ v (rw c.if-refuted.false at c.refuted.ensures))

pub clear-requires-2 : goal.clear-requires-2
clear-requires-2 c =
    let v = valid (goal.at.clear-requires-2 c).In_ok-pair_validity in
    rw c.work_room-room.ensures (room_left _ _ _ _ _ v c.refuted.ensures)

pub returns : goal.returns
returns c =
    let v = valid (goal.at.returns c).In_ok-pair_validity in
    implied _ _ _ _ _ v (rw c.if-refuted.false at c.refuted.ensures)
    _ (rw c.work_room-room.ensures at c.clear-2.ensures) _ (rw (part_is c.args.n) at c.pair_in-pair.ensures)
