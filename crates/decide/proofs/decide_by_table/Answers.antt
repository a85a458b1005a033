-- `decide::decide_by_table` meets its contract: a refutation, or the model, the bounds and the groups, from the table of distances.
use native.Mathlib.Omega.{arith}
use Rattle.decide_buffers.specs.Room.{Lent}
use Rattle.decide.specs.Searched.{part_is}
use Rattle.decide.specs.Decided.{search_ready, room_left, few, table_fits, start_small, identifiers_ready, decided_no, answers_ready, decided_yes}
use Rattle.decide.proofs.decide_by_table.Goals.{After-refuted, Start}
use Rattle.decide.proofs.decide_by_table.Goals as goal

-- what the buffers held at the start
abbrev held : Start → Lent
held s = record { model = s.args.model.now; bounds = s.args.bounds.now; groups = s.args.groups.now; refutation = s.args.refutation.now; identifiers = s.args.identifiers.now; work = s.args.work.now }

pub work_room-room-requires : goal.work_room-room-requires
work_room-room-requires c = few _ _ (held (goal.at.work_room-room-requires c).Start) c.requires

pub refuted-requires : goal.refuted-requires
refuted-requires c = search_ready _ _ (held (goal.at.refuted-requires c).Start) c.requires

-- the search is done
abbrev lent : After-refuted → Lent
lent r = held (goal.at.After-refuted r).Start

pub write_identifiers-requires : goal.write_identifiers-requires
write_identifiers-requires c =
    identifiers_ready _ _ (lent (goal.at.write_identifiers-requires c).After-refuted) c.requires _ _ c.refuted.ensures c.if-refuted.true

pub clear-requires : goal.clear-requires
clear-requires c =
    rw c.work_room-room.ensures (room_left _ _ (lent (goal.at.clear-requires c).After-refuted) c.requires c.refuted.ensures)

pub returns-then-refuted : goal.returns-then-refuted
returns-then-refuted c =
    decided_no _ _ (lent (goal.at.returns-then-refuted c).After-refuted) c.requires _ _ c.refuted.ensures c.if-refuted.true _ c.write_identifiers.ensures
    _ (rw c.work_room-room.ensures at c.clear.ensures)

pub offset_bounds-work-start : goal.offset_bounds-work-start
offset_bounds-work-start c =
    record { fits = omega (arith, start_small _ _ (lent (goal.at.offset_bounds-work-start c).After-refuted) c.requires) }

pub slice_bounds-write_answers-end : goal.slice_bounds-write_answers-end
slice_bounds-write_answers-end c =
    omega (arith, table_fits _ _ (lent (goal.at.slice_bounds-write_answers-end c).After-refuted) c.requires c.refuted.ensures)

pub write_answers-requires : goal.write_answers-requires
write_answers-requires c =
    rw (part_is c.args.n) (answers_ready _ _ (lent (goal.at.write_answers-requires c).After-refuted) c.requires _ _ (rw c.if-refuted.false at c.refuted.ensures))

pub clear-requires-2 : goal.clear-requires-2
clear-requires-2 c =
    rw c.work_room-room.ensures (room_left _ _ (lent (goal.at.clear-requires-2 c).After-refuted) c.requires c.refuted.ensures)

pub returns : goal.returns
returns c =
    decided_yes _ _ (lent (goal.at.returns c).After-refuted) c.requires _ _ (rw c.if-refuted.false at c.refuted.ensures) _ _ _
    (rw (part_is c.args.n) at c.write_answers.ensures) _ (rw c.work_room-room.ensures at c.clear-2.ensures)
