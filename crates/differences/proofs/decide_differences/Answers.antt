-- `differences::decide_differences` meets its contract: a refusal, a refutation, or the model, the bounds and the groups.
use Rattle.std.proofs.lemmas.Result.{err_from_is_err_and}
use Rattle.std.specs.Prelude.{Ok}
use mathlib.Core.Path.{◌≡◌, sym, ◌∙◌}
use Rattle.decide_buffers.specs.Room.{Lent}
use Rattle.differences.specs.Decided.{plain_validity_for, refused}
use Rattle.differences.specs.Answered.{few, answer_ready, room_left, identifiers_ready, decided_no, decided_yes}
use Rattle.differences.proofs.decide_differences.Goals.{After-differences_validity, In_ok-differences_validity}
use Rattle.differences.proofs.decide_differences.Goals as goal

-- what the buffers held
abbrev held : After-differences_validity → Lent
held v = record { model = v.args.model.now; bounds = v.args.bounds.now; groups = v.args.groups.now; refutation = v.args.refutation.now; identifiers = v.args.identifiers.now; work = v.args.work.now }

pub returns-in_err-differences_validity : goal.returns-in_err-differences_validity
returns-in_err-differences_validity c =
    let p = err_from_is_err_and c.from_residual.result c.from_residual.ensures.1 in
    rw (p.1, p.2) (refused _ _ (held (goal.at.returns-in_err-differences_validity c).After-differences_validity) _ (sym c.differences_validity.ensures ∙ c.in_err-differences_validity.was))

-- nothing is refused
module _ (t : In_ok-differences_validity) where
  abbrev lent : Lent
  lent = held (goal.at.In_ok-differences_validity t).After-differences_validity

  valid : plain_validity_for t.args.n t.args.list.now lent ≡ Ok tt
  valid = sym t.differences_validity.ensures ∙ t.in_ok-differences_validity.was

pub differences_work_room-room-requires : goal.differences_work_room-room-requires
differences_work_room-room-requires c = few _ _ (lent c) (valid c)

pub refuted_or_answered-requires : goal.refuted_or_answered-requires
refuted_or_answered-requires c =
    let t = (goal.at.refuted_or_answered-requires c).In_ok-differences_validity in
    answer_ready _ _ (lent t) (valid t)

pub write_identifiers-requires : goal.write_identifiers-requires
write_identifiers-requires c =
    let t = (goal.at.write_identifiers-requires c).In_ok-differences_validity in
    identifiers_ready _ _ (lent t) (valid t) _ _ _ _ _ c.refuted_or_answered.ensures c.if-refuted_or_answered.true

pub clear-requires : goal.clear-requires
clear-requires c =
    let t = (goal.at.clear-requires c).In_ok-differences_validity in
    rw c.differences_work_room-room.ensures (room_left _ _ (lent t) (valid t) _ _ _ _ _ c.refuted_or_answered.ensures)

pub returns-then-refuted_or_answered : goal.returns-then-refuted_or_answered
returns-then-refuted_or_answered c =
    let t = (goal.at.returns-then-refuted_or_answered c).In_ok-differences_validity in
    decided_no _ _ (lent t) (valid t) _ _ _ _ _ c.refuted_or_answered.ensures _ (rw c.differences_work_room-room.ensures at c.clear.ensures) c.if-refuted_or_answered.true _
    c.write_identifiers.ensures

pub clear-requires-2 : goal.clear-requires-2
clear-requires-2 c =
    let t = (goal.at.clear-requires-2 c).In_ok-differences_validity in
    rw c.differences_work_room-room.ensures (room_left _ _ (lent t) (valid t) _ _ _ _ _ c.refuted_or_answered.ensures)

pub returns : goal.returns
returns c =
    let t = (goal.at.returns c).In_ok-differences_validity in
    decided_yes _ _ (lent t) (valid t) _ _ _ _ _ c.refuted_or_answered.ensures _ (rw c.differences_work_room-room.ensures at c.clear-2.ensures) c.if-refuted_or_answered.false
