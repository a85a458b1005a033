-- `decide::decide` meets its contract: a refusal, what the hub answers, or else what the table does.
use Rattle.std.proofs.lemmas.Result.{err_from_is_err_and}
use Rattle.std.specs.Prelude.{Ok}
use mathlib.Core.Path.{◌≡◌, sym, ◌∙◌}
use Rattle.decide_buffers.specs.Room.{Lent}
use Rattle.decide.specs.Decided.{validity_for, refused, few, hub_asked, hub_room, decided_hub, valid_after, decided_after}
use Rattle.decide.proofs.decide.Goals.{After-decide_validity, In_ok-decide_validity}
use Rattle.decide.proofs.decide.Goals as goal

-- what the buffers held
abbrev held : After-decide_validity → Lent
held v = record { model = v.args.model.now; bounds = v.args.bounds.now; groups = v.args.groups.now; refutation = v.args.refutation.now; identifiers = v.args.identifiers.now; work = v.args.work.now }

pub returns-in_err-decide_validity : goal.returns-in_err-decide_validity
returns-in_err-decide_validity c =
    let p = err_from_is_err_and c.from_residual.result c.from_residual.ensures.1 in
    rw (p.1, p.2) (refused _ _ (held (goal.at.returns-in_err-decide_validity c).After-decide_validity) _ (sym c.decide_validity.ensures ∙ c.in_err-decide_validity.was))

-- nothing is refused
module _ (t : In_ok-decide_validity) where
  abbrev lent : Lent
  lent = held (goal.at.In_ok-decide_validity t).After-decide_validity

  valid : validity_for t.args.n t.args.list.now lent ≡ Ok tt
  valid = sym t.decide_validity.ensures ∙ t.in_ok-decide_validity.was

pub answered_by_hub-requires : goal.answered_by_hub-requires
answered_by_hub-requires c =
    let t = (goal.at.answered_by_hub-requires c).In_ok-decide_validity in
    hub_asked _ _ (lent t) (valid t)

pub work_room-requires : goal.work_room-requires
work_room-requires c =
    let t = (goal.at.work_room-requires c).In_ok-decide_validity in
    few _ _ (lent t) (valid t)

pub clear-requires : goal.clear-requires
clear-requires c =
    let t = (goal.at.clear-requires c).In_ok-decide_validity in
    rw c.work_room.ensures (hub_room _ _ (lent t) (valid t) _ _ _ _ _ c.answered_by_hub.ensures)

pub returns-then-answered_by_hub : goal.returns-then-answered_by_hub
returns-then-answered_by_hub c =
    let t = (goal.at.returns-then-answered_by_hub c).In_ok-decide_validity in
    decided_hub _ _ (lent t) (valid t) _ _ _ _ _ c.answered_by_hub.ensures c.if-answered_by_hub.true _ (rw c.work_room.ensures at c.clear.ensures)

pub decide_by_table-requires : goal.decide_by_table-requires
decide_by_table-requires c =
    let t = (goal.at.decide_by_table-requires c).In_ok-decide_validity in
    valid_after _ _ (lent t) (valid t) _ _ _ _ _ c.answered_by_hub.ensures c.if-answered_by_hub.false

pub returns : goal.returns
returns c =
    let t = (goal.at.returns c).In_ok-decide_validity in
    decided_after _ _ (lent t) (valid t) _ _ _ _ _ c.answered_by_hub.ensures c.if-answered_by_hub.false _ _ c.decide_by_table.ensures
