-- `tree_first::first_choice` meets its contract: a refusal of the list, of the tree or of a short buffer, or the search for the first choice found, with the work area cleared.
use Rattle.std.specs.Prelude.{◌≡◌, Ok}
use Rattle.std.proofs.Common.{sym, ◌∙◌}
use Rattle.std.proofs.lemmas.Result.{err_from_is_err_and}
use Rattle.lines.specs.Valid.{valid_list}
use Rattle.decide_buffers.specs.Room.{ModelLent, model_lengths_of, model_rooms, first_short}
use Rattle.tree_deciding.specs.Found.{found_yes, found_no}
use Rattle.tree_first.specs.First.{list_refused, tree_refused, room_refused, asked, room_left, answers}
use Rattle.tree_first.proofs.first_choice.Goals.{In_ok-model_validity}
use Rattle.tree_first.proofs.first_choice.Goals as goal

pub returns-in_err-list_validity : goal.returns-in_err-list_validity
returns-in_err-list_validity c =
    let p = err_from_is_err_and c.from_residual.result c.from_residual.ensures.1 in
    rw (p.1, p.2) (list_refused _ _ _ _ _ (sym c.in_err-list_validity.ensures))

pub model_validity-requires : goal.model_validity-requires
model_validity-requires c = (valid_list _ _ (sym c.in_ok-list_validity.ensures)).variables

pub returns-in_err-root : goal.returns-in_err-root
returns-in_err-root c =
    let result = c.from_residual-in_err-root in
    let p = err_from_is_err_and result.result result.ensures.1 in
    rw (p.1, p.2) (tree_refused _ _ _ _ (sym c.in_ok-list_validity.ensures) _ (sym c.in_err-root.ensures))

pub returns-in_err-model_validity : goal.returns-in_err-model_validity
returns-in_err-model_validity c =
    let result = c.from_residual-in_err-model_validity in
    let p = err_from_is_err_and result.result result.ensures.1 in
    rw (p.1, p.2) (room_refused _ _ _ _ (sym c.in_ok-list_validity.ensures) _ (sym c.in_ok-root.ensures) _ (sym (rw c.of_model.ensures at c.in_err-model_validity.ensures)))

-- nothing is refused
module _ (fit : In_ok-model_validity) where
  abbrev lent : ModelLent
  lent = record { model = fit.args.model.now; work = fit.args.work.now }

  rooms : first_short model_rooms fit.args.n (model_lengths_of lent) ≡ Ok tt
  rooms = sym (rw fit.of_model.ensures at fit.model_validity.ensures) ∙ fit.in_ok-model_validity.was

pub first_solvable-choice-requires : goal.first_solvable-choice-requires
first_solvable-choice-requires c =
    let w = (goal.at.first_solvable-choice-requires c).In_ok-model_validity in
    asked _ _ _ (lent w) (sym c.in_ok-list_validity.ensures) _ (sym c.in_ok-root.ensures) (rooms w)

pub work_room-requires : goal.work_room-requires
work_room-requires c = (valid_list _ _ (sym c.in_ok-list_validity.ensures)).variables

pub clear-requires : goal.clear-requires
clear-requires c =
    let w = (goal.at.clear-requires c).In_ok-model_validity in
    rw c.work_room.ensures (room_left _ _ _ (lent w) (sym c.in_ok-list_validity.ensures) _ (sym c.in_ok-root.ensures) (rooms w) c.first_solvable-choice.ensures)

pub returns-then-choice-root : goal.returns-then-choice-root
returns-then-choice-root c =
    let w = (goal.at.returns-then-choice-root c).In_ok-model_validity in
    answers _ _ _ (lent w) (sym c.in_ok-list_validity.ensures) _ (sym c.in_ok-root.ensures) (rooms w) c.first_solvable-choice.ensures
    _ (rw c.work_room.ensures at c.clear.ensures) _ (sym (found_yes _ _ c.if-choice-root.true))

pub returns : goal.returns
returns c =
    let w = (goal.at.returns c).In_ok-model_validity in
    answers _ _ _ (lent w) (sym c.in_ok-list_validity.ensures) _ (sym c.in_ok-root.ensures) (rooms w) c.first_solvable-choice.ensures
    _ (rw c.work_room.ensures at c.clear.ensures) _ (sym (found_no _ _ c.if-choice-root.false))
