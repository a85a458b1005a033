-- `show_line::show_line` meets its contract: a refusal, or what the search found, with the work area cleared.
use Rattle.std.proofs.lemmas.Result.{err_from_is_err_and}
use Rattle.std.specs.Prelude.{Ok}
use mathlib.Core.Path.{◌≡◌, sym, ◌∙◌}
use Rattle.check_shown.specs.Asked.{list_ok}
use Rattle.show_line.specs.Answer.{show_validity_lem, ShowLent, lengths_of}
use Rattle.show_line.specs.Found.{show_asked, refused, room_left, answers_shown, answers_open}
use Rattle.show_line.proofs.show_line.Goals.{In_ok-show_validity, Start}
use Rattle.show_line.proofs.show_line.Goals as goal

-- what the buffers held
module _ (start : Start) where
  abbrev lent : ShowLent
  lent = record { refutation = start.args.refutation.now; identifiers = start.args.identifiers.now; work = start.args.work.now }

pub returns-in_err-show_validity : goal.returns-in_err-show_validity
returns-in_err-show_validity c =
    let p = err_from_is_err_and c.from_residual.result c.from_residual.ensures.1 in
    rw (p.1, p.2) (refused _ _ _ (lent (goal.at.returns-in_err-show_validity c).Start) _ (sym c.show_validity.ensures ∙ c.in_err-show_validity.was))

-- nothing is refused
module _ (told : In_ok-show_validity) where
  valid : show_validity_lem told.args.n told.args.list.now told.args.line (lengths_of (lent (goal.at.In_ok-show_validity told).Start)) ≡ Ok tt
  valid = sym told.show_validity.ensures ∙ told.in_ok-show_validity.was

pub found_shown-shown-requires : goal.found_shown-shown-requires
found_shown-shown-requires c = show_asked _ _ _ (lent (goal.at.found_shown-shown-requires c).Start) (valid (goal.at.found_shown-shown-requires c).In_ok-show_validity)

pub work_room-requires : goal.work_room-requires
work_room-requires c =
    (list_ok _ _ _ (show_asked _ _ _ (lent (goal.at.work_room-requires c).Start) (valid (goal.at.work_room-requires c).In_ok-show_validity)).asked).variables

pub clear-requires : goal.clear-requires
clear-requires c =
    rw c.work_room.ensures (room_left _ _ _ (lent (goal.at.clear-requires c).Start) (valid (goal.at.clear-requires c).In_ok-show_validity) _ _ _ _ c.found_shown-shown.ensures)

pub returns-then-shown : goal.returns-then-shown
returns-then-shown c =
    answers_shown _ _ _ (lent (goal.at.returns-then-shown c).Start) (valid (goal.at.returns-then-shown c).In_ok-show_validity) _ _ _ _ c.found_shown-shown.ensures _ (rw c.work_room.ensures at c.clear.ensures) c.if-shown.true

pub returns : goal.returns
returns c =
    answers_open _ _ _ (lent (goal.at.returns c).Start) (valid (goal.at.returns c).In_ok-show_validity) _ _ _ _ c.found_shown-shown.ensures _ (rw c.work_room.ensures at c.clear.ensures) c.if-shown.false
