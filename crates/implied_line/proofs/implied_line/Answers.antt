-- `implied_line::implied_line` meets its contract: a refusal, or what the searches answer, with the work area cleared.
use Rattle.std.proofs.lemmas.Result.{err_from_is_err_and}
use Rattle.std.specs.Prelude.{Ok}
use mathlib.Core.Path.{◌≡◌, sym, ◌∙◌}
use Rattle.decide_buffers.specs.Room.{ModelLent, model_lengths_of}
use Rattle.implied_line.specs.Answer.{question_validity_lem}
use Rattle.implied_line.specs.Judged.{asked, few, refused, room_left, answers}
use Rattle.implied_line.proofs.implied_line.Goals.{In_ok-question_validity, Start}
use Rattle.implied_line.proofs.implied_line.Goals as goal

-- what the buffers held
module _ (start : Start) where
  abbrev lent : ModelLent
  lent = record { model = start.args.model.now; work = start.args.work.now }

pub returns-in_err-question_validity : goal.returns-in_err-question_validity
returns-in_err-question_validity c =
    let p = err_from_is_err_and c.from_residual.result c.from_residual.ensures.1 in
    rw (p.1, p.2) (refused _ _ _ (lent (goal.at.returns-in_err-question_validity c).Start) _ (sym c.question_validity.ensures ∙ c.in_err-question_validity.was))

-- nothing is refused
module _ (told : In_ok-question_validity) where
  valid : question_validity_lem told.args.n told.args.list.now told.args.line (model_lengths_of (lent (goal.at.In_ok-question_validity told).Start)) ≡ Ok tt
  valid = sym told.question_validity.ensures ∙ told.in_ok-question_validity.was

pub judged_line-answer-requires : goal.judged_line-answer-requires
judged_line-answer-requires c = asked _ _ _ (lent (goal.at.judged_line-answer-requires c).Start) (valid (goal.at.judged_line-answer-requires c).In_ok-question_validity)

pub work_room-requires : goal.work_room-requires
work_room-requires c =
    few _ _ _ _ _ (asked _ _ _ (lent (goal.at.work_room-requires c).Start) (valid (goal.at.work_room-requires c).In_ok-question_validity))

pub clear-requires : goal.clear-requires
clear-requires c =
    rw c.work_room.ensures (room_left _ _ _ (lent (goal.at.clear-requires c).Start) (valid (goal.at.clear-requires c).In_ok-question_validity) c.judged_line-answer.ensures)

pub returns : goal.returns
returns c =
    answers _ _ _ (lent (goal.at.returns c).Start) (valid (goal.at.returns c).In_ok-question_validity) c.judged_line-answer.ensures _ (rw c.work_room.ensures at c.clear.ensures)
