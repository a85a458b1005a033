-- `file_report::report_list` meets its contract.
use mathlib.Core.Path.{ap, ◌∙◌}
use native.Mathlib.Omega.{arith}
use Rattle.std.specs.Prelude.{Ok}
use Rattle.decide_buffers.specs.Room.{fewer_room}
use Rattle.file_report.specs.Report.{most_variables}
use Rattle.file_report.specs.Laws.{yes_written, no_written, is_answered}
use Rattle.file_report.proofs.report_list.Goals as goal

pub unwrap-answer-requires : goal.unwrap-answer-requires
unwrap-answer-requires c =
    let p = c.requires in
    is_answered c.decide-decided.ensures p.valid
    (fewer_room c.args.n most_variables p.few _ (omega arith, (omega arith, (omega arith, (omega arith, (omega arith, (omega arith, tt)))))))

pub returns-in-Yes : goal.returns-in-Yes
returns-in-Yes c =
    yes_written c.decide-decided.ensures (c.unwrap-answer.ensures ∙ ap Ok c.in-Yes.is)
    c.model_room.ensures c.bounds_room.ensures c.groups_room.ensures c.write_yes.ensures

pub returns-in-No : goal.returns-in-No
returns-in-No c =
    no_written c.decide-decided.ensures (c.unwrap-answer.ensures ∙ ap Ok c.in-No.is) c.report_no.ensures
