-- `differences::refuted_or_answered` meets its contract: the search refutes the list, or leaves potentials, from which the table is made and the answers are
-- written.
use Rattle.differences.specs.Answered.{answered_no, answers_ready, answered_yes}
use Rattle.differences.proofs.refuted_or_answered.Goals as goal

pub returns-then-refuted_differences : goal.returns-then-refuted_differences
returns-then-refuted_differences c =
    answered_no c.requires c.refuted_differences.ensures c.if-refuted_differences.true

pub write_plain_answers-requires : goal.write_plain_answers-requires
write_plain_answers-requires c =
    answers_ready c.requires c.refuted_differences.ensures c.if-refuted_differences.false c.write_plain_table.ensures

pub returns : goal.returns
returns c =
    answered_yes c.requires c.refuted_differences.ensures c.if-refuted_differences.false c.write_plain_table.ensures _ _ _
    c.write_plain_answers.ensures
