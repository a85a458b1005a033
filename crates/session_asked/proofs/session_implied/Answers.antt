-- `session_asked::session_implied` meets its contract.
use Rattle.std.proofs.lemmas.Result.{err_from_is_err_and}
use mathlib.Core.Path.{sym, ◌∙◌}
use Rattle.session_asked.specs.Asked.{line_refused, line_answered, line_valid}
use Rattle.session_asked.proofs.session_implied.Goals as goal

pub returns-in_err-question_validity : goal.returns-in_err-question_validity
returns-in_err-question_validity c =
    let p = err_from_is_err_and c.from_residual.result c.from_residual.ensures.1 in
    rw (p.1, p.2) (let a = c.args in
    line_refused a.state.now a.line _ (sym c.question_validity.ensures ∙ c.in_err-question_validity.was))

pub line_from_table-requires : goal.line_from_table-requires
line_from_table-requires c =
    line_valid _ _ (sym c.question_validity.ensures ∙ c.in_ok-question_validity.was)

pub returns : goal.returns
returns c =
    line_answered _ _ (sym c.question_validity.ensures ∙ c.in_ok-question_validity.was) _ c.line_from_table.ensures
