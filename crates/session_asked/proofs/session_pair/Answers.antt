-- `session_asked::session_pair` meets its contract.
use Rattle.std.proofs.lemmas.Result.{err_from_is_err_and}
use mathlib.Core.Path.{sym, ◌∙◌}
use Rattle.session_asked.specs.Asked.{pair_refused, pair_answered, pair_valid}
use Rattle.session_asked.proofs.session_pair.Goals as goal

pub returns-in_err-two_validity : goal.returns-in_err-two_validity
returns-in_err-two_validity c =
    let p = err_from_is_err_and c.from_residual.result c.from_residual.ensures.1 in
    let a = c.args in
    rw (p.1, p.2) (pair_refused a.state.now a.x a.y _ (sym c.two_validity.ensures ∙ c.in_err-two_validity.was))

pub pair_from_table-requires : goal.pair_from_table-requires
pair_from_table-requires c = pair_valid _ _ _ (sym c.two_validity.ensures ∙ c.in_ok-two_validity.was)

pub returns : goal.returns
returns c = pair_answered _ _ _ (sym c.two_validity.ensures ∙ c.in_ok-two_validity.was) _ c.pair_from_table.ensures
