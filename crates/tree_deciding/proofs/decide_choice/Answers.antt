-- `tree_deciding::decide_choice` meets its contract: a refusal of the list or of the tree, or what deciding the choice's list leaves.
use Rattle.std.proofs.Common.{sym}
use Rattle.std.proofs.lemmas.Result.{err_from_is_err_and}
use Rattle.lines.specs.Valid.{valid_list}
use Rattle.tree_deciding.specs.Choice.{list_refused, tree_refused, decides}
use Rattle.tree_deciding.proofs.decide_choice.Goals as goal

pub returns-in_err-list_validity : goal.returns-in_err-list_validity
returns-in_err-list_validity c =
    let p = err_from_is_err_and c.from_residual.result c.from_residual.ensures.1 in
    rw (p.1, p.2) (list_refused _ _ _ _ _ _ (sym c.in_err-list_validity.ensures))

pub returns-in_err-root : goal.returns-in_err-root
returns-in_err-root c =
    let result = c.from_residual-in_err-root in
    let p = err_from_is_err_and result.result result.ensures.1 in
    rw (p.1, p.2) (tree_refused _ _ _ _ _ (sym c.in_ok-list_validity.ensures) _ (sym c.in_err-root.ensures))

pub decide_listed-requires : goal.decide_listed-requires
decide_listed-requires c = valid_list _ _ (sym c.in_ok-list_validity.ensures)

pub returns : goal.returns
returns c = decides _ _ _ _ _ (sym c.in_ok-list_validity.ensures) _ (sym c.in_ok-root.ensures) c.decide_listed.ensures
