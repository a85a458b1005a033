-- `c_check_shown::showing_of_numbers` meets its contract: where nothing is refused, the list against the line stands where zeros stood, and the pass takes it.
use Rattle.std.proofs.Common.{refl, sym, ◌∙◌}
use Rattle.std.proofs.lemmas.Result.{err_from_is_err_and}
use Rattle.lines.specs.Limits.{max_variables}
use Rattle.lines.specs.Valid.{lines_more}
use Rattle.check_shown.specs.Asked.{ShownAsked, against_ready, list_ok, works}
use Rattle.c_check_shown.specs.Laws.{refused_first, line_asked}
use Rattle.c_check_shown.proofs.showing_of_numbers.Goals.{In_ok-showing_validity}
use Rattle.c_check_shown.proofs.showing_of_numbers.Goals as goal

pub returns-in_err-showing_validity : goal.returns-in_err-showing_validity
returns-in_err-showing_validity c =
    let p = err_from_is_err_and c.from_residual.result c.from_residual.ensures.1 in
    rw (p.1, p.2) (sym (refused_first _ _ _ c.args.showing.now _ (sym c.showing_validity.ensures ∙ c.in_err-showing_validity.was)))

-- nothing of the list and the line is refused
valid : (c : In_ok-showing_validity) → ShownAsked c.args.n c.args.list.now c.args.line
valid c = line_asked _ _ _ c.args.showing.now (sym c.showing_validity.ensures ∙ c.in_ok-showing_validity.was)

pub write_against-requires : goal.write_against-requires
write_against-requires c = against_ready _ _ _ (valid (goal.at.write_against-requires c).In_ok-showing_validity) _ refl

-- the lines work for each variable number that the limits allow
pub read_bytes-requires : goal.read_bytes-requires
read_bytes-requires c =
    let a = valid (goal.at.read_bytes-requires c).In_ok-showing_validity in
    (rw c.write_against.ensures (lines_more c.args.n max_variables _ (list_ok _ _ _ a).variables (works _ _ _ a).lines), c.if-showing.false)
