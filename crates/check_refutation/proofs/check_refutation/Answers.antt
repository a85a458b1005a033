-- `check_refutation::check_refutation` meets its contract: a list that is not refused has small weights.
use Rattle.std.proofs.Common.{sym, ◌∙◌}
use Rattle.lines.specs.Limits.{max_variables}
use Rattle.lines.specs.Valid.{valid_list, lines_more}
use Rattle.check_refutation.proofs.check_refutation.Goals as goal

pub read_all-requires : goal.read_all-requires
read_all-requires c =
    let o = valid_list c.args.n c.args.list.now (sym c.list_validity.ensures ∙ c.in_ok-list_validity.was) in
    (lines_more c.args.n max_variables c.args.list.now o.variables o.lines, c.if-refutation-gt-MAX_REFUTATION.false)
