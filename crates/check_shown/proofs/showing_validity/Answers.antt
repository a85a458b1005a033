-- `check_shown::showing_validity` meets its contract: a list that is not refused has few variables.
use Rattle.std.proofs.Common.{sym, ◌∙◌}
use Rattle.lines.specs.Valid.{valid_list}
use Rattle.check_shown.proofs.showing_validity.Goals as goal

pub shown_validity-requires : goal.shown_validity-requires
shown_validity-requires c = (valid_list _ _ (sym c.list_validity.ensures ∙ c.in_ok-list_validity.was)).variables
