-- `check_refutation::Progress::take` meets its contract: the step that a number names has a weight within the limit.
use Rattle.std.proofs.Common.{sym, ◌∙◌}
use Rattle.lines.specs.Limits.{max_variables}
use Rattle.steps.specs.Laws.{numbered_weight}
use Rattle.check_refutation.proofs.Progress.take.Goals as goal

pub go_along-requires : goal.go_along-requires
go_along-requires c =
    (c.requires.1, c.requires.2, numbered_weight max_variables c.args.list.now c.args.number c.in-Some.t c.requires.0 (sym c.step_numbered.ensures ∙ c.in-Some.is))
