-- `session_kept::step_wide` meets its contract: the step that is found is one of the list's.
use mathlib.Core.Path.{sym, ◌∙◌}
use Rattle.decide_rows.specs.Numbers.{StepOk, numbered_ok}
use Rattle.session_kept.proofs.step_wide.Goals as goal

pub sum_along-requires : goal.sum_along-requires
sum_along-requires c =
    let ok : StepOk c.args.n c.in-Some.step = numbered_ok c.args.n c.args.list.now c.requires.1 c.args.number c.in-Some.step (sym c.step_numbered.ensures ∙ c.in-Some.is) in
    (c.requires.0, ok, ok.to_lt)
