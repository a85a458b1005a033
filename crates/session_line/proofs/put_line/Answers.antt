-- `session_line::put_line` meets its contract: the table keeps its size between the two steps.
use mathlib.Core.Path.{ap, ◌∙◌}
use Prim.Native.Nat.{◌+◌, ◌*◌}
use Rattle.steps.specs.Step.{step_numbered_lem}
use Rattle.session_line.specs.Numbered.{named_after}
use Rattle.session_line.proofs.put_line.Goals as goal

pub returns : goal.returns
returns c =
    let second = c.put_numbered-2 in
    let a = c.args in
    second.ensures ∙ ap (named_after (2 * a.n) (step_numbered_lem a.list.now (2 * a.k + 1))) c.put_numbered.ensures
