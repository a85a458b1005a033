-- `differences_walk::makes` meets its contract: the step of a line of such a list begins at a variable, and has a small weight.
use Rattle.differences_lines.specs.PlainList.{plain_at}
use Rattle.differences_walk.specs.Makes.{from_inside, weight_small}
use Rattle.differences_walk.proofs.makes.Goals as goal

pub plain_step-requires : goal.plain_step-requires
plain_step-requires c = plain_at c.requires.0.plain c.args.k c.requires.1

pub step_makes-requires : goal.step_makes-requires
step_makes-requires c =
    let step = c.plain_step in
    let inside = from_inside c.requires.0 c.args.k c.requires.1 step.result step.ensures in
    (inside, λ _. c.requires.0.small step.result.from inside, weight_small c.requires.0 c.args.k c.requires.1 step.result step.ensures)
