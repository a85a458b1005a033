-- `differences_lines::plain_step` meets its contract: a difference has variables on both sides.
use native.Mathlib.Omega.{arith}
use Rattle.std.proofs.lemmas.Grind.{common_steps}
use Rattle.differences_lines.specs.PlainList.{plain_x, plain_y}
use Rattle.differences_lines.proofs.plain_step.Goals as goal

pub step_between-requires : goal.step_between-requires
step_between-requires c = (grind (arith, common_steps, plain_x c.requires), grind (arith, common_steps, plain_y c.requires))
