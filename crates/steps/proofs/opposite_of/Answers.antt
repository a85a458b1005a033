-- `steps::opposite_of` meets its contract.
use native.Mathlib.Omega.{arith}
use Rattle.steps.specs.Point.{opposite}
use Rattle.steps.proofs.opposite_of.Goals as goal

pub returns-then-p-eq0 : goal.returns-then-p-eq0
unfolding opposite
returns-then-p-eq0 c = omega arith

pub returns-else-p-eq0 : goal.returns-else-p-eq0
unfolding opposite
returns-else-p-eq0 c = omega arith
