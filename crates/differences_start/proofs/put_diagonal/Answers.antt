-- `differences_start::put_diagonal` meets its contract: one number of the diagonal after the other.
use mathlib.Core.Path.{refl}
use Rattle.differences_start.specs.Start.{diagonal_more}
use Rattle.differences_start.proofs.put_diagonal.Goals as goal

pub loop-i-preserved : goal.loop-i-preserved
loop-i-preserved c = diagonal_more c.requires c.loop-i.invariant c.loop-i-test.true refl
