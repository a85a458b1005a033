-- `engine_packed_steps::layout::row_at` meets its contract: with at most the greatest n no number comes near 64 bits.
use native.Mathlib.Omega.{arith}
use Rattle.engine_packed_steps.specs.Layout.{square_small}
use Rattle.engine_packed_steps.proofs.layout.row_at.Goals as goal

pub overflow_mul-result : goal.overflow_mul-result
overflow_mul-result c = omega (arith, square_small c.args.n c.requires)

pub overflow_mul-result-2 : goal.overflow_mul-result-2
overflow_mul-result-2 c = omega (arith, square_small c.args.n c.requires)

pub overflow_add-result-2 : goal.overflow_add-result-2
overflow_add-result-2 c = omega (arith, square_small c.args.n c.requires)

pub overflow_add-result-3 : goal.overflow_add-result-3
overflow_add-result-3 c = omega (arith, square_small c.args.n c.requires)

pub returns : goal.returns
returns c = omega arith
