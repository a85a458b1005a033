-- `engine_merged_steps::all_laid` meets its contract.
use mathlib.Core.Bool.{false≢true}
use native.Mathlib.Omega.{arith}
use Rattle.engine_packed_steps.specs.Layout.{square_small}
use Rattle.engine_merged_steps.proofs.all_laid.Goals as goal

pub overflow_mul-n-3 : goal.overflow_mul-n-3
overflow_mul-n-3 c = record { fits = omega (arith, square_small c.args.n c.requires) }

pub returns-then-list-n : goal.returns-then-list-n
returns-then-list-n c = λ _. omega (arith, c.if-list-n.true)

pub returns : goal.returns
returns c = λ e. absurd (false≢true e)
