-- `engine_reduced_start::fill_far` meets its contract.
use mathlib.Core.Path.{refl, subst}
use Prim.Native.Nat.{ℕ}
use native.Mathlib.Omega.{arith}
use Rattle.engine_reduced_start.specs.Start.{AllFar, filled_start, filled_more}
use borrow.Author.Rules.{rules}
use Rattle.engine_reduced_start.proofs.fill_far.Goals as goal

pub loop-k-init : goal.loop-k-init
loop-k-init c = (refl, filled_start c.args.pot c.args.size c.args.work.now)

pub loop-k-preserved : goal.loop-k-preserved
loop-k-preserved c =
    (search rules, filled_more c.loop-k.invariant.1 (omega (arith, c.requires, c.loop-k.invariant.0)) c.loop-k-test.true)

pub returns : goal.returns
returns c =
    subst (λ (k : ℕ). AllFar c.args.pot c.args.size c.args.work.now c.loop-k.work k) (omega (arith, c.loop-k.invariant.1.at_most, c.loop-k-test.false)) c.loop-k.invariant.1
