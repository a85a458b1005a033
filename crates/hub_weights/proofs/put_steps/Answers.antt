-- `hub_weights::put_steps` meets its contract. The invariant: the steps with the numbers gone through are put.
use Prim.Native.Nat.{ℕ}
use native.Mathlib.Omega.{arith}
use borrow.Author.Tests.{not-false}
use Rattle.engine_packed_steps.specs.Scratch.{Scratch, scratch_trans}
use Rattle.hub_weights.specs.Weights.{weights_end, ready_kept}
use Rattle.hub_weights.specs.Put.{going_start, going_more, going_end, puts_not}
use mathlib.Core.Bool.{not}
use mathlib.Core.Path.{ap}
use Rattle.hub_weights.proofs.put_steps.Goals.{After-work-1}
use Rattle.hub_weights.proofs.put_steps.Goals as goal

pub loop-number-init : goal.loop-number-init
loop-number-init c = going_start c.args.n c.args.list.now c.args.work.now

pub put_numbered-put-requires : goal.put_numbered-put-requires
put_numbered-put-requires c = ready_kept c.requires c.loop-number.invariant.put.lowers.scratch

-- after one number more
module _ (c : After-work-1) where
  abbrev n : ℕ
  n = c.args.n

  since : Scratch 0 (weights_end n) c.args.work.now c.put_numbered-put.new.work
  since = scratch_trans c.loop-number.invariant.put.lowers.scratch c.put_numbered-put.ensures.scratch

pub returns-then-not-put : goal.returns-then-not-put
returns-then-not-put c = puts_not (n (goal.at.returns-then-not-put c).After-work-1) _ (since (goal.at.returns-then-not-put c).After-work-1)

pub loop-number-preserved : goal.loop-number-preserved
loop-number-preserved c =
    going_more c.loop-number.invariant (omega (arith, c.loop-number-test.true)) (c.put_numbered-put.ensures.put (not-false _ (ap not c.if-not-put.false)))

pub returns : goal.returns
returns c = going_end c.loop-number.invariant (omega (arith, c.loop-number-test.false))
