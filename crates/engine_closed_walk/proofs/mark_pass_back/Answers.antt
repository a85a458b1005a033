-- `engine_closed_walk::mark_pass_back` meets its contract: each step keeps what a pass asks.
use mathlib.Core.Path.{refl, ◌∙◌}
use Prim.Native.Nat.{◌-◌}
use native.Mathlib.Omega.{arith}
use Rattle.engine_closed_walk.specs.Passes.{passed_none, passed_more, pass_ready, mark_ready}
use Rattle.engine_closed_walk.proofs.mark_pass_back.Goals as goal

pub loop-i-init : goal.loop-i-init
loop-i-init c = (refl, passed_none c.args.row c.args.size c.args.size c.args.work.now c.requires.small (omega arith))

pub slice_copy_out-t-11 : goal.slice_copy_out-t-11
slice_copy_out-t-11 c =
    let p = pass_ready c.requires c.loop-i.invariant.1 in
    omega (arith, p.steps.before, p.room)

pub mark_at_step-last-requires : goal.mark_at_step-last-requires
mark_at_step-last-requires c =
    mark_ready (pass_ready c.requires c.loop-i.invariant.1) (c.loop-i.i - 1) (omega arith) c.loop-i.invariant.1.within

pub loop-i-preserved-then-work-i : goal.loop-i-preserved-then-work-i
loop-i-preserved-then-work-i c =
    let f = c.mark_at_step-last in
    (f.ensures.scratch.same_length ∙ c.loop-i.invariant.0, passed_more c.loop-i.invariant.1 f.ensures)

pub returns : goal.returns
returns c = c.loop-i.invariant.1
