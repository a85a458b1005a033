-- `file_text::write_yes` meets its contract.
use mathlib.Core.Path.{◌≡◌, ap}
use Prim.Native.Nat.{ℕ, ◌≤◌}
use native.Mathlib.Omega.{arith}
use lib.ListN.{length}
use Rattle.file_text.specs.Text.{lines_text, yes_text}
use Rattle.file_text.specs.Put.{nothing, then, wider, same, wrote}
use Rattle.file_text.specs.Steps.{lines_more}
use Rattle.file_text.proofs.write_yes.Goals as goal

pub loop-x-init : goal.loop-x-init
unfolding lines_text
loop-x-init c = wider (omega arith) (nothing (omega arith))

pub loop-x-preserved : goal.loop-x-preserved
loop-x-preserved c =
    same
    (lines_more c.loop-x.x c.args.model.now c.args.bounds.now c.args.groups.now)
    (wider (omega arith) (then (omega arith) c.loop-x.invariant c.put_variable_line-at.ensures))

pub returns : goal.returns
unfolding yes_text
returns c =
    let h : 0 ≤ length c.args.out.now = omega arith in
    let e : c.loop-x.x ≡ c.args.n = omega arith in
    let lines = same (ap (λ (x : ℕ). lines_text x c.args.model.now c.args.bounds.now c.args.groups.now) e) c.loop-x.invariant in
    wrote (omega arith) (then h c.put_text-at.ensures lines)
