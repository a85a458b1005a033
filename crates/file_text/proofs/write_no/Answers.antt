-- `file_text::write_no` meets its contract.
use mathlib.Core.Path.{◌≡◌, ap, ◌∙◌}
use Prim.Native.Nat.{ℕ, ◌≤◌}
use native.Mathlib.Omega.{arith}
use lib.ListN.{length, take}
use lib.Seq.{take-length}
use Rattle.file_text.specs.Text.{spaced, no_text}
use Rattle.file_text.specs.Put.{nothing, then, wider, same, wrote}
use Rattle.file_text.specs.Steps.{spaced_more}
use Rattle.file_text.proofs.write_no.Goals as goal

pub loop-i-init : goal.loop-i-init
unfolding spaced
loop-i-init c = wider (omega arith) (nothing (omega arith))

pub loop-i-preserved : goal.loop-i-preserved
loop-i-preserved c =
    same
    (spaced_more c.loop-i.i c.args.numbers.now (omega arith))
    (wider (omega arith) (then (omega arith) c.loop-i.invariant c.put_next-at.ensures))

pub returns : goal.returns
unfolding no_text
returns c =
    let ns = c.args.numbers.now in
    let h : 0 ≤ length c.args.out.now = omega arith in
    let e : c.loop-i.i ≡ length ns = omega arith in
    let numbers = same (ap (λ (i : ℕ). spaced (take i ns)) e ∙ ap spaced (take-length ns)) c.loop-i.invariant in
    wrote (omega arith) (then h (then h c.put_text-at.ensures numbers) c.put_byte.ensures)
