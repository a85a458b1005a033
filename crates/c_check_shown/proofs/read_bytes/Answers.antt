-- `c_check_shown::read_bytes` meets its contract. The invariant: s is the progress after the first i numbers, is small, and has counted i.
use mathlib.Core.Path.{◌≡◌, sym, ap, ap₂, ◌∙◌}
use mathlib.Core.List.{List}
use Prim.Native.Nat.{ℕ, ◌+◌, ◌*◌, ◌/◌}
use native.Mathlib.Omega.{arith}
use lib.IntN.{ℤ}
use lib.ListN.{length}
use Rattle.lines.specs.Limits.{max_variables}
use Rattle.little_endian.specs.Bytes.{le32, first_of, next}
use Rattle.steps.specs.Step.{max_weight}
use Rattle.steps.specs.Laws.{numbered_weight}
use Rattle.check_refutation.specs.declared.Progress.{Progress}
use Rattle.check_refutation.specs.Progress.{start, advance, run}
use Rattle.check_refutation.specs.Small.{start_small, advance_small, advance_read, run_snoc}
use Rattle.c_codes.specs.ListBytes.{number_bytes}
use Rattle.c_check_shown.proofs.read_bytes.Goals as goal

pub loop-i-init : goal.loop-i-init
unfolding run first_of
loop-i-init c =
    let e = c.new-progress.ensures in
    (omega arith, e, rw e (start_small max_weight), ap (λ (s : Progress). s.read) e)

pub take-progress-requires : goal.take-progress-requires
take-progress-requires c =
    (c.requires.0 _, c.loop-i.invariant.2, omega arith)

pub loop-i-preserved : goal.loop-i-preserved
loop-i-preserved c =
    let list : List ℤ = c.args.list.now in
    let b : List ℕ = c.args.showing.now in
    let i : ℕ = c.loop-i.i in
    let x : ℕ = c.u32_at.result in
    let is : x ≡ le32 b (number_bytes * i) = c.u32_at.ensures in (
      omega arith,
      c.take-progress.ensures
          ∙ ap₂ (λ (s : Progress) (y : ℕ). advance list s y) c.loop-i.invariant.1 is
          ∙ sym (run_snoc list start (first_of number_bytes le32 b i) (le32 b (number_bytes * i)))
          ∙ ap (run list start) (next number_bytes le32 b i),
      rw c.take-progress.ensures (advance_small max_weight c.loop-i.progress c.loop-i.invariant.2 (omega arith) list x (λ t. numbered_weight max_variables list x t (c.requires.0 _)) c.u32_at.type_inv),
      ap (λ (s : Progress). s.read) c.take-progress.ensures ∙ advance_read list c.loop-i.progress x ∙ ap (λ (m : ℕ). m + 1) c.loop-i.invariant.3,
    )

pub returns : goal.returns
returns c =
    let e : c.loop-i.i ≡ length c.args.showing.now / number_bytes = omega arith in
    rw (← e) (c.loop-i.invariant.1, c.loop-i.invariant.2)
