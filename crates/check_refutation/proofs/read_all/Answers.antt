-- `check_refutation::read_all` meets its contract: one number more is taken each time.
use Rattle.std.specs.Prelude.{ℕ, take, get_or, ◌+◌}
use Rattle.std.proofs.Common.{refl, sym, ap, ◌∙◌, add-one, arith}
use Rattle.std.proofs.Math.Seq.{take-suc}
use Rattle.lines.specs.Limits.{max_variables}
use Rattle.steps.specs.Step.{max_weight}
use Rattle.steps.specs.Laws.{numbered_weight}
use Rattle.check_refutation.specs.declared.Progress.{Progress}
use Rattle.check_refutation.specs.Progress.{start, advance, run}
use Rattle.check_refutation.specs.Small.{start_small, advance_small, advance_read, run_snoc}
use Rattle.check_refutation.proofs.read_all.Goals as goal

pub loop-number-init : goal.loop-number-init
unfolding run
loop-number-init c = rw c.new-progress.ensures (record { run = refl; small = start_small max_weight; read = refl })

pub loop-number-preserved : goal.loop-number-preserved
loop-number-preserved c =
    let list = c.args.list.now in
    let xs = c.args.refutation.now in
    let i : ℕ = c.loop-number.number-index in
    let x : ℕ = get_or xs i 0 in
    let known = c.loop-number.invariant in
    let e = c.take-progress.ensures in
    record {
      run =
          e
          ∙ ap (λ (s : Progress). advance list s x) known.run
          ∙ sym (run_snoc list start (take i xs) x)
          ∙ ap (run list start) (sym (take-suc xs i 0 c.loop-number-test.true) ∙ ap (λ (m : ℕ). take m xs) (sym (add-one i)));
      small = rw e (advance_small max_weight c.loop-number.progress known.small (omega arith) list x (λ t. numbered_weight max_variables list x t (c.requires.0 _)) (omega (arith, c.type_inv.refutation i)));
      read = ap (λ (s : Progress). s.read) e ∙ advance_read list c.loop-number.progress x ∙ ap (λ (m : ℕ). m + 1) known.read;
    }
