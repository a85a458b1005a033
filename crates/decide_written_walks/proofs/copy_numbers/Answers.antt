-- `decide_written_walks::copy_numbers` meets its contract: one number more is copied each time, and a step number is not negative.
use Rattle.std.specs.Prelude.{◌≡◌, ◌+◌, ◌*◌, ◌<◌, List, ℕ, ℤ, pos, nat_abs, set}
use Rattle.std.specs.Int.{w64}
use Rattle.std.proofs.Common.{ap₂, ◌∙◌, arith, to_z, of_z, to_z-of_z, SFits}
use Rattle.integers.proofs.Linear.{ints}
use Rattle.lines.specs.Limits.{work_lines}
use Rattle.decide_written_walks.specs.Copy.{copied_more}
use Rattle.decide_written_walks.proofs.copy_numbers.Goals as goal

-- a step number is read as it is stored
small_fits : (k : ℕ) → k < 2 * work_lines → SFits w64 (pos k)
small_fits k = simp ints (omega arith)

stored : {z : ℤ} → (k : ℕ) × (z ≡ pos k) × (k < 2 * work_lines) → to_z w64 (of_z w64 z) ≡ z
stored s = rw s.1 (to_z-of_z (small_fits s.0 s.2))

pub overflow_cast-refutation : goal.overflow_cast-refutation
overflow_cast-refutation c =
    let s = c.requires.2 c.loop-i.i c.loop-i-test.true in
    rw (stored s, s.1) (tt, record { fits = omega (arith, s.2) })

pub loop-i-preserved : goal.loop-i-preserved
loop-i-preserved c =
    ap₂ (λ (l : List ℕ) (z : ℤ). set l (c.args.to + c.loop-i.i) (nat_abs z)) c.loop-i.invariant (stored (c.requires.2 c.loop-i.i c.loop-i-test.true))
    ∙ copied_more c.args.refutation.now c.args.to c.args.work.now c.args.from c.loop-i.i (omega (arith, c.requires.1)) (omega (arith, c.requires.0))
