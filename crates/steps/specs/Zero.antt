-- The line 0 ≤ 0 has no step, and is no false line.
use Rattle.std.specs.Prelude.{◌≡◌, refl, false, ℕ, zero, suc, ◌<◌, None}
use Rattle.std.proofs.Common.{arith}
use Rattle.lines.specs.Line.{is_false_lem}
use Rattle.lines.specs.Zero.{zero_line}
use Rattle.steps.specs.Table.{entry, digit}
use Rattle.steps.specs.Step.{step_of}

pub zero_no_step : (side : ℕ) → side < 2 → step_of zero_line side ≡ None
unfolding step_of entry digit
zero_no_step zero h = refl
zero_no_step (suc zero) h = refl
zero_no_step (suc (suc side)) h = absurd (omega arith)

pub zero_not_false : is_false_lem zero_line ≡ false
unfolding is_false_lem
zero_not_false = refl
