-- The marks followed back: what is asked for a look at one, and what the number that is handed over is.
use Rattle.std.specs.Prelude.{◌≡◌, false, List, ℕ, ◌+◌, ◌*◌, ◌≤◌, ◌<◌, ℤ, pos, length, Some}
use Rattle.std.proofs.Common.{arith}
use Rattle.std.specs.Int.Signed.{lt_z}
use Rattle.integers.specs.Integer.{◌⩽◌}
use Rattle.integers.proofs.Linear.{ints}
use Rattle.lines.specs.Limits.{max_variables}
use Rattle.lines.specs.Line.{line_count}
use Rattle.lines.specs.Valid.{LinesOk}
use Rattle.steps.specs.declared.Step.{Step}
use Rattle.steps.specs.Step.{step_numbered_lem}
use Rattle.steps.specs.Laws.{number_below}

-- a mark that is a step
pub not_below : (z : ℤ) → lt_z z (pos 0) ≡ false → pos 0 ⩽ z
not_below z = simp ints (omega arith)

pub record BackReady (n : ℕ) (L : List ℤ) (marks at : ℕ) (w : List ℤ) : Type 0 where
  pub few : n ≤ max_variables
  pub valid : LinesOk n L
  pub room : marks + at < length w

-- the step with this number, if there is one, ends at the point
pub record EndsAt (L : List ℤ) (at k : ℕ) : Type 0 where
  pub ends : (t : Step) → step_numbered_lem L k ≡ Some t → t.to ≡ at

pub ends_nowhere : (L : List ℤ) (at : ℕ) → EndsAt L at (2 * line_count L)
ends_nowhere L at = record { ends = λ t e. absurd (omega (arith, number_below L (2 * line_count L) t e)) }
