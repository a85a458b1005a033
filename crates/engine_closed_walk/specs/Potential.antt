-- A row that no step lowers is a potential: no closed walk is negative then.
use Rattle.std.specs.Prelude.{◌≡◌, true, false, List, ℕ, ◌+◌, ◌<◌, ℤ, ◌+ℤ◌}
use Rattle.std.proofs.Math.Decide.{dec_lt}
use Rattle.std.proofs.Common.{arith}
use Rattle.std.specs.Int.Signed.{lt_z}
use Rattle.integers.specs.Integer.{◌⩽◌}
use Rattle.integers.proofs.Linear.{ints}
use Rattle.lines.specs.Line.{number}
use Rattle.steps.specs.declared.Step.{Step}
use Rattle.theory_walks.specs.Negative.{no_negative}
use Rattle.theory_covering.specs.Potential.{Potential, potential_clear}
use Rattle.engine_packed_steps.specs.Steps.{step_in_lem, steps_in, StepsReady, tabulate_all}
use Rattle.engine_closed_walk.specs.Passes.{SmallRow}

pub record PotentialReady (count row size : ℕ) (w : List ℤ) : Type 0 where
  pub steps : StepsReady count row size w
  pub small : SmallRow row size w

-- a step does not lower the row
abbrev pub Keeps : ℕ → List ℤ → Step → Type 0
Keeps row w s = number w (row + s.to) ⩽ number w (row + s.from) +ℤ s.weight

-- the first i steps do not
pub record Kept (row : ℕ) (w : List ℤ) (i : ℕ) : Type 0 where
  pub each : (j : ℕ) → j < i → Keeps row w (step_in_lem w j)

pub kept_none : (row : ℕ) (w : List ℤ) → Kept row w 0
kept_none row w = record { each = λ j h. absurd (omega arith) }

pub kept_more : {row : ℕ} {w : List ℤ} {i : ℕ} → Kept row w i → Keeps row w (step_in_lem w i) → Kept row w (i + 1)
kept_more {row} {w} {i} k e = record { each = λ j h. go j h (dec_lt j i) }
  where
    go : (j : ℕ) → j < i + 1 → Dec (j < i) → Keeps row w (step_in_lem w j)
    go j h (yes a) = k.each j a
    go j h (no a) = let same : j ≡ i = omega arith in rw same e

pub not_lower : (a b : ℤ) → lt_z a b ≡ false → b ⩽ a
not_lower a b = simp ints (omega arith)

pub kept_clear : (row count size : ℕ) (w : List ℤ) → Kept row w count → no_negative (steps_in count w) size ≡ true
unfolding steps_in
kept_clear row count size w k = potential_clear (steps_in count w) (λ p. number w (row + p)) all size
  where
    all : Potential (steps_in count w) (λ p. number w (row + p))
    all s i = tabulate_all (Keeps row w) count (step_in_lem w) k.each s i
