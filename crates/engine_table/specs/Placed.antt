-- The variables get places, and the steps at the front are renamed by them.
use Rattle.std.specs.Prelude.{◌≡◌, Bool, true, false, List, ℕ, ◌+◌, ◌*◌, ◌≤◌, ℤ, length}
use Rattle.std.proofs.Common.{arith}
use Rattle.integers.specs.Laws.{never}
use Rattle.lines.specs.Limits.{max_variables}
use Rattle.engine_packed_steps.specs.Steps.{steps_in, StepsReady}
use Rattle.engine_packed_steps.specs.Scratch.{Scratch, scratch_trans, scratch_wider, scratch_ready, scratch_steps}
use Rattle.engine_renaming.specs.Inverse.{Inverse}
use Rattle.engine_renaming.specs.Renamed.{RenameReady, StepsRenamed}

pub record PlaceReady (count n at : ℕ) (w : List ℤ) : Type 0 where
  pub few : n ≤ max_variables
  pub steps : StepsReady count at (2 * n) w
  pub room : at + 3 * n ≤ length w

-- `between` has the steps as they were, and the places
pub record Renamed (count n at : ℕ) (w w' : List ℤ) : Type 0 where
  pub between : List ℤ
  pub inverse : Inverse n at between
  pub same : steps_in count between ≡ steps_in count w
  pub renamed : StepsRenamed count n at between w'

pub record Placed (count n at : ℕ) (w w' : List ℤ) (r : Bool) : Type 0 where
  pub scratch : Scratch 0 (at + 3 * n) w w'
  pub on_yes : r ≡ true → Renamed count n at w w'

module _ {count n at : ℕ} {w : List ℤ} (a : PlaceReady count n at w) (w₁ : List ℤ) (s : Scratch at (at + 3 * n) w w₁) where
  pub rename_ready : Inverse n at w₁ → RenameReady count n at w₁
  rename_ready v = record { few = a.few; steps = scratch_ready a.steps s; inverse = v; room = omega (arith, a.room, s.same_length) }

  pub placed_not : Placed count n at w w₁ false
  placed_not = record { scratch = scratch_wider (omega arith) (omega arith) s; on_yes = λ z. never (cc) }

  pub placed_yes : Inverse n at w₁ → (w₂ : List ℤ) → StepsRenamed count n at w₁ w₂ → Placed count n at w w₂ true
  placed_yes v w₂ r = record {
    scratch = scratch_trans (scratch_wider (omega arith) (omega arith) s) (scratch_wider (omega arith) (omega (arith, a.steps.before)) r.scratch);
    on_yes = λ _. record { between = w₁; inverse = v; same = scratch_steps a.steps s; renamed = r };
  }
