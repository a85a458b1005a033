-- The table on reduced weights, begun and settled: what each part leaves is what the next one asks.
use Rattle.std.specs.Prelude.{◌≡◌, Bool, true, false, List, ℕ, ◌+◌, ◌*◌, ◌≤◌, ℤ, length}
use Rattle.std.proofs.Common.{arith}
use Rattle.integers.specs.Laws.{never}
use Rattle.lines.specs.Limits.{max_variables}
use Rattle.theory_walks.specs.Mirror.{Mirrored}
use Rattle.engine_packed_steps.specs.Steps.{steps_in, StepsReady}
use Rattle.engine_packed_steps.specs.Scratch.{Scratch, scratch_none, scratch_trans, scratch_wider}
use Rattle.engine_packed_steps.specs.Layout.{row_width, row_at, places_at, points_at_lem, engine_end}
use Rattle.engine_reduced_table.specs.Reduced.{table_end, Reduced, Kept}
use Rattle.engine_reduced_start.specs.Start.{PointsReady, Pointed, AllFar, first_reduced, far_kept}
use Rattle.engine_settled_table.specs.Settled.{AllSettled, TableIf}
use Rattle.engine_ordered_rounds.specs.Rounds.{Rounded}

-- ---- begun
pub record StartReady (count n : ℕ) (w : List ℤ) : Type 0 where
  pub few : n ≤ max_variables
  pub steps : StepsReady count (places_at n) (2 * n) w
  pub mirrored : Mirrored (steps_in count w)
  pub room : engine_end n ≤ length w

pub record Started (count n : ℕ) (w w' : List ℤ) : Type 0 where
  pub reduced : Reduced count (points_at_lem n) (2 * n) w'
  pub scratch : Scratch (points_at_lem n) (table_end (points_at_lem n) (2 * n)) w w'

module _ {count n : ℕ} {w : List ℤ} (a : StartReady count n w) where
  pub points_ready : PointsReady count (points_at_lem n) (2 * n) (row_at n) (places_at n + n) w
  points_ready = record {
    steps = record { few = a.steps.few; before = omega (arith, a.steps.before); room = omega (arith, a.room); ok = a.steps.ok };
    mirrored = a.mirrored;
    even = omega arith;
    points = omega (arith, a.few);
    room = omega (arith, a.room);
    row_room = omega (arith, a.room);
    order_room = omega (arith, a.room);
  }

  module _ (w₁ : List ℤ) (p : Pointed (points_at_lem n) (2 * n) w w₁ (2 * n)) where
    pub far_room : table_end (points_at_lem n) (2 * n) ≤ length w₁
    far_room = omega (arith, a.room, p.scratch.same_length)

    module _ (w₂ : List ℤ) (f : AllFar (points_at_lem n) (2 * n) w₁ w₂ (2 * n * row_width (2 * n))) where
      pub begun : Reduced count (points_at_lem n) (2 * n) w₂
      begun = first_reduced points_ready w₁ p w₂ f

      pub started : (w₃ : List ℤ) → Kept count (points_at_lem n) (2 * n) w₂ w₃ → Started count n w w₃
      started w₃ k = record {
        reduced = k.reduced;
        scratch = scratch_trans (scratch_wider (omega arith) (omega arith) p.scratch)
            (scratch_trans (scratch_wider (omega arith) (omega arith) f.scratch) (scratch_wider (omega arith) (omega arith) k.scratch));
      }

-- ---- settled
pub record SettleReady (count pot size : ℕ) (w : List ℤ) : Type 0 where
  pub reduced : Reduced count pot size w
  pub room : table_end pot size + 2 * size ≤ length w

-- the table is one again, nothing around it but the room of rounds is changed, and where it is said, it is settled
pub record Settling (count pot size : ℕ) (w w' : List ℤ) (r : Bool) : Type 0 where
  pub reduced : Reduced count pot size w'
  pub scratch : Scratch (pot + size) (table_end pot size + 2 * size) w w'
  pub settled : r ≡ true → AllSettled count pot size w'

pub settling_none : {count pot size : ℕ} {w : List ℤ} → Reduced count pot size w → Settling count pot size w w false
settling_none {pot} {size} {w} r = record { reduced = r; scratch = scratch_none (pot + size) (table_end pot size + 2 * size) w; settled = λ z. never (cc) }

pub kept_settling : {count pot size : ℕ} {w w' : List ℤ} → Kept count pot size w w' → Settling count pot size w w' false
kept_settling k = record { reduced = k.reduced; scratch = scratch_wider (omega arith) (omega arith) k.scratch; settled = λ z. never (cc) }

pub settling_trans : {count pot size : ℕ} {w w' w'' : List ℤ} {b r : Bool} → Settling count pot size w w' b → Settling count pot size w' w'' r → Settling count pot size w w'' r
settling_trans a b = record { reduced = b.reduced; scratch = scratch_trans a.scratch b.scratch; settled = b.settled }

pub settling_looked : {count pot size : ℕ} {w w' : List ℤ} {b : Bool} → Settling count pot size w w' b → (r : Bool) → TableIf count pot size w' r → Settling count pot size w w' r
settling_looked a r t = record { reduced = a.reduced; scratch = a.scratch; settled = t.yes }

pub rounded_settling : {count pot size : ℕ} {w w' : List ℤ} → Rounded count pot size w w' → Settling count pot size w w' false
rounded_settling k = record { reduced = k.reduced; scratch = k.scratch; settled = λ z. never (cc) }

-- it begins anew
pub settling_far : {count pot size : ℕ} {w w' : List ℤ} {b : Bool} → Settling count pot size w w' b → (w'' : List ℤ) → AllFar pot size w' w'' (size * row_width size) → Settling count pot size w w'' false
settling_far a w'' f = settling_trans a (kept_settling (far_kept a.reduced w'' f))
