-- A walk between two points: the row of its start, passes over it, and the marks followed back.
use Rattle.std.specs.Prelude.{◌≡◌, List, ℕ, ◌+◌, ◌*◌, ◌<◌, ◌≤◌, ℤ, pos, length, set}
use Rattle.std.proofs.Common.{◌∙◌, arith, get_or-set_same, get_or-set_other}
use Rattle.std.proofs.Math.Decide.{ℕ_discrete}
use Rattle.integers.specs.Integer.{Within}
use Rattle.integers.proofs.Linear.{ints}
use Rattle.lines.specs.Line.{number}
use Rattle.engine_packed_steps.specs.Steps.{StepsReady}
use Rattle.engine_packed_steps.specs.Scratch.{Scratch, scratch_at, scratch_set, scratch_trans, scratch_wider, scratch_behind}
use Rattle.engine_packed_steps.specs.Layout.{row_at, places_at}
use Rattle.engine_closed_walk.specs.Filled.{Filled}
use Rattle.engine_closed_walk.specs.Passes.{max_mark, Passed, PassReady}
use Rattle.engine_closed_walk.specs.declared.Followed.{Followed}
use Rattle.engine_closed_walk.specs.Follow.{FollowReady, WalkAt, FollowedBack}

-- ---- the row of a source
far_small : Within max_mark (pos max_mark)
far_small = record { low = simp ints (omega arith); high = simp ints (omega arith) }

zero_small : Within max_mark (pos 0)
zero_small = record { low = simp ints (omega arith); high = simp ints (omega arith) }

pub row_started : {row size source : ℕ} {w w₁ w₂ : List ℤ} {mark : ℤ} → row + 2 * size ≤ length w → source < size → Filled row (row + size) (pos max_mark) (row + size) w w₁ → Filled (row + size) (row + size + size) mark (row + size + size) w₁ w₂
    → Passed row size w (set w₂ (row + source) (pos 0)) size
row_started {row} {size} {source} {w} {w₁} {w₂} room low a b = record {
  scratch =
      scratch_trans (scratch_trans (scratch_wider (omega arith) (omega arith) a.scratch) (scratch_wider (omega arith) (omega arith) b.scratch))
      (scratch_set row (row + 2 * size) w₂ (row + source) (pos 0) (omega arith) (omega (arith, low)));
  small = λ p l. each p l (ℕ_discrete p source);
  within = omega arith;
}
  where
    each : (p : ℕ) → p < size → Dec (p ≡ source) → Within max_mark (number (set w₂ (row + source) (pos 0)) (row + p))
    each p l (yes e) = rw (e, get_or-set_same w₂ (row + source) (pos 0) (pos 0) (omega (arith, room, low, a.scratch.same_length, b.scratch.same_length))) zero_small
    each p l (no n) =
        rw
        (get_or-set_other w₂ (row + source) (row + p) (pos 0) (pos 0) (λ x. n (omega (arith, x))), scratch_at b.scratch (row + p) (omega (arith, l)), a.are (row + p) (omega arith) (omega (arith, l)))
        far_small

-- ---- passes, whatever the last of them lowered
pub passed_after : {row size : ℕ} {w w₁ w₂ : List ℤ} {p q : ℕ} → Passed row size w w₁ p → Passed row size w₁ w₂ q → Passed row size w w₂ size
passed_after a b = record { scratch = scratch_trans a.scratch b.scratch; small = b.small; within = omega arith }

-- ---- the walk
-- the steps stand before this
abbrev pub steps_end : ℕ → ℕ
steps_end n = 2 * n * (2 * n)

pub record BetweenReady (n : ℕ) (L : List ℤ) (count : ℕ) (w : List ℤ) (u v end : ℕ) : Type 0 where
  pub ready : FollowReady n L w v end
  pub behind : steps_end n + 2 * n ≤ end
  pub source : u < 2 * n
  pub steps : StepsReady count (steps_end n) (2 * n) w

-- what stands between the end and the row is kept
pub record WalkedBetween (n : ℕ) (L w : List ℤ) (u v end : ℕ) (w' : List ℤ) (r : Followed) : Type 0 where
  pub scratch : Scratch (steps_end n) (places_at n) w w'
  pub kept : (i : ℕ) → end ≤ i → i < row_at n → number w' i ≡ number w i
  pub walk : WalkAt n L u v end w' r

module _ {n : ℕ} {L : List ℤ} {count : ℕ} {w : List ℤ} {u v end : ℕ} (a : BetweenReady n L count w u v end) {row : ℕ} (is : row ≡ row_at n) where
  module _ {w₁ : List ℤ} {last : ℕ} (m : Passed row (2 * n) w w₁ last) where
    pub between_pass : PassReady count row (2 * n) w₁
    between_pass = record {
      steps = record {
        few = a.steps.few;
        before = omega (arith, is, a.steps.before);
        room = omega (arith, is, a.ready.room, m.scratch.same_length);
        ok = λ i l. rw (scratch_at m.scratch i (omega (arith, is, l, a.steps.before))) (a.steps.ok i l);
      };
      room = omega (arith, is, a.ready.room, m.scratch.same_length);
      small = m.small;
    }

    pub between_follow : FollowReady n L w₁ v end
    between_follow = record {
      few = a.ready.few;
      valid = a.ready.valid;
      lines = a.ready.lines;
      low = a.ready.low;
      high = a.ready.high;
      room = omega (arith, a.ready.room, m.scratch.same_length);
      within = a.ready.within;
    }

    pub walked_between : {w₂ : List ℤ} {r : Followed} → FollowedBack n L w₁ u v end w₂ r → WalkedBetween n L w u v end w₂ r
    walked_between f = record {
      scratch = scratch_trans (scratch_wider (omega (arith, is)) (omega (arith, is)) m.scratch) (scratch_wider (omega (arith, a.behind)) (omega (arith, a.ready.high)) f.scratch);
      kept = λ i h l. scratch_behind f.scratch i h ∙ scratch_at m.scratch i (omega (arith, is, l));
      walk = f.walk;
    }
