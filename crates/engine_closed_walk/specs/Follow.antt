-- A walk followed back by the marks: each number names a step that ends where the walk followed so far begins.
use Rattle.std.specs.Prelude.{◌≡◌, refl, List, [], ◌∷◌, ℕ, ◌+◌, ◌*◌, ◌-◌, ◌<◌, ◌≤◌, ℤ, pos, ◌+ℤ◌, length, set, Some}
use Rattle.std.proofs.Common.{subst, arith, SFits}
use Rattle.std.specs.Int.{w64}
use Rattle.integers.specs.Integer.{Within}
use Rattle.integers.proofs.Linear.{ints, zs}
use Rattle.lines.specs.Limits.{max_variables, work_lines}
use Rattle.lines.specs.Line.{line_count}
use Rattle.lines.specs.Valid.{LinesOk}
use Rattle.steps.specs.declared.Step.{Step}
use Rattle.steps.specs.Step.{max_weight, step_numbered_lem}
use Rattle.steps.specs.Walk.{total}
use Rattle.theory_walks.specs.Size.{within_more, within_sum}
use Rattle.decide_rows.specs.Numbers.{StepOk, numbered_ok}
use Rattle.decide_walkback.specs.Makes.{max_entry}
use Rattle.steps.specs.Laws.{number_below}
use Rattle.engine_packed_steps.specs.Scratch.{Scratch, scratch_none, scratch_set, scratch_trans}
use Rattle.engine_packed_steps.specs.Layout.{row_at, places_at}
use Rattle.engine_closed_walk.specs.declared.Followed.{Followed}
use Rattle.decide_written_walks.specs.Stretch.{Stretch, stand_before}

pub record FollowReady (n : ℕ) (L w : List ℤ) (v end : ℕ) : Type 0 where
  pub few : n ≤ max_variables
  pub valid : LinesOk n L
  pub lines : line_count L ≤ work_lines
  pub low : 2 * n ≤ end
  pub high : end ≤ row_at n
  pub room : places_at n ≤ length w
  pub within : v < 2 * n

-- a walk from u to v before the end, if it does not start there
pub record WalkAt (n : ℕ) (L : List ℤ) (u v end : ℕ) (w : List ℤ) (r : Followed) : Type 0 where
  pub high : r.start ≤ end
  pub low : end ≤ r.start + 2 * n
  pub small : Within max_entry r.sum
  pub found : (r.start ≡ end → ⊥) → Stretch L u v w r.start end r.sum

pub record FollowedBack (n : ℕ) (L w : List ℤ) (u v end : ℕ) (w' : List ℤ) (r : Followed) : Type 0 where
  pub scratch : Scratch (end - 2 * n) end w w'
  pub walk : WalkAt n L u v end w' r

pub small_fits : (z : ℤ) → Within max_entry z → SFits w64 z
small_fits z h = simp ints (omega zs)

-- ---- the loop: the numbers from the slot on name a walk from `at` to v of this sum
pub record Following (n : ℕ) (L w₀ : List ℤ) (v end : ℕ) (w : List ℤ) (slot at : ℕ) (sum : ℤ) : Type 0 where
  pub free : end ≤ slot + 2 * n
  pub scratch : Scratch (end - 2 * n) end w₀ w
  pub stretch : Stretch L at v w slot end sum
  pub at_lt : at < 2 * n
  pub small : Within (length stretch.numbers * max_weight) sum

module _ (n : ℕ) (L w₀ : List ℤ) (v end : ℕ) (a : FollowReady n L w₀ v end) where
  pub following_start : Following n L w₀ v end w₀ end v (pos 0)
  following_start =
      record {
        free = omega arith;
        scratch = scratch_none (end - 2 * n) end w₀;
        stretch = record { numbers = []; count = omega arith; stand = λ i h. absurd (omega arith); steps = []; named = tt; path = refl; sum_is = refl };
        at_lt = a.within;
        small = record { low = simp ints (omega arith); high = simp ints (omega arith) };
      }

  pub followed_nowhere : (u : ℕ) (w : List ℤ) → Scratch (end - 2 * n) end w₀ w → FollowedBack n L w₀ u v end w (record { start = end; sum = pos 0 })
  followed_nowhere u w s = record {
    scratch = s;
    walk = record { high = omega arith; low = omega arith; small = record { low = simp ints (omega arith); high = simp ints (omega arith) }; found = λ f. absurd (f refl) };
  }

  module _ (w : List ℤ) (slot at : ℕ) (sum : ℤ) (b : Following n L w₀ v end w slot at sum) where
    short : length b.stretch.numbers ≤ 2 * n
    short = omega (arith, b.stretch.count, b.free)

    small_sum : Within max_entry sum
    small_sum = within_more (omega (arith, short, a.few)) b.small

    pub followed_to : (u : ℕ) → at ≡ u → FollowedBack n L w₀ u v end w (record { start = slot; sum = sum })
    followed_to u e = record {
      scratch = b.scratch;
      walk = record { high = omega (arith, b.stretch.count); low = b.free; small = small_sum; found = λ _. subst (λ (x : ℕ). Stretch L x v w slot end sum) e b.stretch };
    }

    -- one number more, of a step that ends where the walk begins
    module _ (h : end - 2 * n < slot) (k : ℕ) (t : Step) (named : step_numbered_lem L k ≡ Some t) where
      ok : StepOk n t
      ok = numbered_ok n L a.valid k t named

      pub following_fits : SFits w64 (sum +ℤ t.weight)
      following_fits = fits sum t.weight small_sum ok.small
        where
          fits : (s v : ℤ) → Within max_entry s → Within max_weight v → SFits w64 (s +ℤ v)
          fits s v x y = simp ints (omega zs)

      pub following_below : k < 2 * work_lines
      following_below = omega (arith, number_below L k t named, a.lines)

      pub slot_in : slot ≤ length w
      slot_in = omega (arith, b.stretch.count, a.high, a.room, b.scratch.same_length)

      pub following_more : t.to ≡ at → Following n L w₀ v end (set w (slot - 1) (pos k)) (slot - 1) t.from (sum +ℤ t.weight)
      following_more e =
          record {
            free = omega (arith, h);
            scratch = scratch_trans b.scratch (scratch_set (end - 2 * n) end w (slot - 1) (pos k) (omega (arith, h)) (omega (arith, h, b.stretch.count)));
            stretch =
                record {
                  numbers = k ∷ b.stretch.numbers;
                  count = omega (arith, b.stretch.count, h);
                  stand = stand_before w slot k b.stretch.numbers (omega (arith, h)) slot_in following_below b.stretch.stand;
                  steps = t ∷ b.stretch.steps;
                  named = (named, b.stretch.named);
                  path = (refl, rw e b.stretch.path);
                  sum_is = swap t.weight (total b.stretch.steps) sum b.stretch.sum_is;
                };
            at_lt = ok.from_lt;
            small = within_more (omega arith) (within_sum b.small ok.small);
          }
        where
          swap : (a t s : ℤ) → t ≡ s → a +ℤ t ≡ s +ℤ a
          swap a t s = simp ints (omega arith)
