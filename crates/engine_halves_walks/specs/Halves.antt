-- A refutation of kind 2 at once: what is promised, and the refutation that two walks make.
use Rattle.std.specs.Prelude.{◌≡◌, refl, Bool, true, false, List, ◌∷◌, ◌++◌, ℕ, ◌+◌, ◌*◌, ◌-◌, ◌<◌, ◌≤◌, ℤ, pos, ◌+ℤ◌, length, drop}
use Rattle.std.proofs.Common.{ap, ap₂, subst, ◌∙◌, arith, length-append, SFits}
use Rattle.std.specs.Int.{w64}
use Rattle.integers.specs.Integer.{◌⋖◌, half, Within}
use Rattle.integers.proofs.Linear.{ints, zs}
use Rattle.integers.specs.Laws.{never}
use Rattle.steps.specs.Point.{opposite}
use Rattle.steps.specs.Walk.{Path}
use Rattle.check_soundness.specs.Refutes.{kind_2}
use Rattle.theory_bounds.specs.Points.{opposite_below}
use Rattle.check_refutation.specs.Progress.{head_size}
use Rattle.decide_walkback.specs.Makes.{max_entry}
use Rattle.engine_packed_steps.specs.Steps.{StepsReady}
use Rattle.engine_packed_steps.specs.Scratch.{Scratch, scratch_trans, scratch_wider, scratch_ready}
use Rattle.engine_packed_steps.specs.Layout.{row_at, places_at, square_small}
use Rattle.engine_packed_steps.specs.Laid.{Laid}
use Rattle.decide_written_walks.specs.Copy.{StepNumbers, copied_to}
use Rattle.decide_written_walks.specs.Refutation.{HalvesReady, RefutationWritten}
use Rattle.engine_closed_walk.specs.declared.Followed.{Followed}
use Rattle.decide_written_walks.specs.Stretch.{Stand, Stretch, stretch_kept, stand_append, stand_numbers, stand_behind}
use Rattle.engine_halves_walks.specs.Between.{steps_end, BetweenReady, WalkedBetween}

-- halves of two small sums have a sum
pub halves_fit : (x y : ℤ) → Within max_entry x → Within max_entry y → SFits w64 (half x +ℤ half y)
halves_fit x y a b = simp ints (omega zs)

-- a refutation is written, or nothing; the work area is kept behind the marks
pub record HalvesAtOnce (n : ℕ) (L : List ℤ) (R : List ℕ) (w : List ℤ) (R' : List ℕ) (w' : List ℤ) (refuted : Bool) : Type 0 where
  pub scratch : Scratch 0 (places_at n) w w'
  pub on_yes : refuted ≡ true → RefutationWritten n L 2 R w' R' w'
  pub on_no : refuted ≡ false → R' ≡ R

pub not_at_once : (n : ℕ) (L : List ℤ) (R : List ℕ) (w w' : List ℤ) → Scratch 0 (places_at n) w w' → HalvesAtOnce n L R w R w' false
not_at_once n L R w w' s = record { scratch = s; on_yes = λ z. never (cc); on_no = λ _. refl }

module _ {n : ℕ} {L : List ℤ} {p : ℕ} {R : List ℕ} {w : List ℤ} (a : HalvesReady n L p R w) (room : places_at n ≤ length w) {q row : ℕ} (other : q ≡ opposite p) (is : row ≡ row_at n) where
  q_lt : q < 2 * n
  q_lt = rw other (opposite_below n p a.within)

  -- the steps stand
  module _ {w₁ : List ℤ} {count : ℕ} (d : Laid n L w w₁ count) where
    steps_ready : StepsReady count (steps_end n) (2 * n) w₁
    steps_ready = record {
      few = omega (arith, d.no_more, square_small n a.few);
      before = d.no_more;
      room = omega (arith, room, d.scratch.same_length);
      ok = d.ok;
    }

    pub back_ready : BetweenReady n L count w₁ q p (row)
    back_ready = record {
      ready = record { few = a.few; valid = a.valid; lines = a.lines; low = omega (arith, is); high = omega (arith, is); room = omega (arith, room, d.scratch.same_length); within = a.within };
      behind = omega (arith, is);
      source = q_lt;
      steps = steps_ready;
    }

    -- the walk from the opposite is tried
    module _ {w₂ : List ℤ} {back : Followed} (f : WalkedBetween n L w₁ q p (row) w₂ back) where
      pub first_kept : Scratch 0 (places_at n) w w₂
      first_kept = scratch_trans (scratch_wider (omega arith) (omega arith) d.scratch) (scratch_wider (omega arith) (omega arith) f.scratch)

      pub there_ready : BetweenReady n L count w₂ p q back.start
      there_ready = record {
        ready = record {
          few = a.few;
          valid = a.valid;
          lines = a.lines;
          low = omega (arith, is, f.walk.low);
          high = omega (arith, is, f.walk.high);
          room = omega (arith, room, first_kept.same_length);
          within = q_lt;
        };
        behind = omega (arith, is, f.walk.low);
        source = a.within;
        steps = scratch_ready steps_ready f.scratch;
      }

      -- and the walk back to it
      module _ {w₃ : List ℤ} {there : Followed} (g : WalkedBetween n L w₂ p q back.start w₃ there) where
        pub both_kept : Scratch 0 (places_at n) w w₃
        both_kept = scratch_trans first_kept (scratch_wider (omega arith) (omega arith) g.scratch)

        -- both were found
        module _ (later : back.start ≡ row → ⊥) (earlier : there.start ≡ back.start → ⊥) where
          one : Stretch L p q w₃ there.start back.start there.sum
          one = g.walk.found earlier

          two : Stretch L q p w₃ back.start (row) back.sum
          two = stretch_kept (λ i h l. g.kept i h (omega (arith, is, l))) (f.walk.found later)

          abbrev ks : List ℕ
          ks = one.numbers ++ two.numbers

          abbrev size : ℕ
          size = row - there.start

          size_is : length ks ≡ size
          size_is = length-append one.numbers two.numbers ∙ omega (arith, one.count, two.count)

          stand : Stand w₃ there.start ks
          stand = stand_append w₃ there.start one.numbers two.numbers one.stand (rw one.count two.stand)

          in_area : there.start + size ≤ length w₃
          in_area = omega (arith, is, room, both_kept.same_length, g.walk.high, f.walk.high)

          at_most : size ≤ 4 * n
          at_most = omega (arith, g.walk.low, f.walk.low)

          pub copy_fits : (there.start + size ≤ length w₃) × (head_size + size ≤ length R) × StepNumbers w₃ there.start size
          copy_fits = (in_area, omega (arith, a.room, at_most), stand_numbers w₃ there.start ks stand size size_is)

          pub both_written : half there.sum +ℤ half back.sum ⋖ pos 0 → (R₁ : List ℕ) → R₁ ≡ copied_to R head_size w₃ there.start size → (R' : List ℕ)
              → R' ≡ 2 ∷ (back.start - there.start) ∷ (row - back.start) ∷ drop head_size R₁ → HalvesAtOnce n L R w R' w₃ true
          both_written low R₁ c R' e =
              record {
                scratch = both_kept;
                on_yes = λ _. record {
                  numbers = 2 ∷ length one.numbers ∷ length two.numbers ∷ ks;
                  refutes =
                      kind_2
                      (record {
                        numbers = one.numbers;
                        more = two.numbers;
                        point = p;
                        is = refl;
                        there = record { steps = one.steps; some = omega (arith, one.count, earlier); named = one.named; path = subst (Path p one.steps) other one.path };
                        back = record { steps = two.steps; some = omega (arith, two.count, later); named = two.named; path = subst (λ (i : ℕ). Path i two.steps p) other two.path };
                        low = rw (one.sum_is, two.sum_is) low;
                      });
                  kind_is = refl;
                  few = omega (arith, length-append one.numbers two.numbers, size_is, at_most);
                  size = omega (arith, size_is, at_most);
                  is =
                      e ∙ ap₂ (λ (i j : ℕ). 2 ∷ i ∷ j ∷ drop head_size R₁) first second
                      ∙ ap (λ (l : List ℕ). 2 ∷ length one.numbers ∷ length two.numbers ∷ l) body;
                  same_length = refl;
                  behind = refl;
                };
                on_no = λ z. never (cc);
              }
            where
              first : back.start - there.start ≡ length one.numbers
              first = omega (arith, one.count)

              second : row - back.start ≡ length two.numbers
              second = omega (arith, two.count)

              last : head_size + size ≡ length (2 ∷ length one.numbers ∷ length two.numbers ∷ ks)
              last = omega (arith, size_is)

              body : drop head_size R₁ ≡ ks ++ drop (length (2 ∷ length one.numbers ∷ length two.numbers ∷ ks)) R
              body = stand_behind w₃ there.start ks (omega (arith, size_is, in_area)) stand size size_is R R₁ (omega (arith, a.room)) c ∙ ap (λ (i : ℕ). ks ++ drop i R) last

-- ---- not at once: what is asked is still so, and what is written then serves
module _ {n : ℕ} {L : List ℤ} {R R₁ : List ℕ} {w w₁ : List ℤ} (k : HalvesAtOnce n L R w R₁ w₁ false) where
  pub halves_after : {p : ℕ} → HalvesReady n L p R w → HalvesReady n L p R₁ w₁
  halves_after a =
      record {
        few = a.few;
        valid = a.valid;
        lines = a.lines;
        within = a.within;
        work_room = omega (arith, a.work_room, k.scratch.same_length);
        room = rw (k.on_no refl) a.room;
        there = a.there;
        back = a.back;
        there_is = a.there_is;
        back_is = a.back_is;
        negative = a.negative;
        clear = a.clear;
      }

  pub halves_written_after : {R' : List ℕ} {w' : List ℤ} → RefutationWritten n L 2 R₁ w₁ R' w' → HalvesAtOnce n L R w R' w' true
  halves_written_after {R'} {w'} f =
      let g : RefutationWritten n L 2 R w₁ R' w' = subst (λ (x : List ℕ). RefutationWritten n L 2 x w₁ R' w') (k.on_no refl) f in
      record {
        scratch = scratch_trans k.scratch (scratch_wider {a = 0} {b = row_at n} (omega arith) (omega arith) (record { same_length = g.same_length; front = refl; behind = g.behind }));
        on_yes = λ _. record { numbers = g.numbers; refutes = g.refutes; kind_is = g.kind_is; few = g.few; size = g.size; is = g.is; same_length = refl; behind = refl };
        on_no = λ z. never (cc);
      }
