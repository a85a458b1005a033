-- A refutation at once: what is asked and promised, and the refutation that a walk followed back makes.
use Rattle.std.specs.Prelude.{◌≡◌, refl, Bool, true, false, List, ◌∷◌, ℕ, ◌+◌, ◌*◌, ◌-◌, ◌<◌, ◌≤◌, ℤ, pos, length, drop}
use Rattle.std.proofs.Common.{subst, ◌∙◌, arith}
use Rattle.std.specs.Int.Signed.{le_z}
use Rattle.integers.specs.Integer.{◌⩽◌, ◌⋖◌, Within}
use Rattle.integers.specs.Laws.{never}
use Rattle.integers.proofs.Linear.{ints}
use Rattle.lines.specs.Limits.{max_variables, work_lines}
use Rattle.lines.specs.Line.{line_count, lines_of}
use Rattle.lines.specs.Valid.{LinesOk, all_ok}
use Rattle.steps.specs.declared.Step.{Step}
use Rattle.steps.specs.Step.{steps_of}
use Rattle.steps.specs.Walk.{total, names_length}
use Rattle.theory_walks.specs.Distance.{Distance, none, some, ◌⊑◌, le_some}
use Rattle.theory_walks.specs.Row.{WithinPoints, best}
use Rattle.theory_walks.specs.Reach.{Walk}
use Rattle.theory_walks.specs.Least.{best_short}
use Rattle.theory_walks.specs.Negative.{not_below0, no_negative, is_below, no_negative_false}
use Rattle.theory_walks.specs.Graph.{ends_points, named_steps}
use Rattle.check_refutation.specs.Progress.{head_size}
use Rattle.engine_packed_steps.specs.Steps.{StepsReady}
use Rattle.engine_packed_steps.specs.Scratch.{Scratch, scratch_at, scratch_ready, scratch_wider, scratch_trans, scratch_behind}
use Rattle.engine_packed_steps.specs.Layout.{walks_at, row_at, places_at}
use Rattle.decide_written_walks.specs.Copy.{StepNumbers, copied_to}
use Rattle.decide_written_walks.specs.Refutation.{RefutationWritten}
use Rattle.decide_written_walks.specs.Stretch.{Stretch, closed_numbers, closed_shown}
use Rattle.engine_closed_walk.specs.Filled.{Filled}
use Rattle.engine_closed_walk.specs.Passes.{max_mark, SmallRow, Passed, PassReady}
use Rattle.engine_closed_walk.specs.declared.Followed.{Followed}
use Rattle.engine_closed_walk.specs.Follow.{FollowReady, FollowedBack}

-- what is asked where marks stand: they end at `places_at`
pub record FromReady (n : ℕ) (L : List ℤ) (R : List ℕ) (w : List ℤ) : Type 0 where
  pub few : n ≤ max_variables
  pub valid : LinesOk n L
  pub lines : line_count L ≤ work_lines
  pub room : head_size + 2 * n ≤ length R
  pub work_room : places_at n ≤ length w

-- and for the passes: the steps stand before the walks
pub record AtOnceReady (n : ℕ) (L : List ℤ) (count : ℕ) (R : List ℕ) (w : List ℤ) : Type 0 where
  pub few : n ≤ max_variables
  pub valid : LinesOk n L
  pub lines : line_count L ≤ work_lines
  pub room : head_size + 2 * n ≤ length R
  pub work_room : places_at n ≤ length w
  pub steps : StepsReady count (walks_at n) (2 * n) w

-- a refutation is written, and some closed walk is negative; `between` is the work area after the passes
pub record RefutedAtOnce (n : ℕ) (L : List ℤ) (R R' : List ℕ) (w' : List ℤ) : Type 0 where
  pub between : List ℤ
  pub written : RefutationWritten n L 1 R between R' w'
  pub negative : no_negative (steps_of (lines_of L)) (2 * n) ≡ false

-- from marks that stand: the row and they are kept
pub record AtOnceFrom (n : ℕ) (L : List ℤ) (R : List ℕ) (w : List ℤ) (R' : List ℕ) (w' : List ℤ) (refuted : Bool) : Type 0 where
  pub scratch : Scratch (walks_at n) (row_at n) w w'
  pub on_yes : refuted ≡ true → RefutedAtOnce n L R R' w'
  pub on_no : refuted ≡ false → R' ≡ R

-- a refutation is written, or nothing: then the row is small
pub record AtOnce (n : ℕ) (L : List ℤ) (R : List ℕ) (w : List ℤ) (R' : List ℕ) (w' : List ℤ) (refuted : Bool) : Type 0 where
  pub scratch : Scratch (walks_at n) (places_at n) w w'
  pub on_yes : refuted ≡ true → RefutedAtOnce n L R R' w'
  pub on_no : refuted ≡ false → (R' ≡ R) × SmallRow (row_at n) (2 * n) w'

pub not_from : (n : ℕ) (L : List ℤ) (R : List ℕ) (w : List ℤ) (R' : List ℕ) (w' : List ℤ) → R' ≡ R → Scratch (walks_at n) (row_at n) w w' → AtOnceFrom n L R w R' w' false
not_from n L R w R' w' e s = record { scratch = s; on_yes = λ z. never (cc); on_no = λ _. e }

-- ---- the row on the way: small, and kept around it and the walks
pub record OnTheWay (n : ℕ) (w w' : List ℤ) : Type 0 where
  pub scratch : Scratch (walks_at n) (places_at n) w w'
  pub small : SmallRow (row_at n) (2 * n) w'

zero_small : (z : ℤ) → z ≡ pos 0 → Within max_mark z
zero_small z e = rw e (record { low = simp ints (omega arith); high = simp ints (omega arith) })

module _ {n : ℕ} {w w₁ : List ℤ} where
  -- the row is 0, and the marks something
  pub way_filled : {row : ℕ} {w₂ : List ℤ} {mark : ℤ} → row ≡ row_at n → Filled row (row + 2 * n) (pos 0) (row + 2 * n) w w₁ → Filled (row + 2 * n) (row + 2 * n + 2 * n) mark (row + 2 * n + 2 * n) w₁ w₂ → OnTheWay n w w₂
  way_filled q a b = record {
    scratch = scratch_trans (scratch_wider (omega (arith, q)) (omega (arith, q)) a.scratch) (scratch_wider (omega (arith, q)) (omega (arith, q)) b.scratch);
    small = λ p l. zero_small _ (rw (scratch_at b.scratch (row_at n + p) (omega (arith, l, q))) (a.are (row_at n + p) (omega (arith, q)) (omega (arith, l, q))));
  }

  module _ (a : OnTheWay n w w₁) where
    pub way_ready : {count row : ℕ} → row ≡ row_at n → StepsReady count (walks_at n) (2 * n) w → places_at n ≤ length w → PassReady count row (2 * n) w₁
    way_ready q r room = rw q (record {
      steps = record {
        few = r.few;
        before = omega (arith, r.before);
        room = omega (arith, room, a.scratch.same_length);
        ok = λ i l. rw (scratch_at a.scratch i (omega (arith, l, r.before))) (r.ok i l);
      };
      room = omega (arith, room, a.scratch.same_length);
      small = a.small;
    })

    pub way_more : {row last : ℕ} {w₂ : List ℤ} → row ≡ row_at n → Passed row (2 * n) w₁ w₂ last → OnTheWay n w w₂
    way_more q m = record { scratch = scratch_trans a.scratch (scratch_wider (omega (arith, q)) (omega (arith, q)) m.scratch); small = rw q at m.small }

    -- a walk was followed back: before the row
    pub way_kept : {w₂ : List ℤ} → Scratch (walks_at n) (row_at n) w₁ w₂ → OnTheWay n w w₂
    way_kept s = record { scratch = scratch_trans a.scratch (scratch_wider (omega arith) (omega arith) s); small = λ p l. rw (scratch_behind s (row_at n + p) (omega arith)) (a.small p l) }

    pub way_none : (L : List ℤ) (R R' : List ℕ) → R' ≡ R → AtOnce n L R w R' w₁ false
    way_none L R R' e = record { scratch = a.scratch; on_yes = λ z. never (cc); on_no = λ _. (e, a.small) }

    pub way_refuted : {w₂ : List ℤ} (L : List ℤ) (R R₁ R' : List ℕ) → R₁ ≡ R → Scratch (walks_at n) (row_at n) w₁ w₂ → RefutedAtOnce n L R₁ R' w₂ → AtOnce n L R w R' w₂ true
    way_refuted {w₂} L R R₁ R' e s f = record {
      scratch = (way_kept s).scratch;
      on_yes = λ _. subst (λ (x : List ℕ). RefutedAtOnce n L x R' w₂) e f;
      on_no = λ z. never (cc);
    }

-- ---- passes after what is on the way, with nothing written yet
module _ {n : ℕ} {L : List ℤ} {R R₁ : List ℕ} {w w₁ : List ℤ} (a : OnTheWay n w w₁) (e : R₁ ≡ R) where
  pub ready_after : {count : ℕ} → AtOnceReady n L count R w → AtOnceReady n L count R₁ w₁ × SmallRow (row_at n) (2 * n) w₁
  ready_after r = (
    record {
      few = r.few;
      valid = r.valid;
      lines = r.lines;
      room = rw e r.room;
      work_room = omega (arith, r.work_room, a.scratch.same_length);
      steps = scratch_ready r.steps a.scratch;
    },
    a.small,
  )

  pub at_once_after : {R' : List ℕ} {w' : List ℤ} {refuted : Bool} → AtOnce n L R₁ w₁ R' w' refuted → AtOnce n L R w R' w' refuted
  at_once_after {R'} {w'} f = record {
    scratch = scratch_trans a.scratch f.scratch;
    on_yes = λ z. subst (λ (x : List ℕ). RefutedAtOnce n L x R' w') e (f.on_yes z);
    on_no = λ z. ((f.on_no z).0 ∙ e, (f.on_no z).1);
  }

-- ---- a closed walk of negative sum, with at most as many steps as points: its point's distance to itself is below 0
short_negative : (E : List Step) (N : ℕ) → WithinPoints N E → (p : ℕ) → p < N → (path : List Step) → Walk E p path p → length path ≤ N → total path ⋖ pos 0 → not_below0 (best E N p p) ≡ false
short_negative E N within p low path walk few negative = go (best E N p p) refl
  where
    least : best E N p p ⊑ some (total path)
    least = best_short E N within p p low path walk few

    below : (z s : ℤ) → z ⩽ s → s ⋖ pos 0 → le_z (pos 0) z ≡ false
    below z s = simp ints (omega arith)

    go : (d : Distance) → best E N p p ≡ d → not_below0 d ≡ false
    go none q = absurd (rw q at least).le
    go (some z) q = below z (total path) (le_some (rw q at least)) negative

-- ---- a walk followed back from a point to itself
module _ (n : ℕ) (L : List ℤ) (R : List ℕ) (w : List ℤ) (a : FromReady n L R w) (p : ℕ) (within : p < 2 * n) (row : ℕ) (is : row ≡ row_at n) where
  pub follow_ready : FollowReady n L w p row
  follow_ready = record { few = a.few; valid = a.valid; lines = a.lines; low = omega (arith, is); high = omega (arith, is); room = a.work_room; within = within }

  module _ (w' : List ℤ) (r : Followed) (f : FollowedBack n L w p p row w' r) where
    pub followed_scratch : Scratch (walks_at n) (row_at n) w w'
    followed_scratch = scratch_wider (omega (arith, is)) (omega (arith, is)) f.scratch

    -- it was found
    module _ (found : r.start ≡ row → ⊥) where
      abbrev E : List Step
      E = steps_of (lines_of L)

      abbrev size : ℕ
      size = row - r.start

      walk : Stretch L p p w' r.start row r.sum
      walk = f.walk.found found

      size_is : length walk.numbers ≡ size
      size_is = omega (arith, walk.count)

      at_most : size ≤ 2 * n
      at_most = omega (arith, f.walk.low)

      in_area : r.start + size ≤ length w'
      in_area = omega (arith, is, a.work_room, followed_scratch.same_length, f.walk.high)

      row_inside : row ≤ length w'
      row_inside = omega (arith, is, a.work_room, followed_scratch.same_length)

      pub copy_fits : (r.start + size ≤ length w') × (head_size + size ≤ length R) × StepNumbers w' r.start size
      copy_fits = (in_area, omega (arith, a.room, at_most), closed_numbers walk row_inside)

      -- and its sum is below 0
      module _ (low : r.sum ⋖ pos 0) where
        negative : total walk.steps ⋖ pos 0
        negative = rw walk.sum_is low

        lowest : (z : ℤ) × (best E (2 * n) p p ≡ some z) × (z ⋖ pos 0)
        lowest =
            is_below (best E (2 * n) p p)
            (short_negative E (2 * n) (ends_points n (lines_of L) (all_ok n L a.valid)) p within walk.steps (record { path = walk.path; steps = named_steps L walk.numbers walk.steps walk.named })
            (omega (arith, names_length L walk.numbers walk.steps walk.named, size_is, at_most)) negative)

        written : (R₁ : List ℕ) → R₁ ≡ copied_to R head_size w' r.start size → (R' : List ℕ) → R' ≡ 1 ∷ size ∷ 0 ∷ drop head_size R₁ → RefutationWritten n L 1 R w R' w'
        written R₁ c R' e =
            let s = closed_shown walk row_inside (omega (arith, found, f.walk.high)) low R (omega (arith, a.room)) R₁ c R' e in
            record {
              numbers = s.numbers;
              refutes = s.refutes;
              kind_is = s.kind_is;
              few = omega (arith, s.steps, at_most);
              size = omega (arith, s.length_is, at_most);
              is = s.is;
              same_length = followed_scratch.same_length;
              behind = followed_scratch.behind;
            }

        pub at_once_from : (R₁ : List ℕ) → R₁ ≡ copied_to R head_size w' r.start size → (R' : List ℕ) → R' ≡ 1 ∷ size ∷ 0 ∷ drop head_size R₁ → AtOnceFrom n L R w R' w' true
        at_once_from R₁ c R' e =
            record {
              scratch = followed_scratch;
              on_yes = λ _. record { between = w; written = written R₁ c R' e; negative = no_negative_false E (2 * n) (record { point = p; low = within; sum = lowest.0; is = lowest.1; negative = lowest.2 }) };
              on_no = λ z. never (cc);
            }
