-- The table before anything leaves: numbers of points from a row of potentials, whatever that holds; far everywhere;
-- then 0 on the diagonal.
use Rattle.std.specs.Prelude.{◌≡◌, refl, List, [], ℕ, ◌+◌, ◌*◌, ◌/◌, ◌%◌, ◌≤◌, ◌<◌, ℤ, pos, neg_ℤ, ◌+ℤ◌, ◌-ℤ◌, length, set}
use Rattle.std.proofs.Common.{sym, ap, subst, ◌∙◌, arith, length-set, get_or-set_same, get_or-set_other, SFits}
use Rattle.std.proofs.Math.Decide.{ℕ_discrete, dec_lt}
use Rattle.std.specs.Int.{w64}
use Rattle.integers.specs.Integer.{◌⩽◌, Within}
use Rattle.integers.proofs.Linear.{ints, zs}
use Rattle.lines.specs.Limits.{max_variables}
use Rattle.lines.specs.Line.{number}
use Rattle.steps.specs.Point.{opposite}
use Rattle.theory_walks.specs.Mirror.{Mirrored, opposite_lt}
use Rattle.engine_packed_steps.specs.Steps.{steps_in, StepsReady}
use Rattle.engine_packed_steps.specs.Layout.{row_width}
use Rattle.engine_packed_steps.specs.Scratch.{Scratch, scratch_none, scratch_trans, scratch_set, scratch_at, scratch_ready, scratch_steps, scratch_wider}
use Rattle.engine_reduced_table.specs.Reduced.{far, max_potential, cell, table_end, Reduced, asked, LowerReady, entry_far, cell_lt, Kept, reduced_again}
use Rattle.theory_walks.specs.Reach.{walk_none}

-- a potential that is larger is not used
abbrev pub max_read : ℕ
max_read = 5_000_000_000_000

-- ---- numbers of points
-- the row and the order may stand anywhere, and hold any numbers
pub record PointsReady (count pot size row order : ℕ) (w : List ℤ) : Type 0 where
  pub steps : StepsReady count pot size w
  pub mirrored : Mirrored (steps_in count w)
  pub even : size % 2 ≡ 0
  pub points : size ≤ 2 * max_variables
  pub room : table_end pot size ≤ length w
  pub row_room : row + size ≤ length w
  pub order_room : order + size / 2 ≤ length w

-- the first k points have their numbers
pub record Pointed (pot size : ℕ) (w₀ w : List ℤ) (k : ℕ) : Type 0 where
  pub even : k % 2 ≡ 0
  pub at_most : k ≤ size
  pub scratch : Scratch pot (pot + size) w₀ w
  pub opposed : (i : ℕ) → i < k → number w (pot + opposite i) ≡ neg_ℤ (number w (pot + i))
  pub small : (i : ℕ) → i < k → Within max_potential (number w (pot + i))

pub pointed_start : (pot size : ℕ) (w : List ℤ) → Pointed pot size w w 0
pointed_start pot size w = record { even = refl; at_most = omega arith; scratch = scratch_none pot (pot + size) w; opposed = λ i h. absurd (omega arith); small = λ i h. absurd (omega arith) }

pub difference_fits : (x y : ℤ) → Within max_read x → Within max_read y → SFits w64 (x -ℤ y)
difference_fits x y h k = simp ints (omega zs)

pub difference_small : (x y : ℤ) → Within max_read x → Within max_read y → Within max_potential (x -ℤ y)
difference_small x y h k = record { low = low x y h.low k.high; high = high x y h.high k.low }
  where
    low : (x y : ℤ) → neg_ℤ (pos max_read) ⩽ x → y ⩽ pos max_read → neg_ℤ (pos max_potential) ⩽ x -ℤ y
    low x y = simp ints (omega arith)

    high : (x y : ℤ) → x ⩽ pos max_read → neg_ℤ (pos max_read) ⩽ y → x -ℤ y ⩽ pos max_potential
    high x y = simp ints (omega arith)

pub negative_fits : (d : ℤ) → Within max_potential d → SFits w64 (pos 0 -ℤ d)
negative_fits d h = simp ints (omega zs)

module _ (pot size : ℕ) (w₀ w : List ℤ) (k : ℕ) (p : Pointed pot size w₀ w k) (even : size % 2 ≡ 0) (room : pot + size ≤ length w) (h : k < size) (d : ℤ) (small : Within max_potential d) where
  abbrev first : List ℤ
  first = set w (pot + k) d

  abbrev both : List ℤ
  both = set first (pot + k + 1) (pos 0 -ℤ d)

  next : k + 1 < size
  next = omega (arith, p.even)

  at_first : number both (pot + k) ≡ d
  at_first = get_or-set_other first (pot + k + 1) (pot + k) (pos 0 -ℤ d) (pos 0) (λ x. omega (arith, x)) ∙ get_or-set_same w (pot + k) d (pos 0) (omega arith)

  at_second : number both (pot + (k + 1)) ≡ pos 0 -ℤ d
  at_second =
      ap (number both) (assoc pot k)
      ∙ get_or-set_same first (pot + k + 1) (pos 0 -ℤ d) (pos 0) (omega (arith, next, lib_length))
    where
      assoc : (a b : ℕ) → a + (b + 1) ≡ a + b + 1
      assoc a b = omega arith

      lib_length : length first ≡ length w
      lib_length = length-set w (pot + k) d

  at_other : (i : ℕ) → i < k → number both (pot + i) ≡ number w (pot + i)
  at_other i l = get_or-set_other first (pot + k + 1) (pot + i) (pos 0 -ℤ d) (pos 0) (λ x. omega (arith, x)) ∙ get_or-set_other w (pot + k) (pot + i) d (pos 0) (λ x. omega (arith, x))

  opposite_first : opposite k ≡ k + 1
  unfolding opposite
  opposite_first = omega (arith, p.even)

  opposite_second : opposite (k + 1) ≡ k
  unfolding opposite
  opposite_second = omega (arith, p.even)

  negated : (x : ℤ) → pos 0 -ℤ x ≡ neg_ℤ x
  negated x = simp ints (omega arith)

  twice : (x : ℤ) → x ≡ neg_ℤ (pos 0 -ℤ x)
  twice x = simp ints (omega arith)

  within_negated : (x : ℤ) → Within max_potential x → Within max_potential (pos 0 -ℤ x)
  within_negated x g = record { low = low x g.high; high = high x g.low }
    where
      low : (x : ℤ) → x ⩽ pos max_potential → neg_ℤ (pos max_potential) ⩽ pos 0 -ℤ x
      low x = simp ints (omega arith)

      high : (x : ℤ) → neg_ℤ (pos max_potential) ⩽ x → pos 0 -ℤ x ⩽ pos max_potential
      high x = simp ints (omega arith)

  pub pointed_more : Pointed pot size w₀ both (k + 2)
  pointed_more = record {
    even = omega (arith, p.even);
    at_most = next_two;
    scratch = scratch_trans p.scratch (scratch_trans (scratch_set pot (pot + size) w (pot + k) d (omega arith) (omega arith)) (scratch_set pot (pot + size) first (pot + k + 1) (pos 0 -ℤ d) (omega arith) (omega (arith, next))));
    opposed = λ i l. op i l (dec_lt i k) (ℕ_discrete i k);
    small = λ i l. sm i l (dec_lt i k) (ℕ_discrete i k);
  }
    where
      next_two : k + 2 ≤ size
      next_two = omega (arith, next)

      last : (i : ℕ) → i < k + 2 → ¬ (i < k) → ¬ (i ≡ k) → i ≡ k + 1
      last i l a b = omega arith

      op : (i : ℕ) → i < k + 2 → Dec (i < k) → Dec (i ≡ k) → number both (pot + opposite i) ≡ neg_ℤ (number both (pot + i))
      op i l (yes g) e = at_other (opposite i) (opposite_lt k i p.even g) ∙ p.opposed i g ∙ ap neg_ℤ (sym (at_other i g))
      op i l (no g) (yes e) =
          subst (λ (j : ℕ). number both (pot + opposite j) ≡ neg_ℤ (number both (pot + j))) (sym e)
          (ap (λ (j : ℕ). number both (pot + j)) opposite_first ∙ at_second ∙ negated d ∙ ap neg_ℤ (sym at_first))
      op i l (no g) (no e) =
          subst (λ (j : ℕ). number both (pot + opposite j) ≡ neg_ℤ (number both (pot + j))) (sym (last i l g e))
          (ap (λ (j : ℕ). number both (pot + j)) opposite_second ∙ at_first ∙ twice d ∙ ap neg_ℤ (sym at_second))

      sm : (i : ℕ) → i < k + 2 → Dec (i < k) → Dec (i ≡ k) → Within max_potential (number both (pot + i))
      sm i l (yes g) e = rw (at_other i g) (p.small i g)
      sm i l (no g) (yes e) = rw (e, at_first) small
      sm i l (no g) (no e) = rw (last i l g e, at_second) (within_negated d small)

-- ---- far everywhere
pub record AllFar (pot size : ℕ) (w₀ w : List ℤ) (k : ℕ) : Type 0 where
  pub at_most : k ≤ size * row_width size
  pub scratch : Scratch (pot + 2 * size) (table_end pot size) w₀ w
  pub all : (c : ℕ) → c < k → number w (pot + 2 * size + c) ≡ pos far

pub filled_start : (pot size : ℕ) (w : List ℤ) → AllFar pot size w w 0
filled_start pot size w = record { at_most = omega arith; scratch = scratch_none (pot + 2 * size) (table_end pot size) w; all = λ c h. absurd (omega arith) }

pub filled_more : {pot size k : ℕ} {w₀ w : List ℤ} → AllFar pot size w₀ w k → table_end pot size ≤ length w → k < size * row_width size → AllFar pot size w₀ (set w (pot + 2 * size + k) (pos far)) (k + 1)
filled_more {pot} {size} {k} {w₀} {w} f room h = record {
  at_most = omega arith;
  scratch = scratch_trans f.scratch (scratch_set (pot + 2 * size) (table_end pot size) w (pot + 2 * size + k) (pos far) (omega arith) (omega arith));
  all = λ c l. each c l (ℕ_discrete c k);
}
  where
    each : (c : ℕ) → c < k + 1 → Dec (c ≡ k) → number (set w (pot + 2 * size + k) (pos far)) (pot + 2 * size + c) ≡ pos far
    each c l (yes e) = rw e (get_or-set_same w (pot + 2 * size + k) (pos far) (pos 0) (omega arith))
    each c l (no n) = get_or-set_other w (pot + 2 * size + k) (pot + 2 * size + c) (pos far) (pos 0) (λ x. n (omega (arith, x))) ∙ f.all c (omega arith)

-- both: nothing but entries
module _ {count pot size row order : ℕ} {w : List ℤ} (r : PointsReady count pot size row order w) (w₁ : List ℤ) (p : Pointed pot size w w₁ size) (w₂ : List ℤ) (f : AllFar pot size w₁ w₂ (size * row_width size)) where
  steps_before : StepsReady count pot size w₁
  steps_before = scratch_ready r.steps p.scratch

  wider : StepsReady count (pot + 2 * size) size w₁
  wider = record {
    few = steps_before.few;
    before = omega (arith, steps_before.before);
    room = omega (arith, r.room, p.scratch.same_length);
    ok = steps_before.ok;
  }

  after : StepsReady count (pot + 2 * size) size w₂
  after = scratch_ready wider f.scratch

  same_point : (i : ℕ) → i < size → number w₂ (pot + i) ≡ number w₁ (pot + i)
  same_point i h = scratch_at f.scratch (pot + i) (omega arith)

  same : steps_in count w₂ ≡ steps_in count w
  same = scratch_steps wider f.scratch ∙ scratch_steps r.steps p.scratch

  pub first_reduced : Reduced count pot size w₂
  first_reduced = record {
    steps = record {
      few = after.few;
      before = omega (arith, steps_before.before);
      room = omega (arith, after.room);
      ok = after.ok;
    };
    mirrored = subst Mirrored (sym same) r.mirrored;
    even = r.even;
    points = r.points;
    room = omega (arith, r.room, p.scratch.same_length, f.scratch.same_length);
    opposed = λ i h. same_point (opposite i) (opposite_lt size i r.even h) ∙ p.opposed i h ∙ ap neg_ℤ (sym (same_point i h));
    small = λ i h. rw (same_point i h) (p.small i h);
    entry = λ i j hi hj. rw (is_far i j hi hj) (entry_far (steps_in count w₂) (number w₂ (pot + i)) (number w₂ (pot + j)) i j);
  }
    where
      is_far : (i j : ℕ) → i < size → j < size → number w₂ (cell pot size i j) ≡ pos far
      is_far i j hi hj =
          let e : cell pot size i j ≡ pot + 2 * size + (i * row_width size + j) = omega arith in
          ap (number w₂) e ∙ f.all (i * row_width size + j) (cell_lt size i j hi hj)

-- far everywhere once more
pub far_kept : {count pot size : ℕ} {w : List ℤ} → Reduced count pot size w → (w' : List ℤ) → AllFar pot size w w' (size * row_width size) → Kept count pot size w w'
far_kept {count} {pot} {size} {w} r w' f =
    reduced_again r w' (scratch_wider (omega arith) (omega arith) f.scratch) (λ i j hi hj. rw (is_far i j hi hj) (entry_far (steps_in count w) (number w (pot + i)) (number w (pot + j)) i j))
  where
    is_far : (i j : ℕ) → i < size → j < size → number w' (cell pot size i j) ≡ pos far
    is_far i j hi hj =
        let e : cell pot size i j ≡ pot + 2 * size + (i * row_width size + j) = omega arith in
        ap (number w') e ∙ f.all (i * row_width size + j) (cell_lt size i j hi hj)

-- 0 on the diagonal: the walk of no steps
pub diagonal_ready : {count pot size : ℕ} {w : List ℤ} → Reduced count pot size w → (t : ℕ) → t < size → LowerReady count pot size t t (pos 0) w
diagonal_ready {w} r t h = record {
  ask = asked r t t h h;
  by = record {
    low = simp ints (omega arith);
    high = simp ints (omega arith);
    reached = λ _. record { path = []; walk = walk_none t; sum = none_sum (number w _) };
  };
}
  where
    none_sum : (b : ℤ) → pos 0 +ℤ b ≡ (pos 0 +ℤ pos 0) +ℤ b
    none_sum b = simp ints (omega arith)
