-- The table closed through one variable after the other: a row lowered by another, all rows by that of k, and the loop over k. Whatever is read on the way
-- is no more than it was before, so that the order of rows is of no account.
use Rattle.std.specs.Prelude.{◌≡◌, List, ℕ, ◌+◌, ◌*◌, ◌≤◌, ◌<◌, ℤ, pos, ◌+ℤ◌, ◌-ℤ◌, set}
use Rattle.std.proofs.Common.{sym, subst, inl, inr, add-one, arith}
use Rattle.std.proofs.Math.Decide.{ℕ_discrete, dec_lt}
use Rattle.integers.specs.Integer.{◌⩽◌, ◌⋖◌}
use Rattle.integers.proofs.Linear.{ints}
use Rattle.steps.specs.declared.Step.{Step}
use Rattle.theory_walks.specs.Distance.{le_refl, le_trans}
use Rattle.theory_differences.specs.Through.{Through, through_more}
use Rattle.engine_reduced_table.specs.Reduced.{far, Least, NegativePart, entry_least}
use Rattle.differences_closing.specs.Entries.{cell, entry_in, row_end, Ranged, Lowered, lowered_none, lowered_trans, set_no_more, lowered_set, set_entry}

-- an entry lowered by the negative part of what a sum is below it is no more than the sum
pub part_under : (old sum r : ℤ) → NegativePart (sum -ℤ old) r → old +ℤ r ⩽ sum
part_under old sum r (inl (e, h)) = none old sum r e h
  where
    none : (x y r : ℤ) → r ≡ pos 0 → pos 0 ⩽ y -ℤ x → x +ℤ r ⩽ y
    none x y r = simp ints (omega arith)
part_under old sum r (inr (e, h)) = all old sum r e
  where
    all : (x y r : ℤ) → r ≡ y -ℤ x → x +ℤ r ⩽ y
    all x y r = simp ints (omega arith)

-- ---- one row
pub record LowerReady (n to by : ℕ) (a : ℤ) (t : List ℤ) : Type 0 where
  pub ranged : Ranged n t
  pub to_lt : to < n
  pub by_lt : by < n
  pub to_row : to * n + n ≤ n * n
  pub by_row : by * n + n ≤ n * n
  pub is : a ≡ entry_in n t by to

-- the row's entries are no more than those of the other row and a
pub record RowLowered (n to by : ℕ) (a : ℤ) (t t' : List ℤ) : Type 0 where
  pub lowered : Lowered n t t'
  pub below : (u : ℕ) → u < n → entry_in n t' u to ⩽ entry_in n t u by +ℤ a

-- the loop, after the first u of them
pub record Lowering (n to by : ℕ) (a : ℤ) (t₀ t : List ℤ) (u : ℕ) : Type 0 where
  pub lowered : Lowered n t₀ t
  pub below : (p : ℕ) → p < u → entry_in n t p to ⩽ entry_in n t₀ p by +ℤ a

module _ {n to by : ℕ} {a : ℤ} {t₀ : List ℤ} (r : LowerReady n to by a t₀) where
  pub by_low : pos 0 ⩽ a
  by_low = rw r.is (r.ranged.low by to r.by_lt r.to_lt)

  pub by_high : a ⩽ pos far
  by_high = rw r.is (r.ranged.high by to r.by_lt r.to_lt)

  pub lowering_start : Lowering n to by a t₀ t₀ 0
  lowering_start = record { lowered = lowered_none r.ranged; below = λ p h. absurd (omega arith) }

  module _ {t : List ℤ} {u : ℕ} (l : Lowering n to by a t₀ t u) (h : u < n) where
    abbrev old : ℤ
    old = entry_in n t u to

    abbrev sum : ℤ
    sum = entry_in n t u by +ℤ a

    now : Ranged n t
    now = l.lowered.ranged

    module _ (z : ℤ) (e : Least (entry_in n t u to) (entry_in n t u by +ℤ a) z) where
      low : pos 0 ⩽ z
      low = go e
        where
          both : (x y z : ℤ) → pos 0 ⩽ x → pos 0 ⩽ y → z ≡ x +ℤ y → pos 0 ⩽ z
          both x y z = simp ints (omega arith)

          go : Least (entry_in n t u to) (entry_in n t u by +ℤ a) z → pos 0 ⩽ z
          go (inl q) = rw q (now.low u to h r.to_lt)
          go (inr (q, m)) = both (entry_in n t u by) a z (now.low u by h r.by_lt) by_low q

      less : z ⩽ entry_in n t u to
      less = go e
        where
          below : (x y z : ℤ) → z ≡ y → y ⋖ x → z ⩽ x
          below x y z = simp ints (omega arith)

          go : Least (entry_in n t u to) (entry_in n t u by +ℤ a) z → z ⩽ entry_in n t u to
          go (inl q) = rw q (le_refl _)
          go (inr (q, m)) = below old sum z q m

      -- z is the smaller of the two
      pub lowering_more : z ⩽ entry_in n t u by +ℤ a → Lowering n to by a t₀ (set t (cell n u to) z) (u + 1)
      lowering_more m = record {
        lowered = stored;
        below = λ p k. each p k (ℕ_discrete p u);
      }
        where
          stored : Lowered n t₀ (set t (cell n u to) z)
          stored =
              lowered_set l.lowered u to h r.to_lt z low less
              (λ E q f. entry_least (l.lowered.sound E q f u to h r.to_lt) (l.lowered.sound E q f u by h r.by_lt) (rw r.is (f by to r.by_lt r.to_lt)) e)

          was : z ⩽ entry_in n t₀ u by +ℤ a
          was = wider z (entry_in n t u by) (entry_in n t₀ u by) a m (l.lowered.no_more u by h r.by_lt)
            where
              wider : (z x y a : ℤ) → z ⩽ x +ℤ a → x ⩽ y → z ⩽ y +ℤ a
              wider z x y a = simp ints (omega arith)

          each : (p : ℕ) → p < u + 1 → Dec (p ≡ u) → entry_in n (set t (cell n u to) z) p to ⩽ entry_in n t₀ p by +ℤ a
          each p k (yes q) = subst (λ (x : ℕ). entry_in n (set t (cell n u to) z) x to ⩽ entry_in n t₀ x by +ℤ a) (sym q) (rw (set_entry n t u to h r.to_lt z now.room) was)
          each p k (no q) = le_trans (set_no_more n t now.room u to h r.to_lt z less p to (omega (arith, k, h)) r.to_lt) (l.below p (omega (arith, k, q)))

pub lowering_end : {n to by : ℕ} {a : ℤ} {t₀ t : List ℤ} {u : ℕ} → n ≤ u → Lowering n to by a t₀ t u → RowLowered n to by a t₀ t
lowering_end h l = record { lowered = l.lowered; below = λ p k. l.below p (omega arith) }

-- ---- one row by that of k, if there is an entry from k
pub record RowReady (n v k : ℕ) (t : List ℤ) : Type 0 where
  pub ranged : Ranged n t
  pub v_lt : v < n
  pub k_lt : k < n
  pub v_row : v * n + n ≤ n * n
  pub k_row : k * n + n ≤ n * n

pub record RowThrough (n v k : ℕ) (t t' : List ℤ) : Type 0 where
  pub lowered : Lowered n t t'
  pub through : (u : ℕ) → u < n → entry_in n t' u v ⩽ entry_in n t u k +ℤ entry_in n t k v

module _ {n v k : ℕ} {t : List ℤ} (r : RowReady n v k t) where
  pub lower_ready : (a : ℤ) → a ≡ entry_in n t k v → LowerReady n v k a t
  lower_ready a e = record { ranged = r.ranged; to_lt = r.v_lt; by_lt = r.k_lt; to_row = r.v_row; by_row = r.k_row; is = e }

  pub row_through : (a : ℤ) → a ≡ entry_in n t k v → {t' : List ℤ} → RowLowered n v k a t t' → RowThrough n v k t t'
  row_through a e l = record { lowered = l.lowered; through = rw e at l.below }

  -- far away: whatever is added to it is no less than an entry
  pub row_far : pos far ⩽ entry_in n t k v → RowThrough n v k t t
  row_far h = record {
    lowered = lowered_none r.ranged;
    through = λ u l. beyond (entry_in n t u v) (entry_in n t u k) (entry_in n t k v) (r.ranged.high u v l r.v_lt) (r.ranged.low u k l r.k_lt) h;
  }
    where
      beyond : (x y z : ℤ) → x ⩽ pos far → pos 0 ⩽ y → pos far ⩽ z → x ⩽ y +ℤ z
      beyond x y z = simp ints (omega arith)

-- ---- some rows by that of k: the loop over those from one on, before v
pub record RowsReady (n k end : ℕ) (t : List ℤ) : Type 0 where
  pub ranged : Ranged n t
  pub k_lt : k < n
  pub end_le : end ≤ n

pub record RowsThrough (n k from : ℕ) (t₀ t : List ℤ) (v : ℕ) : Type 0 where
  pub lowered : Lowered n t₀ t
  pub through : (u j : ℕ) → u < n → from ≤ j → j < v → entry_in n t u j ⩽ entry_in n t₀ u k +ℤ entry_in n t₀ k j

pub rows_start : {n k from : ℕ} {t : List ℤ} → Ranged n t → RowsThrough n k from t t from
rows_start r = record { lowered = lowered_none r; through = λ u j hu hf hj. absurd (omega (arith, hf, hj)) }

-- a sum of lowered entries
wider : (z x y x₀ y₀ : ℤ) → z ⩽ x +ℤ y → x ⩽ x₀ → y ⩽ y₀ → z ⩽ x₀ +ℤ y₀
wider z x y x₀ y₀ = simp ints (omega arith)

module _ {n k from : ℕ} {t₀ t : List ℤ} {v : ℕ} (k_lt : k < n) (a : RowsThrough n k from t₀ t v) where
  pub rows_ready : v < n → RowReady n v k t
  rows_ready h = record { ranged = a.lowered.ranged; v_lt = h; k_lt = k_lt; v_row = row_end n v h; k_row = row_end n k k_lt }

  pub rows_more : v < n → {t' : List ℤ} → RowThrough n v k t t' → RowsThrough n k from t₀ t' (v + 1)
  rows_more h {t'} r = record { lowered = lowered_trans a.lowered r.lowered; through = λ u j hu hf hj. each u j hu hf hj (ℕ_discrete j v) }
    where
      each : (u j : ℕ) → u < n → from ≤ j → j < v + 1 → Dec (j ≡ v) → entry_in n t' u j ⩽ entry_in n t₀ u k +ℤ entry_in n t₀ k j
      each u j hu hf hj (yes q) =
          subst (λ (x : ℕ). entry_in n t' u x ⩽ entry_in n t₀ u k +ℤ entry_in n t₀ k x) (sym q)
          (wider (entry_in n t' u v) (entry_in n t u k) (entry_in n t k v) _ _ (r.through u hu) (a.lowered.no_more u k hu k_lt) (a.lowered.no_more k v k_lt h))
      each u j hu hf hj (no q) = le_trans (r.lowered.no_more u j hu (omega (arith, hj, h))) (a.through u j hu hf (omega (arith, hj, q)))

  pub rows_end : {end : ℕ} → end ≤ v → RowsThrough n k from t₀ t end
  rows_end h = record { lowered = a.lowered; through = λ u j hu hf hj. a.through u j hu hf (omega (arith, h, hj)) }

-- ---- all rows by that of k
pub record ThroughAll (n k : ℕ) (t₀ t : List ℤ) : Type 0 where
  pub lowered : Lowered n t₀ t
  pub through : (u j : ℕ) → u < n → j < n → entry_in n t u j ⩽ entry_in n t₀ u k +ℤ entry_in n t₀ k j

-- those before k and those behind it; that of k is no higher than through k, since no entry is below 0
pub all_through : {n k : ℕ} {t₀ t t' : List ℤ} → Ranged n t₀ → k < n → RowsThrough n k 0 t₀ t k → RowsThrough n k (k + 1) t t' n → ThroughAll n k t₀ t'
all_through {n} {k} {t₀} {t} {t'} r k_lt a b = record { lowered = lowered_trans a.lowered b.lowered; through = λ u j hu hj. each u j hu hj (ℕ_discrete j k) (dec_lt j k) }
  where
    own : (z x y : ℤ) → z ⩽ x → pos 0 ⩽ y → z ⩽ x +ℤ y
    own z x y = simp ints (omega arith)

    less : (u j : ℕ) → u < n → j < n → entry_in n t' u j ⩽ entry_in n t₀ u j
    less u j hu hj = le_trans (b.lowered.no_more u j hu hj) (a.lowered.no_more u j hu hj)

    each : (u j : ℕ) → u < n → j < n → Dec (j ≡ k) → Dec (j < k) → entry_in n t' u j ⩽ entry_in n t₀ u k +ℤ entry_in n t₀ k j
    each u j hu hj (yes q) d =
        subst (λ (x : ℕ). entry_in n t' u x ⩽ entry_in n t₀ u k +ℤ entry_in n t₀ k x) (sym q) (own (entry_in n t' u k) (entry_in n t₀ u k) (entry_in n t₀ k k) (less u k hu k_lt) (r.low k k k_lt k_lt))
    each u j hu hj (no q) (yes l) = le_trans (b.lowered.no_more u j hu hj) (a.through u j hu (omega arith) l)
    each u j hu hj (no q) (no l) =
        wider (entry_in n t' u j) (entry_in n t u k) (entry_in n t k j) _ _ (b.through u j hu (omega (arith, q, l)) hj) (a.lowered.no_more u k hu k_lt) (a.lowered.no_more k j k_lt hj)

-- ---- through all variables: the loop, after the first k
pub record Closed (n : ℕ) (t₀ t : List ℤ) (k : ℕ) : Type 0 where
  pub count : k ≤ n
  pub lowered : Lowered n t₀ t
  pub through : (E : List Step) (q : ℕ → ℤ) → Through E n q 0 (entry_in n t₀) → Through E n q k (entry_in n t)

pub closed_start : {n : ℕ} {t : List ℤ} → Ranged n t → Closed n t t 0
closed_start r = record { count = omega arith; lowered = lowered_none r; through = λ E q f. f }

pub closed_more : {n : ℕ} {t₀ t t' : List ℤ} {k : ℕ} → k < n → Closed n t₀ t k → ThroughAll n k t t' → Closed n t₀ t' (k + 1)
closed_more {n} {t₀} {t} {t'} {k} h c a = record {
  count = omega arith;
  lowered = lowered_trans c.lowered a.lowered;
  through = λ E q f.
      subst (λ (i : ℕ). Through E n q i (entry_in n t')) (sym (add-one k))
      (through_more E n q k h (entry_in n t) (entry_in n t') (c.through E q f) (c.lowered.ranged.low k k h h) a.lowered.no_more (λ i j hi hj. a.through i j hi hj));
}
