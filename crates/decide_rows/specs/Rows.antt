-- The rows of a source one behind the other, and the loop that writes them.
use Rattle.std.specs.Prelude.{◌≡◌, refl, Bool, true, false, ℕ, zero, suc, ◌+◌, ◌*◌, ◌<◌, ◌≤◌, ℤ, pos, length, take}
use Rattle.std.proofs.Common.{sym, ◌∙◌, mul-le-mul_right, add-one, length-append, take_at, drop_at, drop-drop, get_or-take, get_or-drop}
use Rattle.std.proofs.Math.Path.{ap, ap₂}
use mathlib.Core.List.{List, ◌++◌, append_assoc}
use native.Mathlib.Omega.{arith}
use Rattle.std.proofs.Math.ListN.{drop}
use Rattle.std.proofs.lemmas.List.{length-map}
use Rattle.std.specs.Int.Signed.{le_z}
use Rattle.integers.specs.Integer.{◌⋖◌}
use Rattle.integers.proofs.Linear.{ints}
use Rattle.lines.specs.Limits.{max_variables}
use Rattle.lines.specs.Line.{number, lines_of}
use Rattle.lines.specs.Valid.{LinesOk, all_ok}
use Rattle.steps.specs.declared.Step.{Step}
use Rattle.steps.specs.Step.{max_weight, steps_of}
use Rattle.theory_walks.specs.Distance.{Distance}
use Rattle.theory_walks.specs.Row.{at, relax_row, start_row_lem, row_at, row_length, row_zero, row_suc, start_length}
use Rattle.theory_walks.specs.Reach.{row_fixed}
use Rattle.theory_walks.specs.Negative.{not_below0}
use Rattle.theory_walks.specs.Size.{within_more, row_within}
use Rattle.theory_walks.specs.Graph.{weights_small}
use Rattle.decide_rows.specs.Stored.{stored, stored_row, stored_rows}
use Rattle.decide_rows.specs.Read.{row_of, AllShort, max_distance, short_more, stored_sign, row_of_stored, at_row_of}
use Rattle.decide_rows.specs.Next.{same_rows, same_rows_law, row_in, with_next, RowDone}

pub record RowsReady (n u : ℕ) (L w : List ℤ) : Type 0 where
  pub few : n ≤ max_variables
  pub valid : LinesOk n L
  pub within : u < 2 * n
  pub room : (2 * n + 1) * (2 * n) ≤ length w

-- why row k of u is the last that is made: it is the same as row m, or it shows a closed walk of negative sum
pub data Stops (E : List Step) (m u k : ℕ) : Type 0 where
  settled : row_at E m u k ≡ row_at E m u m → Stops E m u k
  negative : not_below0 (at (row_at E m u k) u) ≡ false → Stops E m u k

-- rows 0 to k of u stand one behind the other, what lies beyond them is as it was, and there was reason to stop
pub record RowsDone (E : List Step) (m u : ℕ) (w w' : List ℤ) (k : ℕ) : Type 0 where
  pub count : k ≤ m
  pub rows : w' ≡ stored_rows E m u (suc k) ++ drop (suc k * m) w
  pub stops : Stops E m u k

-- the loop after k rounds; w₀ is what it began with, the start row and what was behind it
pub record Turn (E : List Step) (m u : ℕ) (w₀ w : List ℤ) (k : ℕ) : Type 0 where
  pub count : k ≤ m
  pub rows : w ≡ stored_rows E m u (suc k) ++ drop (k * m + m) w₀

-- ---- the rows of a list's steps are small
pub rows_short : (n : ℕ) (L : List ℤ) → n ≤ max_variables → LinesOk n L → (u k : ℕ) → k ≤ 2 * n → AllShort max_distance (row_at (steps_of (lines_of L)) (2 * n) u k)
rows_short n L few ok u k h p z e =
    let b : k ≤ 2 * max_variables = omega arith in
    within_more (mul-le-mul_right max_weight b) (row_within max_weight (steps_of (lines_of L)) (weights_small n (lines_of L) (all_ok n L ok)) (2 * n) u k p z e)

-- ---- three parts: a, then b, then c
module _ (a b c : List ℤ) (p m : ℕ) (ea : length a ≡ p) (eb : length b ≡ m) where
  pub before : take p ((a ++ b) ++ c) ≡ a
  before = ap (take p) (append_assoc a b c) ∙ take_at a (b ++ c) p ea

  pub middle : take m (drop p ((a ++ b) ++ c)) ≡ b
  middle = ap (λ (x : List ℤ). take m (drop p x)) (append_assoc a b c) ∙ ap (take m) (drop_at a (b ++ c) p ea) ∙ take_at b c m eb

  pub behind : drop (p + m) ((a ++ b) ++ c) ≡ c
  behind = drop_at (a ++ b) c (p + m) (length-append a b ∙ omega arith)

-- ---- rows one behind the other
stored_length : (E : List Step) (m u k : ℕ) → length (stored_row (row_at E m u k)) ≡ m
stored_length E m u k = length-map (row_at E m u k) stored ∙ row_length E m u k

rows_suc : (E : List Step) (m u k : ℕ) → stored_rows E m u (suc k) ≡ stored_rows E m u k ++ stored_row (row_at E m u k)
unfolding stored_rows
rows_suc E m u k = refl

pub rows_length : (E : List Step) (m u k : ℕ) → length (stored_rows E m u k) ≡ k * m
unfolding stored_rows
rows_length E m u zero = omega arith
rows_length E m u (suc k) = length-append (stored_rows E m u k) (stored_row (row_at E m u k)) ∙ omega (arith, rows_length E m u k, stored_length E m u k)

-- the k-th of m rows ends before the m-th
pub rows_fit : (k m : ℕ) → k < m → k * m + m ≤ m * m
rows_fit k m h = omega (arith, mul-le-mul_right m h)

-- ---- the loop: w₁ is what was there, w₀ has the start row
module _ (E : List Step) (m u : ℕ) (w₁ w₀ : List ℤ) (e₀ : w₀ ≡ stored_row (start_row_lem m u) ++ drop m w₁) where
  first_length : length (stored_row (start_row_lem m u)) ≡ m
  first_length = length-map (start_row_lem m u) stored ∙ start_length m u

  beyond : drop m w₀ ≡ drop m w₁
  beyond = ap (drop m) e₀ ∙ drop_at (stored_row (start_row_lem m u)) (drop m w₁) m first_length

  pub turn_start : Turn E m u w₀ w₀ 0
  unfolding stored_rows
  turn_start =
      record {
        count = omega arith;
        rows =
            e₀ ∙ ap₂ (λ (x : List Distance) (y : List ℤ). stored_row x ++ y) (sym (row_zero E m u)) (sym beyond)
            ∙ ap (λ (j : ℕ). stored_row (row_at E m u 0) ++ drop j w₀) z;
      }
    where
      z : m ≡ 0 * m + m
      z = omega arith

  module _ (w : List ℤ) (k : ℕ) (t : Turn E m u w₀ w k) where
    -- where row k begins
    abbrev from : ℕ
    from = k * m

    abbrev a : List ℤ
    a = stored_rows E m u k

    abbrev b : List ℤ
    b = stored_row (row_at E m u k)

    abbrev c : List ℤ
    c = drop (from + m) w₀

    parts : w ≡ (a ++ b) ++ c
    parts = t.rows ∙ ap (λ (x : List ℤ). x ++ c) (rows_suc E m u k)

    a_length : length a ≡ from
    a_length = rows_length E m u k

    b_length : length b ≡ m
    b_length = stored_length E m u k

    turn_row : row_in m w from ≡ b
    turn_row = ap (λ (x : List ℤ). take m (drop from x)) parts ∙ middle a b c from m a_length b_length

    pub turn_end : Stops E m u k → RowsDone E m u w₁ w k
    turn_end g =
        record {
          count = t.count;
          stops = g;
          rows =
              t.rows
              ∙ ap (λ (x : List ℤ). stored_rows E m u (suc k) ++ x)
              (ap (λ (j : ℕ). drop j w₀) i ∙ sym (drop-drop from m w₀) ∙ ap (drop from) beyond ∙ drop-drop from m w₁ ∙ ap (λ (j : ℕ). drop j w₁) j);
        }
      where
        i : from + m ≡ m + from
        i = omega arith

        j : m + from ≡ suc k * m
        j = omega arith

    -- the row is small: it is read back as it was stored, and the next row is row k + 1
    module _ (short : AllShort max_distance (row_at E m u k)) where
      row_back : row_of b ≡ row_at E m u k
      row_back = row_of_stored (row_at E m u k) (λ p. short_more (omega arith) (short p))

      pub turn_short : AllShort max_distance (row_of (row_in m w from))
      turn_short = rw (turn_row, row_back) short

      -- the number where the source's own entry stands is below 0
      pub turn_negative : u < m → number w (from + u) ⋖ pos 0 → Stops E m u k
      turn_negative h l =
          let i : u < length (row_in m w from) = omega (arith, ap length turn_row, b_length) in
          let s : not_below0 (at (row_at E m u k) u) ≡ le_z (pos 0) (number w (from + u)) =
          ap (λ (x : List Distance). not_below0 (at x u)) (sym row_back ∙ ap row_of (sym turn_row))
          ∙ ap not_below0 (at_row_of (row_in m w from) u i) ∙ sym (stored_sign (number (row_in m w from) u))
          ∙ ap (le_z (pos 0)) (get_or-take m (drop from w) u (pos 0) h ∙ get_or-drop from w u (pos 0)) in
          negative (s ∙ not_le (number w (from + u)) l)
        where
          not_le : (z : ℤ) → z ⋖ pos 0 → le_z (pos 0) z ≡ false
          not_le z = simp ints (omega arith)

      next_is : with_next E (row_in m w from) ≡ b ++ stored_row (row_at E m u (suc k))
      next_is =
          ap (with_next E) turn_row
          ∙ ap (λ (x : List Distance). b ++ stored_row (relax_row E x)) row_back
          ∙ ap (λ (x : List Distance). b ++ stored_row x) (sym (row_suc E m u k))

      module _ (w' : List ℤ) (same : Bool) (d : RowDone m E w from w' same) where
        pub turn_more : k < m → Turn E m u w₀ w' (k + 1)
        turn_more h =
            let e = stored_row (row_at E m u (suc k)) in
            let f = drop (from + m + m) w₀ in
            let next : k * m + m + m ≡ (k + 1) * m + m = omega arith in
            let p : take from w ≡ a = ap (take from) parts ∙ before a b c from m a_length b_length in
            let q : drop (from + 2 * m) w ≡ f =
            ap₂ (λ (i : ℕ) (x : List ℤ). drop i x) j parts ∙ sym (drop-drop m (from + m) ((a ++ b) ++ c))
            ∙ ap (drop m) (behind a b c from m a_length b_length) ∙ drop-drop m (from + m) w₀ in
            record {
              count = omega arith;
              rows =
                  d.is ∙ ap₂ (λ (x y : List ℤ). x ++ y) p (ap₂ (λ (x y : List ℤ). x ++ y) next_is q)
                  ∙ sym (append_assoc a (b ++ e) f)
                  ∙ ap (λ (x : List ℤ). x ++ f)
                  (sym (append_assoc a b e) ∙ ap (λ (x : List ℤ). x ++ e) (sym (rows_suc E m u k)) ∙ sym (rows_suc E m u (suc k)) ∙ ap (λ (i : ℕ). stored_rows E m u (suc i)) (sym (add-one k)))
                  ∙ ap (λ (j : ℕ). stored_rows E m u (suc (k + 1)) ++ drop j w₀) next;
            }
          where
            j : from + 2 * m ≡ from + m + m
            j = omega arith

        -- two rows that are the same: no later row differs
        pub turn_same : AllShort max_distance (row_at E m u (suc k)) → k < m → same ≡ true → row_at E m u (k + 1) ≡ row_at E m u m
        turn_same short' h g =
            let e = stored_row (row_at E m u (suc k)) in
            let l : length (b ++ e) ≡ 2 * m = length-append b e ∙ omega (arith, b_length, stored_length E m u (suc k)) in
            let s : drop m (b ++ e) ≡ take m (b ++ e) = same_rows_law m (b ++ e) l (ap (same_rows m) (sym next_is) ∙ sym d.settled ∙ g) in
            let r : row_at E m u (suc k) ≡ row_at E m u k =
            sym (row_of_stored (row_at E m u (suc k)) (λ p. short_more (omega arith) (short' p)))
            ∙ ap row_of (sym (drop_at b e m b_length) ∙ s ∙ take_at b e m b_length) ∙ row_back in
            ap (row_at E m u) (add-one k) ∙ r ∙ sym (row_fixed E m u k (sym (row_suc E m u k) ∙ r) m (omega arith))
