-- The rows of distances: the numbers of a row one after another, and the rows one behind the other.
use Rattle.std.specs.Prelude.{◌≡◌, refl, List, ◌++◌, ℕ, zero, suc, ◌+◌, ◌*◌, ◌%◌, ◌≤◌, ◌<◌, ℤ, pos, length, set, take, drop}
use Rattle.std.proofs.Common.{sym, ap, ap₂, ◌∙◌, mul-le-mul_right, arith, length-drop, get_or-set_same, get_or-set_other, get_or-take, get_or-drop, length-take-le, take-add, drop-drop, ext_get_or}
use Rattle.std.proofs.Math.Decide.{ℕ_discrete}
use Rattle.integers.specs.Sequence.{length_tabulate, get_d_tabulate}
use Rattle.lines.specs.Line.{number}
use Rattle.steps.specs.declared.Step.{Step}
use Rattle.steps.specs.Point.{opposite}
use Rattle.theory_walks.specs.Row.{best}
use Rattle.decide_rows.specs.Stored.{stored}
use Rattle.decide_rows.specs.Table.{table_start, best_row, stored_table}
use Rattle.engine_packed_steps.specs.Layout.{row_width}
use Rattle.engine_packed_steps.specs.Steps.{steps_in}
use Rattle.engine_packed_steps.specs.Scratch.{Scratch, scratch_none, scratch_trans, scratch_set, scratch_at, scratch_wider}
use Rattle.engine_renaming.specs.Inverse.{renamed_point_lem, renamed_low, renamed_opposite, PointReady}
use Rattle.engine_reduced_table.specs.Reduced.{cell}
use Rattle.engine_settled_table.specs.Out.{out_of, OutReady}
use Rattle.engine_settled_table.specs.Exact.{exact_entry, out_ready}
use Rattle.engine_finished_rows.specs.Kept.{RowsReady, distance_at, opposite_low, rows_kept, point_kept, own_kept, distance_kept}

-- the rows are the table of distances over any steps E whose distances are those between the renamed opposite points
pub record RowsWritten (count n at : ℕ) (w w' : List ℤ) : Type 0 where
  pub scratch : Scratch (table_start (2 * n)) (table_start (2 * n) + 2 * n * (2 * n)) w w'
  pub are : (E : List Step) → ((u v : ℕ) → u < 2 * n → v < 2 * n → best (steps_in count w) (2 * n) (renamed_point_lem at w (opposite v)) (renamed_point_lem at w (opposite u)) ≡ best E (2 * n) u v)
      → take (2 * n * (2 * n)) (drop (table_start (2 * n)) w') ≡ stored_table E (2 * n) (2 * n)

-- the row of v is to begin at `place`
pub record RowReady (count n at pot place v : ℕ) (w : List ℤ) : Type 0 where
  pub rows : RowsReady count n at pot w
  pub low : v < 2 * n
  pub place_is : place ≡ table_start (2 * n) + v * (2 * n)
  pub in_table : place + 2 * n ≤ table_start (2 * n) + 2 * n * (2 * n)

-- the row of v, of which the first u numbers are written
pub record RowTo (count n at place v : ℕ) (w w' : List ℤ) (u : ℕ) : Type 0 where
  pub at_most : u ≤ 2 * n
  pub scratch : Scratch place (place + 2 * n) w w'
  pub done : (k : ℕ) → k < u → number w' (place + k) ≡ distance_at count n at w v k

abbrev pub RowWritten : ℕ → ℕ → ℕ → ℕ → ℕ → List ℤ → List ℤ → Type 0
RowWritten count n at place v w w' = RowTo count n at place v w w' (2 * n)

-- the entry of column j in the row of the table that begins at `row`, to be turned back
pub record ColumnReady (pot row j : ℕ) (own : ℤ) (w : List ℤ) : Type 0 where
  pub entry_room : row + j < length w
  pub other_room : pot + j < length w
  pub turn : OutReady (number w (row + j)) own (number w (pot + j))

-- ---- one row
pub point_ready : {count n at pot : ℕ} {w : List ℤ} → RowsReady count n at pot w → (p : ℕ) → p < 2 * n → PointReady n at p w
point_ready {n} r p h = record { inverse = r.inverse; low = h; room = omega (arith, r.behind, r.reduced.room) }

pub point_low : {count n at pot : ℕ} {w : List ℤ} → RowsReady count n at pot w → (p i : ℕ) → p < 2 * n → i ≡ renamed_point_lem at w (opposite p) → i < 2 * n
point_low {n} r p i h e = rw e (renamed_low r.inverse (opposite p) (opposite_low n p h))

-- the two points of a variable, the first of them even: the renamed opposite of the one is behind the renamed first, and that
-- of the other the renamed first itself
pub opposite_first : (at : ℕ) (w : List ℤ) (u j : ℕ) → u % 2 ≡ 0 → j ≡ renamed_point_lem at w u → j + 1 ≡ renamed_point_lem at w (opposite u)
unfolding opposite
opposite_first at w u j even e = rw (renamed_opposite at w u) (omega (arith, e, even))

pub opposite_second : (at : ℕ) (w : List ℤ) (u j : ℕ) → u % 2 ≡ 0 → j ≡ renamed_point_lem at w u → j ≡ renamed_point_lem at w (opposite (u + 1))
unfolding opposite
opposite_second at w u j even e = let f : opposite (u + 1) ≡ u = omega (arith, even) in rw f e

-- the row of a point below `size` ends where the table does, or before
pub row_room : (size i : ℕ) → i < size → i * row_width size + row_width size ≤ size * row_width size
row_room size i h = omega (arith, mul-le-mul_right (row_width size) h)

module _ {count n at pot place v : ℕ} {w₀ : List ℤ} (r : RowReady count n at pot place v w₀) where
  pub row_start : RowTo count n at place v w₀ w₀ 0
  row_start = record { at_most = omega arith; scratch = scratch_none place (place + 2 * n) w₀; done = λ k h. absurd (omega arith) }

  module _ (w : List ℤ) (u : ℕ) (p : RowTo count n at place v w₀ w u) where
    wide : Scratch (table_start (2 * n)) (table_start (2 * n) + 2 * n * (2 * n)) w₀ w
    wide = scratch_wider (omega (arith, r.place_is)) r.in_table p.scratch

    pub ready : RowsReady count n at pot w
    ready = rows_kept r.rows wide

    -- the points i of v and j of a point x, as they were read: the one before the loop, the other in it
    module _ (x : ℕ) (h : x < 2 * n) (i j : ℕ) (i-is : i ≡ renamed_point_lem at w₀ (opposite v)) (j-is : j ≡ renamed_point_lem at w (opposite x)) where
      i_low : i < 2 * n
      i_low = point_low r.rows v i r.low i-is

      j_low : j < 2 * n
      j_low = point_low ready x j h j-is

      -- the table and the numbers of points are as before the row, so that an entry turned back is the distance; and the
      -- points are renamed as before it, so that it is the one to be written
      pub column_ready : ColumnReady pot (pot + 2 * (2 * n) + i * row_width (2 * n)) j (number w₀ (pot + i)) w
      column_ready = record {
        entry_room = omega (arith, row_room (2 * n) i i_low, j_low, ready.reduced.room);
        other_room = omega (arith, j_low, ready.reduced.room);
        turn = rw (sym (own_kept r.rows wide i i_low)) (out_ready ready.reduced i j i_low j_low);
      }

      pub turned : stored (out_of (number w₀ (pot + i)) (number w (pot + j)) (number w (cell pot (2 * n) i j))) ≡ distance_at count n at w₀ v x
      turned =
          rw (sym (own_kept r.rows wide i i_low)) (exact_entry ready.reduced ready.clear ready.settled i j i_low j_low)
          ∙ ap₂ (λ (a b : ℕ). stored (best (steps_in count w) (2 * n) a b)) (i-is ∙ sym (point_kept r.rows wide (opposite v) (opposite_low n v r.low))) j-is
          ∙ distance_kept r.rows wide v x r.low h

    row_more : u < 2 * n → (z : ℤ) → z ≡ distance_at count n at w₀ v u → RowTo count n at place v w₀ (set w (place + u) z) (u + 1)
    row_more h z e = record {
      at_most = omega (arith, h);
      scratch = scratch_trans p.scratch (scratch_set place (place + 2 * n) w (place + u) z (omega arith) (omega (arith, h)));
      done = λ k l. each k l (ℕ_discrete k u);
    }
      where
        room : place + u < length w
        room = omega (arith, h, r.in_table, r.rows.after, r.rows.behind, r.rows.reduced.room, p.scratch.same_length)

        each : (k : ℕ) → k < u + 1 → Dec (k ≡ u) → number (set w (place + u) z) (place + k) ≡ distance_at count n at w₀ v k
        each k l (yes f) = rw f (get_or-set_same w (place + u) z (pos 0) room ∙ e)
        each k l (no d) = get_or-set_other w (place + u) (place + k) z (pos 0) (λ f. d (omega (arith, f))) ∙ p.done k (omega (arith, l, d))

  -- two numbers more
  pub row_two : (w : List ℤ) (u : ℕ) → RowTo count n at place v w₀ w u → u + 1 < 2 * n → (y z : ℤ) → y ≡ distance_at count n at w₀ v u → z ≡ distance_at count n at w₀ v (u + 1)
      → RowTo count n at place v w₀ (set (set w (place + u) y) (place + u + 1) z) (u + 2)
  row_two w u p h y z e f =
      let a : place + u + 1 ≡ place + (u + 1) = omega arith in
      let b : u + 2 ≡ u + 1 + 1 = omega arith in
      rw (a, b) (row_more (set w (place + u) y) (u + 1) (row_more w u p (omega (arith, h)) y e) h z f)

  pub row_end : (w : List ℤ) (u : ℕ) → RowTo count n at place v w₀ w u → 2 * n ≤ u → RowWritten count n at place v w₀ w
  row_end w u p h = record { at_most = omega arith; scratch = p.scratch; done = λ k l. p.done k (omega (arith, h, l)) }

-- ---- the rows of the points 0 to v - 1
pub record RowsTo (count n at : ℕ) (w w' : List ℤ) (v : ℕ) : Type 0 where
  pub at_most : v ≤ 2 * n
  pub scratch : Scratch (table_start (2 * n)) (table_start (2 * n) + 2 * n * (2 * n)) w w'
  pub done : (k u : ℕ) → k < v → u < 2 * n → number w' (table_start (2 * n) + k * (2 * n) + u) ≡ distance_at count n at w k u

-- rows one behind the other, each of which is that of the table, are the table: the first k + 1 are the first k and behind
-- them the one of k, which has the numbers of the table's row
rows_table : (E : List Step) (m start : ℕ) (w : List ℤ) → start + m * m ≤ length w → ((k u : ℕ) → k < m → u < m → number w (start + k * m + u) ≡ stored (best E m u k))
    → (k : ℕ) → k ≤ m → take (k * m) (drop start w) ≡ stored_table E m k
unfolding stored_table
rows_table E m start w room f zero h = let e : 0 * m ≡ 0 = omega arith in ap (λ (x : ℕ). take x (drop start w)) e
rows_table E m start w room f (suc k) h =
    let e : suc k * m ≡ k * m + m = omega arith in
    ap (λ (x : ℕ). take x (drop start w)) e
    ∙ take-add (k * m) m (drop start w)
    ∙ ap₂ (λ (x y : List ℤ). x ++ y) (rows_table E m start w room f k (omega arith)) (ap (take m) (drop-drop (k * m) start w) ∙ row)
  where
    behind : m ≤ length (drop (start + k * m) w)
    behind = omega (arith, length-drop (start + k * m) w, mul-le-mul_right m h, room)

    long : length (take m (drop (start + k * m) w)) ≡ m
    long = length-take-le m (drop (start + k * m) w) behind

    one : (u : ℕ) → u < m → number (take m (drop (start + k * m) w)) u ≡ number (best_row E m k) u
    one u l =
        get_or-take m (drop (start + k * m) w) u (pos 0) l
        ∙ get_or-drop (start + k * m) w u (pos 0)
        ∙ f k u h l
        ∙ sym (get_d_tabulate m u (λ j. stored (best E m j k)) (pos 0) l)

    row : take m (drop (start + k * m) w) ≡ best_row E m k
    row = ext_get_or (pos 0) _ (best_row E m k) (long ∙ sym (length_tabulate m (λ j. stored (best E m j k)))) (λ u l. one u (omega (arith, l, long)))

module _ {count n at pot : ℕ} {w₀ : List ℤ} (r : RowsReady count n at pot w₀) where
  pub rows_start : RowsTo count n at w₀ w₀ 0
  rows_start = record { at_most = omega arith; scratch = scratch_none _ _ w₀; done = λ k u h. absurd (omega arith) }

  module _ (w : List ℤ) (v : ℕ) (p : RowsTo count n at w₀ w v) where
    abbrev place : ℕ
    place = table_start (2 * n) + v * (2 * n)

    module _ (h : v < 2 * n) where
      pub row_ready : RowReady count n at pot place v w
      row_ready = record { rows = rows_kept r p.scratch; low = h; place_is = refl; in_table = omega (arith, mul-le-mul_right (2 * n) h) }

      pub rows_more : (w' : List ℤ) → RowWritten count n at place v w w' → RowsTo count n at w₀ w' (v + 1)
      rows_more w' q = record {
        at_most = omega (arith, h);
        scratch = scratch_trans p.scratch (scratch_wider (omega arith) row_ready.in_table q.scratch);
        done = λ k u l m. each k u l m (ℕ_discrete k v);
      }
        where
          each : (k u : ℕ) → k < v + 1 → u < 2 * n → Dec (k ≡ v) → number w' (table_start (2 * n) + k * (2 * n) + u) ≡ distance_at count n at w₀ k u
          each k u l m (yes e) = rw e (q.done u m ∙ distance_kept r p.scratch v u h m)
          each k u l m (no d) =
              let lt : k < v = omega (arith, l, d) in
              scratch_at q.scratch (table_start (2 * n) + k * (2 * n) + u) (omega (arith, m, mul-le-mul_right (2 * n) lt)) ∙ p.done k u lt m

    pub rows_end : 2 * n ≤ v → RowsWritten count n at w₀ w
    rows_end h = record {
      scratch = p.scratch;
      are = λ E f. rows_table E (2 * n) (table_start (2 * n)) w (omega (arith, r.after, r.behind, r.reduced.room, p.scratch.same_length))
          (λ k u l m. p.done k u (omega (arith, l, h)) m ∙ ap stored (f u k m l)) (2 * n) (omega arith);
    }
