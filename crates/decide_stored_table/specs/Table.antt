-- A table of distances as it stands in 2n·2n stored numbers, row by row, and how large its halves and tightened entries are.
use Rattle.std.specs.Prelude.{◌≡◌, Bool, List, ℕ, ◌+◌, ◌*◌, ◌<◌, ◌≤◌, ltb, ℤ, length}
use Rattle.std.proofs.Math.Path.{refl, sym, ap}
use Rattle.std.proofs.Common.{ap₂, ◌∙◌, mul-le-mul_right, arith, lt-ltb, le-ltb}
use Rattle.std.proofs.Math.Bool.{true, false, cond}
use Rattle.integers.specs.Integer.{half}
use Rattle.lines.specs.Limits.{max_variables}
use Rattle.lines.specs.Line.{number}
use Rattle.steps.specs.Point.{opposite, opposite_twice}
use Rattle.theory_walks.specs.Distance.{half_d}
use Rattle.theory_bounds.specs.Points.{opposite_below}
use Rattle.theory_bounds.specs.Tight.{Table, halves}
use Rattle.theory_bounds.specs.Table.{ClosedTable}
use Rattle.theory_bounds.specs.Agree.{Agree, halves_same}
use Rattle.decide_rows.specs.Stored.{stored}
use Rattle.decide_rows.specs.Read.{no_walk_lem, distance_of, Short, max_distance, short_more, stored_of}
use Rattle.decide_stored_table.specs.Sum.{max_tight, read_back, half_none, half_some, half_short}

-- N entries to a row; row v has the distances to v
abbrev pub table_of : ℕ → List ℤ → Table
table_of N t u v = distance_of (number t (v * N + u))

-- the table as it is read by rows: the distance from a point to one before it is read where that between their opposites stands, in the row of the
-- opposite of the first
unfoldable pub by_rows : ℕ → List ℤ → Table
by_rows N t u v = cond (ltb v u) (table_of N t (opposite v) (opposite u)) (table_of N t u v)

pub record ShortTable (n : ℕ) (t : List ℤ) : Type 0 where
  pub variables : n ≤ max_variables
  pub size : length t ≡ 2 * n * (2 * n)
  pub short : (u v : ℕ) → u < 2 * n → v < 2 * n → Short max_distance (table_of (2 * n) t u v)

-- each entry is that of the opposite points in the other order
pub record MirroredTable (n : ℕ) (t : List ℤ) : Type 0 where
  pub table : ShortTable n t
  pub mirrored : (u v : ℕ) → u < 2 * n → v < 2 * n → table_of (2 * n) t u v ≡ table_of (2 * n) t (opposite v) (opposite u)

pub mirrored_table : (n : ℕ) (t : List ℤ) → ShortTable n t → ClosedTable n (table_of (2 * n) t) → MirroredTable n t
mirrored_table n t s c = record { table = s; mirrored = c.mirrored }

-- ---- read by rows
module _ (N : ℕ) (t : List ℤ) where
  rows_before : (u v : ℕ) → v < u → by_rows N t u v ≡ table_of N t (opposite v) (opposite u)
  unfolding by_rows
  rows_before u v h = rw (lt-ltb v u h) refl

  pub rows_after : (u v : ℕ) → u ≤ v → by_rows N t u v ≡ table_of N t u v
  unfolding by_rows
  rows_after u v h = rw (le-ltb v u h) refl

  -- the entry of the opposites
  pub mirrored_entry : (u v : ℕ) → v < u → (i j : ℕ) → i ≡ opposite u → j ≡ opposite v → number t (i * N + j) ≡ stored (by_rows N t u v)
  mirrored_entry u v h i j ei ej = ap₂ (λ (a b : ℕ). number t (a * N + b)) ei ej ∙ sym (stored_of _) ∙ ap stored (sym (rows_before u v h))

  -- an entry that was read
  pub rows_back : (u v : ℕ) (z : ℤ) → z ≡ stored (by_rows N t u v) → distance_of z ≡ by_rows N t u v
  unfolding by_rows
  rows_back u v z e = ap distance_of e ∙ go (ltb v u)
    where
      go : (b : Bool) → distance_of (stored (cond b (table_of N t (opposite v) (opposite u)) (table_of N t u v))) ≡ cond b (table_of N t (opposite v) (opposite u)) (table_of N t u v)
      go true = ap distance_of (stored_of (number t (opposite u * N + opposite v)))
      go false = ap distance_of (stored_of (number t (v * N + u)))

  -- a point and its opposite have one entry
  pub rows_halves : (p : ℕ) → halves (by_rows N t) p ≡ halves (table_of N t) p
  unfolding halves by_rows
  rows_halves p = ap half_d (go (ltb (opposite p) p))
    where
      go : (b : Bool) → cond b (table_of N t (opposite (opposite p)) (opposite p)) (table_of N t p (opposite p)) ≡ table_of N t p (opposite p)
      go true = ap (λ (q : ℕ). table_of N t q (opposite p)) (opposite_twice p)
      go false = refl

module _ (n : ℕ) (t : List ℤ) where
  pub rows_short : ShortTable n t → (u v : ℕ) → u < 2 * n → v < 2 * n → Short max_distance (by_rows (2 * n) t u v)
  unfolding by_rows
  rows_short ok u v hu hv = go (ltb v u)
    where
      go : (b : Bool) → Short max_distance (cond b (table_of (2 * n) t (opposite v) (opposite u)) (table_of (2 * n) t u v))
      go true = ok.short (opposite v) (opposite u) (opposite_below n v hv) (opposite_below n u hu)
      go false = ok.short u v hu hv

  -- a mirrored table is read as it is
  pub rows_agree : MirroredTable n t → Agree (2 * n) (by_rows (2 * n) t) (table_of (2 * n) t)
  unfolding by_rows
  rows_agree m u v hu hv = go (ltb v u)
    where
      go : (b : Bool) → cond b (table_of (2 * n) t (opposite v) (opposite u)) (table_of (2 * n) t u v) ≡ table_of (2 * n) t u v
      go true = sym (m.mirrored u v hu hv)
      go false = refl

-- two tables with the same distances between the points of n variables are closed alike
module _ (n : ℕ) (D E : Table) (same : Agree (2 * n) D E) where
  pub closed_same : ClosedTable n E → ClosedTable n D
  closed_same c =
      record {
        diagonal = λ i h. same i i h h ∙ c.diagonal i h;
        triangle = λ i j k hi hj hk. rw (same i k hi hk, same i j hi hj, same j k hj hk) (c.triangle i j k hi hj hk);
        mirrored = λ i j hi hj. same i j hi hj ∙ c.mirrored i j hi hj ∙ sym (same (opposite j) (opposite i) (opposite_below n j hj) (opposite_below n i hi));
        consistent = λ i h a b e f. c.consistent i h a b (sym (halves_same n D E same i h) ∙ e) (sym (halves_same n D E same (opposite i) (opposite_below n i h)) ∙ f);
      }

-- an entry that was read
pub entry_back : (N : ℕ) (t : List ℤ) (u v : ℕ) (z : ℤ) → z ≡ stored (table_of N t u v) → distance_of z ≡ table_of N t u v
entry_back N t u v z e = ap distance_of (e ∙ stored_of (number t (v * N + u)))

-- the entry's index is below the table's size, and small
pub entry_lt : (N u v : ℕ) → u < N → v < N → u * N + v < N * N
entry_lt N u v h k = omega (arith, mul-le-mul_right N h)

pub entry_small : (n u v : ℕ) → n ≤ max_variables → u < 2 * n → v < 2 * n → u * (2 * n) + v < 2 * max_variables * (2 * max_variables)
entry_small n u v l h k =
    let b : 2 * n ≤ 2 * max_variables = omega arith in
    omega (arith, mul-le-mul_right (2 * n) b, entry_lt (2 * n) u v h k)

module _ (n : ℕ) (t : List ℤ) (ok : ShortTable n t) where
  pub halves_short : (p : ℕ) → p < 2 * n → Short max_distance (halves (table_of (2 * n) t) p)
  unfolding halves
  halves_short p h = half_short _ max_distance (ok.short p (opposite p) h (opposite_below n p h))

-- the half of a stored entry
pub half_none_at : (N : ℕ) (t : List ℤ) (p : ℕ) → number t (opposite p * N + p) ≡ no_walk_lem → no_walk_lem ≡ stored (halves (table_of N t) p)
unfolding halves
half_none_at N t p e = half_none (number t (opposite p * N + p)) e

pub half_some_at : (N : ℕ) (t : List ℤ) (p : ℕ) → (number t (opposite p * N + p) ≡ no_walk_lem → ⊥) → half (number t (opposite p * N + p)) ≡ stored (halves (table_of N t) p)
unfolding halves
half_some_at N t p e = half_some (number t (opposite p * N + p)) e

-- numbers that the code found, read back as distances
module _ (n : ℕ) (t : List ℤ) (ok : ShortTable n t) where
  pub half_back : (p : ℕ) → p < 2 * n → (z : ℤ) → z ≡ stored (halves (table_of (2 * n) t) p) → distance_of z ≡ halves (table_of (2 * n) t) p
  half_back p h z e = ap distance_of e ∙ read_back _ (short_more (omega arith) (halves_short n t ok p h))

  pub half_back_short : (p : ℕ) → p < 2 * n → (z : ℤ) → z ≡ stored (halves (table_of (2 * n) t) p) → Short max_tight (distance_of z)
  half_back_short p h z e = rw (half_back p h z e) (short_more (omega arith) (halves_short n t ok p h))
