-- The greatest value of a point, given those of the first variables, as a loop over these variables finds it; and how large it gets.
use Rattle.std.specs.Prelude.{◌≡◌, refl, List, ℤ, pos, neg_ℤ, length}
use Rattle.std.proofs.Common.{sym, ap₂, ◌∙◌, add-one, arith, SFits}
use Rattle.std.proofs.Math.Path.{ap}
use Prim.Native.Nat.{ℕ, zero, suc, ◌+◌, ◌*◌, ◌<◌, ◌≤◌}
use Rattle.std.specs.Int.{w32, w64}
use Rattle.integers.specs.Integer.{◌⩽◌, Within}
use Rattle.integers.proofs.Linear.{ints, zs}
use Rattle.lines.specs.Limits.{max_variables, model_constant}
use Rattle.lines.specs.Line.{number, assignment_of}
use Rattle.steps.specs.Point.{point, opposite}
use Rattle.theory_walks.specs.Distance.{Distance, some, min_d, ◌⊞◌}
use Rattle.theory_bounds.specs.Points.{opposite_below}
use Rattle.theory_bounds.specs.Tight.{Table, halves}
use Rattle.theory_bounds.specs.Extend.{below, limit}
use Rattle.decide_rows.specs.Stored.{stored}
use Rattle.decide_rows.specs.Read.{distance_of, Short, max_distance, short_more}
use Rattle.decide_stored_table.specs.Sum.{max_tight, max_sum, read_back, min_short, sum_short, half_short}
use Rattle.decide_stored_table.specs.Table.{ShortTable}

-- a model's values lie within plus and minus this
abbrev pub max_model : ℕ
max_model = max_variables * model_constant

-- the greatest value of p, given that of x
abbrev pub by_value : Table → ℕ → ℕ → ℤ → Distance
by_value T p x v = min_d (T p (point x 0) ⊞ some v) (T p (point x 1) ⊞ some (neg_ℤ v))

-- the greatest value of p, given those of the variables below x: by the half of p and the distances, not tightened
abbrev pub limit_of : Table → List ℤ → ℕ → ℕ → Distance
limit_of D values x p = limit D (halves D) (assignment_of values) (below x) p

-- the variables' points stand before p
pub record LimitReady (n p : ℕ) (t values : List ℤ) : Type 0 where
  pub table : ShortTable n t
  pub within : p < 2 * n
  pub before : 2 * length values ≤ p
  pub small : (k : ℕ) → k < length values → Within max_model (number values k)

-- what is asked for the value of the next variable
pub record ValueReady (n : ℕ) (t values : List ℤ) : Type 0 where
  pub table : ShortTable n t
  pub count : length values < n
  pub small : (k : ℕ) → k < length values → Within max_model (number values k)

pub limit_ready : (n p : ℕ) (t values : List ℤ) → ValueReady n t values → 2 * length values ≤ p → p < 2 * length values + 2 → LimitReady n p t values
limit_ready n p t values r h l = record { table = r.table; within = omega (arith, r.count); before = h; small = r.small }

pub plus_point : (x : ℕ) → 2 * x ≡ point x 0
plus_point x = omega arith

-- ---- numbers that fit
pub minus_fits : (v : ℤ) → Within max_sum v → SFits w64 (neg_ℤ v)
minus_fits v h = simp ints (omega zs)

-- a value fits 32 bits, in which it is kept
pub value_fits : (v : ℤ) → Within max_model v → SFits w32 v
value_fits v h = simp ints (omega zs)

pub minus_within : (m : ℕ) (v : ℤ) → Within m v → Within m (neg_ℤ v)
minus_within m v h = record { low = low m v h.high; high = high m v h.low }
  where
    low : (m : ℕ) (v : ℤ) → v ⩽ pos m → neg_ℤ (pos m) ⩽ neg_ℤ v
    low m v = simp ints (omega arith)

    high : (m : ℕ) (v : ℤ) → neg_ℤ (pos m) ⩽ v → neg_ℤ v ⩽ pos m
    high m v = simp ints (omega arith)

-- ---- a number is a distance
some_short : (m : ℕ) (v : ℤ) → Within m v → Short m (some v)
some_short m v h z e = let q : v ≡ z = (cc) in rw (q) at h

value_back : (v : ℤ) → Within max_model v → distance_of v ≡ some v
value_back v h = read_back (some v) (short_more (omega arith) (some_short max_model v h))

pub value_short : (v : ℤ) → Within max_model v → Short max_tight (distance_of v)
value_short v h = rw (value_back v h) (short_more (omega arith) (some_short max_model v h))

-- ---- a distance and a value
module _ (d : Distance) (short : Short max_distance d) where
  pub with_value_short : (v : ℤ) → Within max_model v → Short (max_distance + max_model) (d ⊞ some v)
  with_value_short v h = sum_short _ _ max_distance max_model short (some_short max_model v h)

  -- as it was read
  module _ (z : ℤ) (e : z ≡ stored d) where
    back : distance_of z ≡ d
    back = ap distance_of e ∙ read_back d (short_more (omega arith) short)

    pub entry_short : Short max_tight (distance_of z)
    entry_short = rw back (short_more (omega arith) short)

    pub sum_back : (v : ℤ) → Within max_model v → stored (distance_of z ⊞ distance_of v) ≡ stored (d ⊞ some v)
    sum_back v h = ap₂ (λ (a b : Distance). stored (a ⊞ b)) back (value_back v h)

module _ (n : ℕ) (D : Table) (ok : (u v : ℕ) → u < 2 * n → v < 2 * n → Short max_distance (D u v)) where
  -- ---- one variable more
  module _ (p x : ℕ) (hp : p < 2 * n) (hx : x < n) (v : ℤ) (h : Within max_model v) where
    part_short : (q : ℕ) (w : ℤ) → q < 2 * n → Within max_model w → Short (max_distance + max_model) (D p q ⊞ some w)
    part_short q w hq hw = with_value_short (D p q) (ok p q hp hq) w hw

    by_short : Short (max_distance + max_model) (by_value D p x v)
    by_short = min_short _ _ (max_distance + max_model) (part_short (point x 0) v (omega arith) h) (part_short (point x 1) (neg_ℤ v) (omega arith) (minus_within max_model v h))

    pub step_back : (a b s : ℤ) → a ≡ stored (D p (point x 0) ⊞ some v) → b ≡ stored (D p (point x 1) ⊞ some (neg_ℤ v)) → s ≡ stored (min_d (distance_of a) (distance_of b))
        → distance_of s ≡ by_value D p x v
    step_back a b s ea eb es =
        let i : distance_of a ≡ D p (point x 0) ⊞ some v = ap distance_of ea ∙ read_back _ (short_more (omega arith) (part_short (point x 0) v (omega arith) h)) in
        let j : distance_of b ≡ D p (point x 1) ⊞ some (neg_ℤ v) =
        ap distance_of eb ∙ read_back _ (short_more (omega arith) (part_short (point x 1) (neg_ℤ v) (omega arith) (minus_within max_model v h))) in
        ap distance_of (es ∙ ap₂ (λ (c d : Distance). stored (min_d c d)) i j) ∙ read_back _ (short_more (omega arith) by_short)

  -- ---- the loop
  module _ (values : List ℤ) (few : length values ≤ n) (small : (k : ℕ) → k < length values → Within max_model (number values k)) (p : ℕ) (hp : p < 2 * n) where
    pub limit_short : (x : ℕ) → x ≤ length values → Short (max_distance + max_model) (limit_of D values x p)
    unfolding limit halves
    limit_short zero h = short_more (omega arith) (half_short _ max_distance (ok p (opposite p) hp (opposite_below n p hp)))
    limit_short (suc x) h =
        min_short _ _ (max_distance + max_model) (limit_short x (omega arith)) (by_short p x hp (omega arith) (number values x) (small x h))

    pub limit_back : (x : ℕ) → x ≤ length values → (z : ℤ) → z ≡ stored (limit_of D values x p) → distance_of z ≡ limit_of D values x p
    limit_back x h z e = ap distance_of e ∙ read_back _ (short_more (omega arith) (limit_short x h))

    pub limit_more : (x : ℕ) → x < length values → (z r : ℤ) → z ≡ stored (limit_of D values x p) → r ≡ stored (min_d (distance_of z) (by_value D p x (number values x)))
        → r ≡ stored (limit_of D values (x + 1) p)
    unfolding limit
    limit_more x h z r e f =
        f ∙ ap (λ (d : Distance). stored (min_d d (by_value D p x (number values x)))) (limit_back x (omega arith) z e)
        ∙ ap (λ (k : ℕ). stored (limit_of D values k p)) (sym (add-one x))

pub limit_start : (D : Table) (values : List ℤ) (p : ℕ) → limit_of D values 0 p ≡ halves D p
unfolding limit
limit_start D values p = refl
