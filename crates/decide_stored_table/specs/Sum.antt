-- Stored distances one at a time: read back, the smaller of two, their sum and their half.
use Rattle.std.specs.Prelude.{◌≡◌, refl, ◌⊎◌, Bool, true, false, cond, ℕ, ◌+◌, ◌*◌, ℤ, pos, neg_ℤ, ◌+ℤ◌, ◌-ℤ◌}
use Rattle.std.proofs.Common.{sym, ap, ap₂, ◌∙◌, inl, inr, arith, SFits}
use Rattle.std.specs.Int.Signed.{lt_z}
use Rattle.std.specs.Int.{w64}
use Rattle.integers.specs.Integer.{◌⩽◌, half, min_z, eq_z, Within}
use Rattle.integers.proofs.Linear.{ints, zs, given}
use Rattle.integers.specs.Laws.{never, eq_z_true}
use Rattle.theory_walks.specs.Distance.{Distance, none, some, min_d, ◌⊞◌, half_d, min_one_z}
use Rattle.theory_walks.specs.Size.{within_sum}
use Rattle.decide_rows.specs.Stored.{stored}
use Rattle.decide_rows.specs.Read.{no_walk_lem, distance_of, Short, max_distance, of_none, of_some, short_more}

-- two distances together, or the two halves of a tightened one
abbrev pub max_tight : ℕ
max_tight = 2 * max_distance

-- the sum of two such: still far below the number that stands for no walk
abbrev pub max_sum : ℕ
max_sum = 2 * max_tight

-- ---- read back
not_no_walk : (z : ℤ) → Within max_sum z → z ≡ no_walk_lem → ⊥
not_no_walk z w = given w.high (high z)
  where
    high : (z : ℤ) → z ⩽ pos max_sum → z ≡ no_walk_lem → ⊥
    high z = simp ints (omega arith)

pub read_back : (d : Distance) → Short max_sum d → distance_of (stored d) ≡ d
read_back none s = of_none no_walk_lem refl
read_back (some z) s = of_some z (not_no_walk z (s z refl))

pub short_number : (z : ℤ) (b : ℕ) → Short b (distance_of z) → (z ≡ no_walk_lem → ⊥) → Within b z
short_number z b s n = s z (of_some z n)

-- ---- the smaller of two: the number for no walk is the highest
stored_min : (a b : ℤ) → a ⩽ no_walk_lem → b ⩽ no_walk_lem → stored (min_d (distance_of a) (distance_of b)) ≡ min_z a b
unfolding distance_of
stored_min a b ha hb = go (eq_z a no_walk_lem) (eq_z b no_walk_lem) refl refl
  where
    first : (a b m : ℤ) → b ⩽ m → a ≡ m → b ≡ min_z a b
    first a b m = simp ints (omega arith)

    second : (a b m : ℤ) → a ⩽ m → b ≡ m → a ≡ min_z a b
    second a b m = simp ints (omega arith)

    go : (s t : Bool) → eq_z a no_walk_lem ≡ s → eq_z b no_walk_lem ≡ t → stored (min_d (cond s none (some a)) (cond t none (some b))) ≡ min_z a b
    go true true e f = sym (eq_z_true a no_walk_lem e) ∙ second a b no_walk_lem ha (eq_z_true b no_walk_lem f)
    go true false e f = first a b no_walk_lem hb (eq_z_true a no_walk_lem e)
    go false true e f = second a b no_walk_lem ha (eq_z_true b no_walk_lem f)
    go false false e f = refl

fits_below : (z : ℤ) → SFits w64 z → z ⩽ no_walk_lem
fits_below z = simp ints (omega arith)

pub smaller_second : (a b : ℤ) → SFits w64 a → SFits w64 b → lt_z b a ≡ true → b ≡ stored (min_d (distance_of a) (distance_of b))
smaller_second a b fa fb e = second a b e ∙ sym (stored_min a b (fits_below a fa) (fits_below b fb))
  where
    second : (a b : ℤ) → lt_z b a ≡ true → b ≡ min_z a b
    second a b = simp ints (omega arith)

pub smaller_first : (a b : ℤ) → SFits w64 a → SFits w64 b → lt_z b a ≡ false → a ≡ stored (min_d (distance_of a) (distance_of b))
smaller_first a b fa fb e = first a b e ∙ sym (stored_min a b (fits_below a fa) (fits_below b fb))
  where
    first : (a b : ℤ) → lt_z b a ≡ false → a ≡ min_z a b
    first a b = simp ints (omega arith)

pub min_short : (a b : Distance) (m : ℕ) → Short m a → Short m b → Short m (min_d a b)
min_short none b m s t = t
min_short (some a) none m s t = s
min_short (some a) (some b) m s t = go (min_one_z a b)
  where
    go : (min_z a b ≡ a) ⊎ (min_z a b ≡ b) → Short m (some (min_z a b))
    go (inl q) = λ z e. s z (ap some (sym q) ∙ e)
    go (inr q) = λ z e. t z (ap some (sym q) ∙ e)

-- ---- sums
pub sum_none_left : (a b : ℤ) → a ≡ no_walk_lem → no_walk_lem ≡ stored (distance_of a ⊞ distance_of b)
sum_none_left a b e = ap (λ (d : Distance). stored (d ⊞ distance_of b)) (sym (of_none a e))

pub sum_none_right : (a b : ℤ) → b ≡ no_walk_lem → no_walk_lem ≡ stored (distance_of a ⊞ distance_of b)
sum_none_right a b e = sym (ap (λ (d : Distance). stored (distance_of a ⊞ d)) (of_none b e) ∙ ap stored (nothing (distance_of a)))
  where
    nothing : (d : Distance) → d ⊞ none ≡ none
    nothing none = refl
    nothing (some z) = refl

pub sum_some : (a b : ℤ) → (a ≡ no_walk_lem → ⊥) → (b ≡ no_walk_lem → ⊥) → a +ℤ b ≡ stored (distance_of a ⊞ distance_of b)
sum_some a b m n = sym (ap₂ (λ (d e : Distance). stored (d ⊞ e)) (of_some a m) (of_some b n))

pub sum_short : (a b : Distance) (m n : ℕ) → Short m a → Short n b → Short (m + n) (a ⊞ b)
sum_short none b m n s t z e = never (cc)
sum_short (some a) none m n s t z e = never (cc)
sum_short (some a) (some b) m n s t z e = let q : a +ℤ b ≡ z = (cc) in rw (q) at (within_sum (s a refl) (t b refl))

pub sum_fits : (a b : ℤ) → Within max_tight a → Within max_tight b → SFits w64 (a +ℤ b)
sum_fits a b h k = simp ints (omega zs)

-- two halves, their sum as it was stored, and the smaller of it and a distance
pub tightened_is : (d x y s : ℤ) → Short max_distance (distance_of x) → Short max_distance (distance_of y) → s ≡ stored (distance_of x ⊞ distance_of y)
    → stored (min_d (distance_of d) (distance_of s)) ≡ stored (min_d (distance_of d) (distance_of x ⊞ distance_of y))
tightened_is d x y s hx hy e =
    ap (λ (a : Distance). stored (min_d (distance_of d) a)) (ap distance_of e ∙ read_back _ (short_more (omega arith) (sum_short _ _ max_distance max_distance hx hy)))

-- ---- a number negated, as the code computes it
pub minus_is : (z : ℤ) → pos 0 -ℤ z ≡ neg_ℤ z
minus_is z = simp ints (omega arith)

-- ---- halves
pub half_none : (z : ℤ) → z ≡ no_walk_lem → no_walk_lem ≡ stored (half_d (distance_of z))
half_none z e = ap (λ (d : Distance). stored (half_d d)) (sym (of_none z e))

pub half_some : (z : ℤ) → (z ≡ no_walk_lem → ⊥) → half z ≡ stored (half_d (distance_of z))
half_some z n = ap (λ (d : Distance). stored (half_d d)) (sym (of_some z n))

pub half_short : (d : Distance) (m : ℕ) → Short m d → Short m (half_d d)
half_short none m s z e = never (cc)
half_short (some a) m s z e = let q : half a ≡ z = (cc) in rw (q) at (within a m (s a refl))
  where
    low : (a : ℤ) (m : ℕ) → neg_ℤ (pos m) ⩽ a → neg_ℤ (pos m) ⩽ half a
    low a m = simp ints (omega arith)

    high : (a : ℤ) (m : ℕ) → a ⩽ pos m → half a ⩽ pos m
    high a m = simp ints (omega arith)

    within : (a : ℤ) (m : ℕ) → Within m a → Within m (half a)
    within a m w = record { low = low a m w.low; high = high a m w.high }
