-- Numbers that stand for distances: read back, and the smaller of two, their sum and their half as calls give them, each with how large it gets.
use Rattle.std.specs.Prelude.{◌≡◌, refl, Bool, true, false, not, ℕ, ◌+◌, ◌^◌, ◌<◌, ◌≤◌, ℤ, pos}
use Rattle.std.proofs.Common.{sym, ap, ap₂, ◌∙◌, arith}
use Rattle.std.specs.Int.Signed.{le_z, lt_z, mag}
use Rattle.std.specs.Int.{w64}
use mir.Val.{hbits, to_z, of_z}
use Rattle.integers.specs.Integer.{Within}
use Rattle.integers.proofs.Linear.{ints}
use Rattle.integers.proofs.Bits.{kept}
use Rattle.theory_walks.specs.Distance.{Distance, none, some, min_d, ◌⊕◌, ◌⊞◌, half_d}
use Rattle.theory_walks.specs.Negative.{not_below0}
use Rattle.theory_bounds.specs.Answers.{not_above0}
use Rattle.decide_rows.specs.Stored.{stored}
use Rattle.decide_rows.specs.Read.{distance_of, Short, short_more, stored_of}
use Rattle.decide_stored_table.specs.Sum.{max_tight, read_back, min_short, sum_short, half_short}

-- z stands for d, which lies within plus and minus m where it is a number
pub record Stands (m : ℕ) (d : Distance) (z : ℤ) : Type 0 where
  pub is : z ≡ stored d
  pub short : Short m d

-- so that two of them have a sum
abbrev pub Small : ℕ → Type 0
Small m = m ≤ max_tight

-- ---- one of them
module _ {m : ℕ} {d : Distance} {z : ℤ} where
  pub back : Small m → Stands m d z → distance_of z ≡ d
  back h s = ap distance_of s.is ∙ read_back d (short_more (omega (arith, h)) s.short)

  pub back_short : Small m → Stands m d z → Short max_tight (distance_of z)
  back_short h s = rw (back h s) (short_more h s.short)

  pub stands_more : {n : ℕ} → m ≤ n → Stands m d z → Stands n d z
  stands_more h s = record { is = s.is; short = short_more h s.short }

  -- no walk is stored as a number above 0, so that the number alone is tested
  pub not_below : Stands m d z → le_z (pos 0) z ≡ not_below0 d
  not_below s = ap (le_z (pos 0)) s.is ∙ same d
    where
      same : (d : Distance) → le_z (pos 0) (stored d) ≡ not_below0 d
      same none = refl
      same (some y) = refl

  pub is_above : Stands m d z → lt_z (pos 0) z ≡ not (not_above0 d)
  is_above s = ap (lt_z (pos 0)) s.is ∙ same d
    where
      yes_le : (y : ℤ) → le_z y (pos 0) ≡ true → lt_z (pos 0) y ≡ false
      yes_le y = simp ints (omega arith)

      no_le : (y : ℤ) → le_z y (pos 0) ≡ false → lt_z (pos 0) y ≡ true
      no_le y = simp ints (omega arith)

      turned : (y : ℤ) (t : Bool) → le_z y (pos 0) ≡ t → lt_z (pos 0) y ≡ not t
      turned y true e = yes_le y e
      turned y false e = no_le y e

      same : (d : Distance) → lt_z (pos 0) (stored d) ≡ not (not_above0 d)
      same none = refl
      same (some y) = turned y (le_z y (pos 0)) refl

-- a number that is given
pub stands_given : (m : ℕ) (z : ℤ) → Short m (distance_of z) → Stands m (distance_of z) z
stands_given m z h = record { is = sym (stored_of z); short = h }

pub stands_number : (m : ℕ) (z : ℤ) → Within m z → Stands m (some z) z
stands_number m z h = record { is = refl; short = λ y e. let q : z ≡ y = (cc) in rw (q) at h }

-- a number added is a weight added
pub add_number : (d : Distance) (v : ℤ) → d ⊞ some v ≡ d ⊕ v
add_number none v = refl
add_number (some z) v = refl

-- two of them have a sum
module _ {m k : ℕ} {a b : Distance} {x y : ℤ} (hm : Small m) (hk : Small k) (sa : Stands m a x) (sb : Stands k b y) where
  pub sum_ready : Short max_tight (distance_of x) × Short max_tight (distance_of y)
  sum_ready = (back_short hm sa, back_short hk sb)

-- ---- what a call gives
module _ (r : ℤ) (ok : mag r < 2 ^ hbits w64) where
  pub stands_result : {m : ℕ} {d : Distance} → r ≡ stored d → Short m d → Stands m d (to_z w64 (of_z w64 r))
  stands_result e h = record { is = kept w64 r ok ∙ e; short = h }

  pub stands_half : {m : ℕ} {d : Distance} {z : ℤ} → Small m → Stands m d z → r ≡ stored (half_d (distance_of z)) → Stands m (half_d d) (to_z w64 (of_z w64 r))
  stands_half {m} {d} h s e = stands_result (e ∙ ap (λ (x : Distance). stored (half_d x)) (back h s)) (half_short d m s.short)

  module _ {m k : ℕ} {a b : Distance} {x y : ℤ} where
    pub stands_sum : Small m → Small k → Stands m a x → Stands k b y → r ≡ stored (distance_of x ⊞ distance_of y) → Stands (m + k) (a ⊞ b) (to_z w64 (of_z w64 r))
    stands_sum hm hk sa sb e =
        stands_result (e ∙ ap₂ (λ (c d : Distance). stored (c ⊞ d)) (back hm sa) (back hk sb)) (sum_short a b m k sa.short sb.short)

  module _ {m : ℕ} {a b : Distance} {x y : ℤ} where
    pub stands_min : Small m → Stands m a x → Stands m b y → r ≡ stored (min_d (distance_of x) (distance_of y)) → Stands m (min_d a b) (to_z w64 (of_z w64 r))
    stands_min h sa sb e =
        stands_result (e ∙ ap₂ (λ (c d : Distance). stored (min_d c d)) (back h sa) (back h sb)) (min_short a b m sa.short sb.short)
