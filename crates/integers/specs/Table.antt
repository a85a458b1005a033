-- A rule of a table, proved at every index by one computed test of all numbers below the table's size.
use Rattle.std.specs.Prelude.{◌≡◌, refl, Bool, true, ◌&&◌, ℕ, zero, suc, ◌<◌}
use Rattle.std.proofs.Common.{arith}
use Rattle.std.proofs.Math.Decide.{dec_lt}
use Rattle.integers.specs.Laws.{and_true, both_true}

abbrev pub all_below : ℕ → (ℕ → Bool) → Bool
all_below zero f = true
all_below (suc n) f = f n && all_below n f

pub below_at : (n : ℕ) (f : ℕ → Bool) → all_below n f ≡ true → (i : ℕ) → i < n → f i ≡ true
below_at zero f t i h = absurd (omega arith)
below_at (suc n) f t i h = go (dec_lt i n) (below_at n f (and_true (f n) (all_below n f) t).1 i)
  where
    go : Dec (i < n) → (i < n → f i ≡ true) → f i ≡ true
    go (yes k) less = less k
    go (no k) less = let e : i ≡ n = omega arith in rw e (and_true (f n) (all_below n f) t).0

pub below_all : (n : ℕ) (f : ℕ → Bool) → ((i : ℕ) → i < n → f i ≡ true) → all_below n f ≡ true
below_all zero f h = refl
below_all (suc n) f h = both_true (f n) (all_below n f) (h n (omega arith)) (below_all n f (λ i l. h i (omega arith)))
