-- Whole numbers between two distances, where u bounds v from above (v ≤ u) and l from below (-v ≤ l): the one nearest zero, one that is not
-- below a given number, and one below every one of some distances.
use Rattle.std.specs.Prelude.{◌≡◌, ℕ, ◌+◌, ◌≤◌, ℤ, pos, negsuc, neg_ℤ, nat_abs, ◌+ℤ◌}
use Rattle.std.proofs.Common.{arith}
use Rattle.integers.specs.Integer.{◌⩽◌, min_z, max_z, nearest_zero}
use Rattle.integers.proofs.Linear.{ints}
use Rattle.integers.proofs.Halving.{nearest_least}
use Rattle.theory_walks.specs.Distance.{Distance, none, some, Up, Below, le_refl, up_at, not_none, some_below}

-- the greater of z and the lower end
unfoldable pub above : Distance → ℤ → ℤ
above none z = z
above (some l) z = max_z (neg_ℤ l) z

-- the smaller of z and the upper end
unfoldable pub at_most : Distance → ℤ → ℤ
at_most none z = z
at_most (some u) z = min_z u z

-- the number nearest zero: `nearest_zero` where there are both ends
unfoldable pub near : Distance → Distance → ℤ
near u l = above l (at_most u (pos 0))

-- the lower end is not above the upper
abbrev pub Gap : Distance → Distance → Type 0
Gap u l = (a b : ℤ) → Up u a → Up l b → pos 0 ⩽ a +ℤ b

pub above_given : (l : Distance) (z : ℤ) → z ⩽ above l z
unfolding above
above_given none z = le_refl z
above_given (some l) z = right (neg_ℤ l) z
  where
    right : (a b : ℤ) → b ⩽ max_z a b
    right a b = simp ints (omega arith)

pub above_low : (l : Distance) (z : ℤ) → Below (neg_ℤ (above l z)) l
unfolding above
above_low none z = λ y u. not_none u
above_low (some l) z = some_below (left l z)
  where
    left : (l z : ℤ) → neg_ℤ (max_z (neg_ℤ l) z) ⩽ l
    left l z = simp ints (omega arith)

pub above_high : (u l : Distance) (z : ℤ) → Gap u l → Below z u → Below (above l z) u
unfolding above
above_high u none z g b = b
above_high u (some l) z g b = λ a w. both l z a (b a w) (g a l w (up_at l))
  where
    both : (l z a : ℤ) → z ⩽ a → pos 0 ⩽ a +ℤ l → max_z (neg_ℤ l) z ⩽ a
    both l z a = simp ints (omega arith)

at_most_high : (u : Distance) (z : ℤ) → Below (at_most u z) u
unfolding at_most
at_most_high none z = λ y w. not_none w
at_most_high (some u) z = some_below (left u z)
  where
    left : (u z : ℤ) → min_z u z ⩽ u
    left u z = simp ints (omega arith)

pub near_high : (u l : Distance) → Gap u l → Below (near u l) u
unfolding near
near_high u l g = above_high u l (at_most u (pos 0)) g (at_most_high u (pos 0))

pub near_low : (u l : Distance) → Below (neg_ℤ (near u l)) l
unfolding near
near_low u l = above_low l (at_most u (pos 0))

-- no number between them is nearer zero
pub near_least : (u l : Distance) (v : ℤ) → Below v u → Below (neg_ℤ v) l → nat_abs (near u l) ≤ nat_abs v
unfolding near above at_most
near_least none none v hu hl = omega arith
near_least none (some l) v hu hl = low l v (hl l (up_at l))
  where
    low : (l v : ℤ) → neg_ℤ v ⩽ l → nat_abs (max_z (neg_ℤ l) (pos 0)) ≤ nat_abs v
    low l v = simp ints (omega arith)
near_least (some u) none v hu hl = high u v (hu u (up_at u))
  where
    high : (u v : ℤ) → v ⩽ u → nat_abs (min_z u (pos 0)) ≤ nat_abs v
    high u v = simp ints (omega arith)
near_least (some u) (some l) v hu hl = nearest_least (neg_ℤ l) u v (turn l v (hl l (up_at l))) (hu u (up_at u))
  where
    turn : (l v : ℤ) → neg_ℤ v ⩽ l → neg_ℤ l ⩽ v
    turn l v = simp ints (omega arith)

-- and no other is as near
pub near_unique : (u l : Distance) (v : ℤ) → Below v u → Below (neg_ℤ v) l → nat_abs v ≤ nat_abs (near u l) → v ≡ near u l
unfolding near above at_most
near_unique none none v hu hl = zero_only v
  where
    zero_only : (v : ℤ) → nat_abs v ≤ 0 → v ≡ pos 0
    zero_only v = simp ints (omega arith)
near_unique none (some l) v hu hl = low l v (hl l (up_at l))
  where
    low : (l v : ℤ) → neg_ℤ v ⩽ l → nat_abs v ≤ nat_abs (max_z (neg_ℤ l) (pos 0)) → v ≡ max_z (neg_ℤ l) (pos 0)
    low l v = simp ints (omega arith)
near_unique (some u) none v hu hl = high u v (hu u (up_at u))
  where
    high : (u v : ℤ) → v ⩽ u → nat_abs v ≤ nat_abs (min_z u (pos 0)) → v ≡ min_z u (pos 0)
    high u v = simp ints (omega arith)
near_unique (some u) (some l) v hu hl = both l u v (hl l (up_at l)) (hu u (up_at u))
  where
    both : (l u v : ℤ) → neg_ℤ v ⩽ l → v ⩽ u → nat_abs v ≤ nat_abs (nearest_zero (neg_ℤ l) u) → v ≡ nearest_zero (neg_ℤ l) u
    both l u v = simp ints (omega arith)

-- ---- below every one of some distances: -k - 1, where k is not less than their sizes
unfoldable pub size : Distance → ℕ
size none = 0
size (some d) = nat_abs d

pub far_below : (b : Distance) (k : ℕ) → size b ≤ k → Below (negsuc k) b
unfolding size
far_below none k l = λ z w. not_none w
far_below (some d) k l = some_below (under d k l)
  where
    under : (d : ℤ) (k : ℕ) → nat_abs d ≤ k → negsuc k ⩽ d
    under d k = simp ints (omega arith)

pub far_below_sum : (k : ℕ) (m : ℤ) → negsuc (k + nat_abs m) +ℤ m ⩽ negsuc k
far_below_sum k m = simp ints (omega arith)
