-- What the weights leave is enough: where the hub has a value within its limits, each other variable has one within its caps. Two caps of a variable's
-- points leave it a value if each of the three limits that make the one goes with each of the three that make the other: of these nine pairs, three are
-- what `sound` asks, and six are what the variable leaves the hub.
use Rattle.std.specs.Prelude.{◌≡◌, refl, true, ◌&&◌, ℤ, pos, neg_ℤ, ◌+ℤ◌, ◌-ℤ◌}
use Rattle.std.proofs.Common.{sym, ap, ◌∙◌}
use Rattle.std.proofs.Math.Path.{subst}
use Prim.Native.Nat.{ℕ, zero, suc, ◌+◌, ◌*◌, ◌-◌, ◌≤◌, ◌<◌}
use native.Mathlib.Omega.{arith}
use Rattle.std.proofs.Math.Decide.{ℕ_discrete}
use Rattle.integers.specs.Integer.{◌⩽◌}
use Rattle.integers.proofs.Linear.{ints}
use Rattle.integers.specs.Laws.{and_true}
use Rattle.integers.specs.Table.{below_at}
use Rattle.steps.specs.Point.{opposite, opposite_twice}
use Rattle.theory_walks.specs.Distance.{Distance, Below, ◌⊑◌, min_d, ◌⊕◌, ◌⊞◌, half_d, ⊑_refl, ⊑_trans, min_left, min_right, up_plus}
use Rattle.theory_walks.specs.Negative.{not_below0}
use Rattle.theory_bounds.specs.Near.{Gap}
use Rattle.theory_bounds.specs.Points.{opposite_below}
use Rattle.theory_hub.specs.Laws.{below_mono, below_min, half_below, gap_turn, gap_min, gap_sum, up_weight, opposite_other}
use Rattle.theory_hub.specs.Hub.{hub_points, Weights, own, cap, leaves, limit_by_lem, others, hub_limit_lem, sound, all_sound_lem}

-- ---- one pair: u is at most what the first two leave, and m is its opposite
module _ (u m : ℤ) (opposed : u +ℤ m ≡ pos 0) where
  gap_own : (a b : Distance) → Below u (a ⊞ b) → Gap a (b ⊕ m)
  gap_own a b h x y i j =
      let k = up_weight b m y j in
      less u m x k.0 y opposed (h _ (up_plus i k.1)) k.2
    where
      less : (u m x b y : ℤ) → u +ℤ m ≡ pos 0 → u ⩽ x +ℤ b → b +ℤ m ⩽ y → pos 0 ⩽ x +ℤ y
      less u m x b y = simp ints (omega arith)

  gap_both : (a b : Distance) → Below u (half_d (a ⊞ b)) → Gap (a ⊕ m) (b ⊕ m)
  gap_both a b h x y i j =
      let k = up_weight a m x i in
      let l = up_weight b m y j in
      less u m k.0 l.0 x y opposed (half_below u (a ⊞ b) h _ (up_plus k.1 l.1)) k.2 l.2
    where
      less : (u m a b x y : ℤ) → u +ℤ m ≡ pos 0 → u -ℤ neg_ℤ u ⩽ a +ℤ b → a +ℤ m ⩽ x → b +ℤ m ⩽ y → pos 0 ⩽ x +ℤ y
      less u m a b x y = simp ints (omega arith)

-- two weights against the hub's two points
gap_across : (a b : Distance) (u m : ℤ) → u +ℤ m ≡ pos 0 → Gap a b → Gap (a ⊕ u) (b ⊕ m)
gap_across a b u m e g x y i j =
    let k = up_weight a u x i in
    let l = up_weight b m y j in
    less u m k.0 l.0 x y e (g _ _ k.1 l.1) k.2 l.2
  where
    less : (u m a b x y : ℤ) → u +ℤ m ≡ pos 0 → pos 0 ⩽ a +ℤ b → a +ℤ u ⩽ x → b +ℤ m ⩽ y → pos 0 ⩽ x +ℤ y
    less u m a b x y = simp ints (omega arith)

-- ---- the hub's limits
module _ (W : Weights) (g : ℕ) where
  pub limit_own : (k : ℕ) → limit_by_lem W g k ⊑ own W g
  unfolding limit_by_lem
  limit_own zero = ⊑_refl _
  limit_own (suc k) = ⊑_trans (min_left _ _) (limit_own k)

  pub limit_leaves : (k j : ℕ) → j < k → limit_by_lem W g k ⊑ leaves W g (hub_points + j)
  unfolding limit_by_lem
  limit_leaves zero j h = absurd (omega arith)
  limit_leaves (suc k) j h = go (limit_leaves k j) (ℕ_discrete j k)
    where
      go : (j < k → limit_by_lem W g k ⊑ leaves W g (hub_points + j)) → Dec (j ≡ k) → min_d (limit_by_lem W g k) (leaves W g (hub_points + k)) ⊑ leaves W g (hub_points + j)
      go before (yes e) = subst (λ (i : ℕ). min_d (limit_by_lem W g k) (leaves W g (hub_points + k)) ⊑ leaves W g (hub_points + i)) (sym e) (min_right (limit_by_lem W g k) (leaves W g (hub_points + k)))
      go before (no e) = ⊑_trans (min_left (limit_by_lem W g k) (leaves W g (hub_points + k))) (before (omega arith))

  -- what all of them leave is left
  pub limit_all : (v : ℤ) → Below v (own W g) → (k : ℕ) → ((j : ℕ) → j < k → Below v (leaves W g (hub_points + j))) → Below v (limit_by_lem W g k)
  unfolding limit_by_lem
  limit_all v h zero f = h
  limit_all v h (suc k) f = below_min v _ _ (limit_all v h k (λ j l. f j (omega arith))) (f k (omega arith))

-- ---- the nine pairs
module _ (n : ℕ) (W : Weights) (All-sound : all_sound_lem n W ≡ true) where
  at_sound : (p : ℕ) → hub_points ≤ p → p < 2 * n → sound W p ≡ true
  unfolding all_sound_lem
  at_sound p h l =
      let e : hub_points + (p - hub_points) ≡ p = omega arith in
      subst (λ (q : ℕ). sound W q ≡ true) e (below_at (others n) (λ k. sound W (hub_points + k)) All-sound (p - hub_points) (omega arith))

  module _ (v : ℤ) (plus : Below v (hub_limit_lem n W 0)) (minus : Below (neg_ℤ v) (hub_limit_lem n W 1)) where
    left : (g : ℕ) (u : ℤ) → Below u (hub_limit_lem n W g) → (p : ℕ) → hub_points ≤ p → p < 2 * n → Below u (leaves W g p)
    left g u h p i l =
        let e : hub_points + (p - hub_points) ≡ p = omega arith in
        below_mono h (subst (λ (q : ℕ). hub_limit_lem n W g ⊑ leaves W g q) e (limit_leaves W g (others n) (p - hub_points) (omega arith)))

    opposed : (v : ℤ) → v +ℤ neg_ℤ v ≡ pos 0
    opposed v = simp ints (omega arith)

    opposed' : (v : ℤ) → neg_ℤ v +ℤ v ≡ pos 0
    opposed' v = simp ints (omega arith)

    -- the pairs of the points p and q of a variable that one of them is sound for, or leaves the hub
    module _ (p q : ℕ) (e : opposite p ≡ q) (h : hub_points ≤ p) (l : p < 2 * n) where
      both_sound : Gap (own W p) (own W q) × Gap (W 0 p) (W 1 q)
      both_sound =
          let t = and_true (not_below0 (own W p ⊞ own W q)) (not_below0 (W 0 p ⊞ W 1 q)) (subst (λ (r : ℕ). (not_below0 (own W p ⊞ own W r) && not_below0 (W 0 p ⊞ W 1 r)) ≡ true) e (at_sound p h l)) in
          (gap_sum t.0, gap_sum t.1)

      left_minus : Below (neg_ℤ v) (min_d (own W p ⊞ W 0 q) (half_d (W 0 p ⊞ W 0 q)))
      unfolding opposite
      left_minus = subst (λ (r : ℕ). Below (neg_ℤ v) (min_d (own W p ⊞ W 0 r) (half_d (W 0 p ⊞ W 0 r)))) e (left 1 (neg_ℤ v) minus p h l)

      left_plus : Below v (min_d (own W p ⊞ W 1 q) (half_d (W 1 p ⊞ W 1 q)))
      unfolding opposite
      left_plus = subst (λ (r : ℕ). Below v (min_d (own W p ⊞ W 1 r) (half_d (W 1 p ⊞ W 1 r)))) e (left 0 v plus p h l)

      own_minus : Gap (own W p) (W 0 q ⊕ v)
      own_minus = gap_own (neg_ℤ v) v (opposed' v) (own W p) (W 0 q) (below_mono left_minus (min_left (own W p ⊞ W 0 q) (half_d (W 0 p ⊞ W 0 q))))

      own_plus : Gap (own W p) (W 1 q ⊕ neg_ℤ v)
      own_plus = gap_own v (neg_ℤ v) (opposed v) (own W p) (W 1 q) (below_mono left_plus (min_left (own W p ⊞ W 1 q) (half_d (W 1 p ⊞ W 1 q))))

      both_minus : Gap (W 0 p ⊕ v) (W 0 q ⊕ v)
      both_minus = gap_both (neg_ℤ v) v (opposed' v) (W 0 p) (W 0 q) (below_mono left_minus (min_right (own W p ⊞ W 0 q) (half_d (W 0 p ⊞ W 0 q))))

      both_plus : Gap (W 1 p ⊕ neg_ℤ v) (W 1 q ⊕ neg_ℤ v)
      both_plus = gap_both v (neg_ℤ v) (opposed v) (W 1 p) (W 1 q) (below_mono left_plus (min_right (own W p ⊞ W 1 q) (half_d (W 1 p ⊞ W 1 q))))

      across : Gap (W 0 p ⊕ v) (W 1 q ⊕ neg_ℤ v)
      across = gap_across (W 0 p) (W 1 q) v (neg_ℤ v) (opposed v) both_sound.1

    pub roomy : (p : ℕ) → hub_points ≤ p → p < 2 * n → Gap (cap W v p) (cap W v (opposite p))
    roomy p h l = go (opposite p) refl (opposite_twice p) (opposite_other p h) (opposite_below n p l)
      where
        go : (q : ℕ) → opposite p ≡ q → opposite (opposite p) ≡ p → hub_points ≤ opposite p → opposite p < 2 * n → Gap (cap W v p) (cap W v q)
        go q e f k m =
            let b : opposite q ≡ p = ap opposite (sym e) ∙ f in
            let k' : hub_points ≤ q = subst (λ (r : ℕ). hub_points ≤ r) e k in
            let m' : q < 2 * n = subst (λ (r : ℕ). r < 2 * n) e m in
            gap_min
            (gap_turn (gap_min (gap_turn (both_sound p q e h l).0) (gap_min (gap_turn (own_minus p q e h l)) (gap_turn (own_plus p q e h l)))))
            (gap_min
            (gap_turn (gap_min (own_minus q p b k' m') (gap_min (gap_turn (both_minus p q e h l)) (gap_turn (across p q e h l)))))
            (gap_turn (gap_min (own_plus q p b k' m') (gap_min (across q p b k' m') (gap_turn (both_plus p q e h l))))))
