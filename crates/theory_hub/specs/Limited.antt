-- No solution passes the limits: what the weights leave the hub by way of another variable, and each other variable by way of the hub. The values of a
-- variable's two points sum to 0, and so do the hub's; adding up what the weights say of both leaves the limit.
use Rattle.std.specs.Prelude.{◌≡◌, ℤ, pos, neg_ℤ, ◌+ℤ◌, ◌-ℤ◌}
use Rattle.std.proofs.Common.{sym, arith, le-ltb}
use Rattle.std.proofs.Math.Path.{subst}
use Prim.Native.Nat.{ℕ, zero, suc, ◌+◌, ◌*◌, ◌≤◌, ◌<◌}
use Rattle.integers.specs.Integer.{◌⩽◌}
use Rattle.integers.proofs.Linear.{ints}
use Rattle.lines.specs.Line.{Assignment}
use Rattle.steps.specs.Point.{opposite, value, value_opposite}
use Rattle.theory_walks.specs.Distance.{Distance, Below, min_d, ◌⊕◌, ◌⊞◌, half_d, up_plus_e, half_double}
use Rattle.theory_bounds.specs.Points.{opposite_below}
use Rattle.theory_hub.specs.Hub.{hub_points, Weights, own, leaves, hub_limit_lem, others, reach, greatest_at_lem}
use Rattle.theory_hub.specs.Laws.{below_min, min_below_l, min_below_r, plus_below, value_0, value_1, opposite_other}
use Rattle.theory_hub.specs.Room.{limit_all}
use Rattle.theory_hub.specs.Seated.{Seated}

-- ---- sums of limits
-- a number at most a, and its opposite at most b and m: the opposite of m is at most a and b
over : (a b : Distance) (x u m : ℤ) → u +ℤ m ≡ pos 0 → Below x a → Below (neg_ℤ x) (b ⊕ m) → Below u (a ⊞ b)
over a b x u m e h k z w =
    let s = up_plus_e a b z w in
    less x u m s.0 s.1 z e (h _ s.2) (plus_below (neg_ℤ x) m b k _ s.3) s.4
  where
    less : (x u m a b z : ℤ) → u +ℤ m ≡ pos 0 → x ⩽ a → neg_ℤ x -ℤ m ⩽ b → a +ℤ b ⩽ z → u ⩽ z
    less x u m a b z = simp ints (omega arith)

-- both of them with m
over_both : (a b : Distance) (x u m : ℤ) → u +ℤ m ≡ pos 0 → Below x (a ⊕ m) → Below (neg_ℤ x) (b ⊕ m) → Below u (half_d (a ⊞ b))
over_both a b x u m e h k z w =
    let s = up_plus_e a b _ (half_double w) in
    less x u m s.0 s.1 z e (plus_below x m a h _ s.2) (plus_below (neg_ℤ x) m b k _ s.3) s.4
  where
    less : (x u m a b z : ℤ) → u +ℤ m ≡ pos 0 → x -ℤ m ⩽ a → neg_ℤ x -ℤ m ⩽ b → a +ℤ b ⩽ z +ℤ z +ℤ pos 1 → u ⩽ z
    less x u m a b z = simp ints (omega arith)

-- a number at most a and u, where u is at most b
through : (a b : Distance) (x u : ℤ) → Below x (a ⊕ u) → Below u b → Below x (a ⊞ b)
through a b x u h k z w =
    let s = up_plus_e a b z w in
    less x u s.0 s.1 z (plus_below x u a h _ s.2) (k _ s.3) s.4
  where
    less : (x u a b z : ℤ) → x -ℤ u ⩽ a → u ⩽ b → a +ℤ b ⩽ z → x ⩽ z
    less x u a b z = simp ints (omega arith)

-- a number at most a and u, and at most b less u
between : (a b : Distance) (x u m : ℤ) → u +ℤ m ≡ pos 0 → Below x (a ⊕ u) → Below x (b ⊕ m) → Below x (half_d (a ⊞ b))
between a b x u m e h k z w =
    let s = up_plus_e a b _ (half_double w) in
    less x u m s.0 s.1 z e (plus_below x u a h _ s.2) (plus_below x m b k _ s.3) s.4
  where
    less : (x u m a b z : ℤ) → u +ℤ m ≡ pos 0 → x -ℤ u ⩽ a → x -ℤ m ⩽ b → a +ℤ b ⩽ z +ℤ z +ℤ pos 1 → x ⩽ z
    less x u m a b z = simp ints (omega arith)

opposed : (v : ℤ) → v +ℤ neg_ℤ v ≡ pos 0
opposed v = simp ints (omega arith)

opposed' : (v : ℤ) → neg_ℤ v +ℤ v ≡ pos 0
opposed' v = simp ints (omega arith)

-- ---- an assignment that leaves each point what the weights leave it
module _ (n : ℕ) (W : Weights) (s : Assignment) (seat : Seated n W s) where
  abbrev v : ℤ
  v = s 0

  -- the three limits of another point
  module _ (p : ℕ) (h : hub_points ≤ p) (l : p < 2 * n) where
    by_own : Below (value s p) (own W p)
    by_own = min_below_l (value s p) (own W p) (min_d (W 0 p ⊕ v) (W 1 p ⊕ neg_ℤ v)) (seat.other p h l)

    by_both : Below (value s p) (min_d (W 0 p ⊕ v) (W 1 p ⊕ neg_ℤ v))
    by_both = min_below_r (value s p) (own W p) (min_d (W 0 p ⊕ v) (W 1 p ⊕ neg_ℤ v)) (seat.other p h l)

    by_plus : Below (value s p) (W 0 p ⊕ v)
    by_plus = min_below_l (value s p) (W 0 p ⊕ v) (W 1 p ⊕ neg_ℤ v) by_both

    by_minus : Below (value s p) (W 1 p ⊕ neg_ℤ v)
    by_minus = min_below_r (value s p) (W 0 p ⊕ v) (W 1 p ⊕ neg_ℤ v) by_both

  module _ (p : ℕ) (h : hub_points ≤ p) (l : p < 2 * n) where
    abbrev q : ℕ
    q = opposite p

    -- those of its opposite, of the value turned round
    turned : {d : Distance} → Below (value s q) d → Below (neg_ℤ (value s p)) d
    turned {d} = subst (λ (x : ℤ). Below x d) (value_opposite s p)

    leaves_plus : Below v (leaves W 0 p)
    unfolding opposite
    leaves_plus =
        let k = turned (by_minus q (opposite_other p h) (opposite_below n p l)) in
        below_min v (own W p ⊞ W 1 q) (half_d (W 1 p ⊞ W 1 q)) (over (own W p) (W 1 q) (value s p) v (neg_ℤ v) (opposed v) (by_own p h l) k)
        (over_both (W 1 p) (W 1 q) (value s p) v (neg_ℤ v) (opposed v) (by_minus p h l) k)

    leaves_minus : Below (neg_ℤ v) (leaves W 1 p)
    unfolding opposite
    leaves_minus =
        let k = turned (by_plus q (opposite_other p h) (opposite_below n p l)) in
        below_min (neg_ℤ v) (own W p ⊞ W 0 q) (half_d (W 0 p ⊞ W 0 q)) (over (own W p) (W 0 q) (value s p) (neg_ℤ v) v (opposed' v) (by_own p h l) k)
        (over_both (W 0 p) (W 0 q) (value s p) (neg_ℤ v) v (opposed' v) (by_plus p h l) k)

  pub hub_plus : Below v (hub_limit_lem n W 0)
  hub_plus = limit_all W 0 v seat.plus (others n) (λ j l. leaves_plus (hub_points + j) (omega arith) (omega arith))

  pub hub_minus : Below (neg_ℤ v) (hub_limit_lem n W 1)
  hub_minus = limit_all W 1 (neg_ℤ v) seat.minus (others n) (λ j l. leaves_minus (hub_points + j) (omega arith) (omega arith))

  pub reach_limits : (p : ℕ) → hub_points ≤ p → p < 2 * n → Below (value s p) (reach W (hub_limit_lem n W 0) (hub_limit_lem n W 1) p)
  reach_limits p h l =
      below_min (value s p) (own W p) _ (by_own p h l)
      (below_min (value s p) (W 0 p ⊞ hub_limit_lem n W 0) _ (through (W 0 p) (hub_limit_lem n W 0) (value s p) v (by_plus p h l) hub_plus)
      (below_min (value s p) (W 1 p ⊞ hub_limit_lem n W 1) (half_d (W 0 p ⊞ W 1 p)) (through (W 1 p) (hub_limit_lem n W 1) (value s p) (neg_ℤ v) (by_minus p h l) hub_minus)
      (between (W 0 p) (W 1 p) (value s p) v (neg_ℤ v) (opposed v) (by_plus p h l) (by_minus p h l))))

  -- so no point passes its greatest value
  pub greatest_limits : (p : ℕ) → p < 2 * n → Below (value s p) (greatest_at_lem n W p)
  unfolding greatest_at_lem
  greatest_limits zero l = subst (λ (x : ℤ). Below x (hub_limit_lem n W 0)) (sym (value_0 s)) hub_plus
  greatest_limits (suc zero) l = subst (λ (x : ℤ). Below x (hub_limit_lem n W 1)) (sym (value_1 s)) hub_minus
  greatest_limits (suc (suc p)) l = rw (le-ltb (suc (suc p)) hub_points (omega arith)) (reach_limits (suc (suc p)) (omega arith) l)
