-- Laws that the files on one hub share: numbers at most a distance, gaps between two distances, and the hub's points.
use Rattle.std.specs.Prelude.{◌≡◌, ◌⊎◌, true, ℕ, zero, suc, ◌≤◌, ◌<◌, ℤ, pos, neg_ℤ, ◌+ℤ◌, ◌-ℤ◌}
use Rattle.std.proofs.Common.{inl, inr, ⊎_elim, arith}
use Rattle.integers.specs.Integer.{◌⩽◌, half}
use Rattle.integers.proofs.Linear.{ints}
use Rattle.lines.specs.Line.{Assignment}
use Rattle.steps.specs.Point.{opposite, value}
use Rattle.steps.proofs.PointLaws.{value_plus, value_minus}
use Rattle.theory_walks.specs.Distance.{Distance, none, some, Up, Below, ◌⊑◌, min_d, ◌⊕◌, ◌⊞◌, half_d, up_le, up_at, up_plus, up_of_le, up_min_e, up_min_l, up_min_r, not_none, half_double}
use Rattle.theory_walks.specs.Negative.{not_below0, is_not_below}
use Rattle.theory_bounds.specs.Near.{Gap}
use Rattle.theory_hub.specs.Hub.{hub_points}

-- ---- below a distance
pub below_mono : {v : ℤ} {a b : Distance} → Below v a → a ⊑ b → Below v b
below_mono h l z u = h z (up_of_le l z u)

-- the smaller of two
pub below_min : (v : ℤ) (a b : Distance) → Below v a → Below v b → Below v (min_d a b)
below_min v a b h k z u = ⊎_elim (λ i. h z i) (λ i. k z i) (up_min_e a b z u)

pub min_below_l : (v : ℤ) (a b : Distance) → Below v (min_d a b) → Below v a
min_below_l v a b h z u = h z (up_min_l b u)

pub min_below_r : (v : ℤ) (a b : Distance) → Below v (min_d a b) → Below v b
min_below_r v a b h z u = h z (up_min_r a u)

-- half a limit
pub below_half : (v : ℤ) (a : Distance) → Below (v -ℤ neg_ℤ v) a → Below v (half_d a)
below_half v a h z u = twice v z (h _ (half_double u))
  where
    twice : (v z : ℤ) → v -ℤ neg_ℤ v ⩽ z +ℤ z +ℤ pos 1 → v ⩽ z
    twice v z = simp ints (omega arith)

pub half_below : (v : ℤ) (a : Distance) → Below v (half_d a) → Below (v -ℤ neg_ℤ v) a
half_below v none h z u = not_none u
half_below v (some d) h z u = twice v d z (h _ (up_at _)) (up_le u)
  where
    twice : (v d z : ℤ) → v ⩽ half d → d ⩽ z → v -ℤ neg_ℤ v ⩽ z
    twice v d z = simp ints (omega arith)

-- a limit and a number
pub below_plus : (v w : ℤ) (a : Distance) → Below (v -ℤ w) a → Below v (a ⊕ w)
below_plus v w none h z u = not_none u
below_plus v w (some d) h z u = move v w d z (h d (up_at d)) (up_le u)
  where
    move : (v w d z : ℤ) → v -ℤ w ⩽ d → d +ℤ w ⩽ z → v ⩽ z
    move v w d z = simp ints (omega arith)

pub plus_below : (v w : ℤ) (a : Distance) → Below v (a ⊕ w) → Below (v -ℤ w) a
plus_below v w none h z u = not_none u
plus_below v w (some d) h z u = move v w d z (h _ (up_at _)) (up_le u)
  where
    move : (v w d z : ℤ) → v ⩽ d +ℤ w → d ⩽ z → v -ℤ w ⩽ z
    move v w d z = simp ints (omega arith)

-- ---- a gap between two distances
pub gap_turn : {a b : Distance} → Gap a b → Gap b a
gap_turn g x y u v = turn x y (g y x v u)
  where
    turn : (x y : ℤ) → pos 0 ⩽ y +ℤ x → pos 0 ⩽ x +ℤ y
    turn x y = simp ints (omega arith)

pub gap_min : {a b c : Distance} → Gap a c → Gap b c → Gap (min_d a b) c
gap_min {a} {b} g h x y u v = ⊎_elim (λ i. g x y i v) (λ i. h x y i v) (up_min_e a b x u)

pub gap_sum : {a b : Distance} → not_below0 (a ⊞ b) ≡ true → Gap a b
gap_sum {a} {b} e x y u v = up_le (up_of_le (is_not_below (a ⊞ b) e) _ (up_plus u v))

-- a number at most a leaves a gap between its opposite and a
pub gap_below : {a : Distance} (v : ℤ) → Below v a → Gap a (some (neg_ℤ v))
gap_below v h x y u w = less v x y (h x u) (up_le w)
  where
    less : (v x y : ℤ) → v ⩽ x → neg_ℤ v ⩽ y → pos 0 ⩽ x +ℤ y
    less v x y = simp ints (omega arith)

-- a distance and a weight, at most a number
pub up_weight : (b : Distance) (m z : ℤ) → Up (b ⊕ m) z → (y : ℤ) × Up b y × (y +ℤ m ⩽ z)
up_weight none m z u = not_none u
up_weight (some b) m z u = (b, up_at b, up_le u)

-- ---- points
pub value_0 : (s : Assignment) → value s 0 ≡ s 0
value_0 s = value_plus s 0

pub value_1 : (s : Assignment) → value s 1 ≡ neg_ℤ (s 0)
value_1 s = value_minus s 0

pub hub_or_other : (p : ℕ) → (p < hub_points) ⊎ (hub_points ≤ p)
hub_or_other zero = inl (omega arith)
hub_or_other (suc zero) = inl (omega arith)
hub_or_other (suc (suc p)) = inr (omega arith)

pub opposite_other : (p : ℕ) → hub_points ≤ p → hub_points ≤ opposite p
unfolding opposite
opposite_other p l = omega arith
