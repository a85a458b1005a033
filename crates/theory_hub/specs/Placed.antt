-- Solutions made from the hub's value: every other variable takes the value nearest zero that its caps leave. With a cap made tighter at one point, they
-- reach each point's greatest value, or pass every number where it has none, and give one variable another value while the rest keep theirs.
use Rattle.std.specs.Prelude.{◌≡◌, refl, Bool, eqb, ℤ, pos, neg_ℤ, ◌+ℤ◌, ◌-ℤ◌}
use Rattle.std.proofs.Common.{sym, ap, subst, ◌∙◌, ⊎_elim, arith, le-ltb, eq-eqb, ne_eqb}
use Rattle.std.proofs.Math.Bool.{true, false, cond}
use Prim.Native.Nat.{ℕ, zero, suc, ◌*◌, ◌≤◌, ◌<◌}
use Rattle.std.proofs.Math.Decide.{ℕ_discrete}
use Rattle.integers.specs.Integer.{◌⩽◌}
use Rattle.integers.proofs.Linear.{ints}
use Rattle.lines.specs.Line.{Assignment}
use Rattle.steps.specs.Point.{point, opposite, opposite_twice, value, value_opposite}
use Rattle.steps.proofs.PointLaws.{value_plus, value_minus}
use Rattle.theory_walks.specs.Distance.{Distance, some, Below, ◌⊑◌, min_d, ◌⊕◌, ◌⊞◌, half_d, ⊑_refl, min_left, min_right, up_at, up_le, up_plus}
use Rattle.theory_bounds.specs.Near.{Gap, near, near_high, near_low}
use Rattle.theory_bounds.specs.Points.{variable_of, which, opposite_plus, opposite_differs, opposite_below}
use Rattle.theory_hub.specs.Hub.{hub_points, Weights, own, cap, hub_limit_lem, others, reach, greatest_at_lem, all_sound_lem}
use Rattle.theory_hub.specs.Laws.{below_mono, below_min, min_below_l, min_below_r, below_plus, plus_below, half_below, gap_turn, gap_min, gap_below, value_0, value_1, opposite_other, up_weight}
use Rattle.theory_hub.specs.Room.{limit_own, roomy}
use Rattle.theory_hub.specs.Seated.{Seated}

-- ---- an assignment by the hub's value and the caps of the other points
unfoldable pub place : ℤ → (ℕ → Distance) → Assignment
place v c x = cond (eqb x 0) v (near (c (point x 0)) (c (point x 1)))

pub place_hub : (v : ℤ) (c : ℕ → Distance) → place v c 0 ≡ v
unfolding place
place_hub v c = refl

pub place_other : (v : ℤ) (c : ℕ → Distance) (x : ℕ) → 1 ≤ x → place v c x ≡ near (c (point x 0)) (c (point x 1))
unfolding place
place_other v c x h = rw (ne_eqb x 0 (λ e. omega (arith, e, h)))

-- each variable but the hub has a value within its caps
abbrev pub Roomy : ℕ → (ℕ → Distance) → Type 0
Roomy n c = (p : ℕ) → hub_points ≤ p → p < 2 * n → Gap (c p) (c (opposite p))

module _ (n : ℕ) (v : ℤ) (c : ℕ → Distance) (gaps : Roomy n c) where
  pub place_below : (p : ℕ) → hub_points ≤ p → p < 2 * n → Below (value (place v c) p) (c p)
  place_below p h l = ⊎_elim (λ e. plus (variable_of p) e) (λ e. minus (variable_of p) e) (which p)
    where
      gap : (x : ℕ) → 1 ≤ x → x < n → Gap (c (point x 0)) (c (point x 1))
      gap x i j = subst (λ (q : ℕ). Gap (c (point x 0)) (c q)) (opposite_plus x) (gaps (point x 0) (omega arith) (omega arith))

      plus : (x : ℕ) → p ≡ point x 0 → Below (value (place v c) p) (c p)
      plus x e =
          rw (e, value_plus (place v c) x, place_other v c x (omega (arith, e, h)))
          (near_high (c (point x 0)) (c (point x 1)) (gap x (omega (arith, e, h)) (omega (arith, e, l))))

      minus : (x : ℕ) → p ≡ point x 1 → Below (value (place v c) p) (c p)
      minus x e = rw (e, value_minus (place v c) x, place_other v c x (omega (arith, e, h))) (near_low (c (point x 0)) (c (point x 1)))

  module _ (W : Weights) (plus : Below v (hub_limit_lem n W 0)) (minus : Below (neg_ℤ v) (hub_limit_lem n W 1)) where
    pub place_seated : ((p : ℕ) → hub_points ≤ p → p < 2 * n → c p ⊑ cap W v p) → Seated n W (place v c)
    place_seated within =
        record {
          plus = rw (place_hub v c) (below_mono plus (limit_own W 0 (others n)));
          minus = rw (place_hub v c) (below_mono minus (limit_own W 1 (others n)));
          other = λ p h l. rw (place_hub v c) (below_mono (place_below p h l) (within p h l));
        }

-- ---- a cap made tighter at the point e
unfoldable pub tighter : (ℕ → Distance) → ℕ → ℤ → ℕ → Distance
tighter c e z q = cond (eqb q e) (min_d (c q) (some z)) (c q)

module _ (c : ℕ → Distance) (e : ℕ) (z : ℤ) where
  pub tighter_at : tighter c e z e ≡ min_d (c e) (some z)
  unfolding tighter
  tighter_at = rw (eq-eqb e e refl)

  pub tighter_else : (q : ℕ) → (q ≡ e → ⊥) → tighter c e z q ≡ c q
  unfolding tighter
  tighter_else q d = rw (ne_eqb q e d)

  pub tighter_less : (q : ℕ) → tighter c e z q ⊑ c q
  unfolding tighter
  tighter_less q = go (eqb q e)
    where
      go : (b : Bool) → cond b (min_d (c q) (some z)) (c q) ⊑ c q
      go true = min_left (c q) (some z)
      go false = ⊑_refl (c q)

  -- there is still room where the opposite of z is at most the cap of the opposite point
  pub tighter_roomy : (n : ℕ) → Roomy n c → Below (neg_ℤ z) (c (opposite e)) → Roomy n (tighter c e z)
  tighter_roomy n gaps h p i l = go (ℕ_discrete p e) (ℕ_discrete (opposite p) e)
    where
      back : {d : Distance} → Below (neg_ℤ z) d → Gap (some z) d
      back h x y u w = less z x y (up_le u) (h y w)
        where
          less : (z x y : ℤ) → z ⩽ x → neg_ℤ z ⩽ y → pos 0 ⩽ x +ℤ y
          less z x y = simp ints (omega arith)

      at_own : p ≡ e → Gap (tighter c e z p) (tighter c e z (opposite p))
      at_own q =
          let o = tighter_else (opposite p) (λ r. opposite_differs p (q ∙ sym r)) in
          let t : tighter c e z p ≡ min_d (c p) (some z) = ap (tighter c e z) q ∙ tighter_at ∙ ap (λ (r : ℕ). min_d (c r) (some z)) (sym q) in
          rw (t, o) (gap_min (gaps p i l) (back (subst (λ (r : ℕ). Below (neg_ℤ z) (c (opposite r))) (sym q) h)))

      at_opposite : (p ≡ e → ⊥) → opposite p ≡ e → Gap (tighter c e z p) (tighter c e z (opposite p))
      at_opposite d q =
          let o = tighter_else p d in
          let t : tighter c e z (opposite p) ≡ min_d (c (opposite p)) (some z) = ap (tighter c e z) q ∙ tighter_at ∙ ap (λ (r : ℕ). min_d (c r) (some z)) (sym q) in
          let f : opposite e ≡ p = ap opposite (sym q) ∙ opposite_twice p in
          rw (t, o) (gap_turn (gap_min (gap_turn (gaps p i l)) (back (subst (λ (r : ℕ). Below (neg_ℤ z) (c r)) f h))))

      go : Dec (p ≡ e) → Dec (opposite p ≡ e) → Gap (tighter c e z p) (tighter c e z (opposite p))
      go (yes q) _ = at_own q
      go (no d) (yes q) = at_opposite d q
      go (no d) (no f) = rw (tighter_else p d, tighter_else (opposite p) f) (gaps p i l)

-- ---- where the list can hold
module _ (n : ℕ) (W : Weights) (All-sound : all_sound_lem n W ≡ true) (hub_gap : Gap (hub_limit_lem n W 0) (hub_limit_lem n W 1)) where
  -- a solution whose hub has the value v, with the cap of the point e at most z
  module _ (v : ℤ) (plus : Below v (hub_limit_lem n W 0)) (minus : Below (neg_ℤ v) (hub_limit_lem n W 1)) where
    caps_roomy : Roomy n (cap W v)
    caps_roomy p h l = roomy n W All-sound v plus minus p h l

    pub plain_seated : Seated n W (place v (cap W v))
    plain_seated = place_seated n v (cap W v) caps_roomy W plus minus (λ p h l. ⊑_refl (cap W v p))

    module _ (e : ℕ) (z : ℤ) (room : Below (neg_ℤ z) (cap W v (opposite e))) where
      abbrev c : ℕ → Distance
      c = tighter (cap W v) e z

      tight_roomy : Roomy n c
      tight_roomy = tighter_roomy (cap W v) e z n caps_roomy room

      pub tight_seated : Seated n W (place v c)
      tight_seated = place_seated n v c tight_roomy W plus minus (λ p h l. tighter_less (cap W v) e z p)

      -- where it is kept
      pub tight_at : hub_points ≤ e → e < 2 * n → value (place v c) e ⩽ z
      tight_at h l = below_mono (place_below n v c tight_roomy e h l) (subst (λ (d : Distance). d ⊑ some z) (sym (tighter_at (cap W v) e z)) (min_right (cap W v e) (some z))) z (up_at z)

  -- ---- every number up to a point's greatest value is reached or passed
  pub record Reached (p : ℕ) (a : ℤ) : Type 0 where
    pub by : Assignment
    pub seated : Seated n W by
    pub reached : a ⩽ value by p

  turn : (a v : ℤ) → neg_ℤ v ⩽ neg_ℤ a → a ⩽ v
  turn a v = simp ints (omega arith)

  reached_plus : (a : ℤ) → Below a (hub_limit_lem n W 0) → Reached 0 a
  reached_plus a h =
      let low = min_d (hub_limit_lem n W 1) (some (neg_ℤ a)) in
      let v = near (hub_limit_lem n W 0) low in
      let up = near_high (hub_limit_lem n W 0) low (gap_turn (gap_min (gap_turn hub_gap) (gap_turn (gap_below a h)))) in
      let down = near_low (hub_limit_lem n W 0) low in
      let at_least_lem = min_below_r (neg_ℤ v) (hub_limit_lem n W 1) (some (neg_ℤ a)) down in
      record {
        by = place v (cap W v);
        seated = plain_seated v up (min_below_l (neg_ℤ v) (hub_limit_lem n W 1) (some (neg_ℤ a)) down);
        reached = rw (value_0 (place v (cap W v)), place_hub v (cap W v)) (turn a v (at_least_lem (neg_ℤ a) (up_at (neg_ℤ a))));
      }

  reached_minus : (a : ℤ) → Below a (hub_limit_lem n W 1) → Reached 1 a
  reached_minus a h =
      let high = min_d (hub_limit_lem n W 0) (some (neg_ℤ a)) in
      let v = near high (hub_limit_lem n W 1) in
      let up = near_high high (hub_limit_lem n W 1) (gap_min hub_gap (gap_turn (gap_below a h))) in
      let down = near_low high (hub_limit_lem n W 1) in
      let at_most = min_below_r v (hub_limit_lem n W 0) (some (neg_ℤ a)) up in
      record {
        by = place v (cap W v);
        seated = plain_seated v (min_below_l v (hub_limit_lem n W 0) (some (neg_ℤ a)) up) down;
        reached = rw (value_1 (place v (cap W v)), place_hub v (cap W v)) (flip a v (at_most (neg_ℤ a) (up_at (neg_ℤ a))));
      }
    where
      flip : (a v : ℤ) → v ⩽ neg_ℤ a → a ⩽ neg_ℤ v
      flip a v = simp ints (omega arith)

  -- the hub's value lies where both its limits and those of p with the value a leave it one
  module _ (p : ℕ) (h : hub_points ≤ p) (l : p < 2 * n) (a : ℤ) (k : Below a (reach W (hub_limit_lem n W 0) (hub_limit_lem n W 1) p)) where
    abbrev A : Distance
    A = hub_limit_lem n W 0

    abbrev B : Distance
    B = hub_limit_lem n W 1

    by_own : Below a (own W p)
    by_own = min_below_l a (own W p) (min_d (W 0 p ⊞ A) (min_d (W 1 p ⊞ B) (half_d (W 0 p ⊞ W 1 p)))) k

    rest : Below a (min_d (W 0 p ⊞ A) (min_d (W 1 p ⊞ B) (half_d (W 0 p ⊞ W 1 p))))
    rest = min_below_r a (own W p) (min_d (W 0 p ⊞ A) (min_d (W 1 p ⊞ B) (half_d (W 0 p ⊞ W 1 p)))) k

    by_plus : Below a (W 0 p ⊞ A)
    by_plus = min_below_l a (W 0 p ⊞ A) (min_d (W 1 p ⊞ B) (half_d (W 0 p ⊞ W 1 p))) rest

    last : Below a (min_d (W 1 p ⊞ B) (half_d (W 0 p ⊞ W 1 p)))
    last = min_below_r a (W 0 p ⊞ A) (min_d (W 1 p ⊞ B) (half_d (W 0 p ⊞ W 1 p))) rest

    by_minus : Below a (W 1 p ⊞ B)
    by_minus = min_below_l a (W 1 p ⊞ B) (half_d (W 0 p ⊞ W 1 p)) last

    by_half : Below a (half_d (W 0 p ⊞ W 1 p))
    by_half = min_below_r a (W 1 p ⊞ B) (half_d (W 0 p ⊞ W 1 p)) last

    abbrev high : Distance
    high = min_d A (W 1 p ⊕ neg_ℤ a)

    abbrev low : Distance
    low = min_d B (W 0 p ⊕ neg_ℤ a)

    less : (a x b y : ℤ) → a ⩽ b +ℤ x → b +ℤ neg_ℤ a ⩽ y → pos 0 ⩽ x +ℤ y
    less a x b y = simp ints (omega arith)

    -- one weight of p with the other end of the hub
    with_hub : (w d : Distance) → Below a (w ⊞ d) → Gap d (w ⊕ neg_ℤ a)
    with_hub w d h x y i j = let t = up_weight w (neg_ℤ a) y j in less a x t.0 y (h _ (up_plus t.1 i)) t.2

    sum : (a x y z w : ℤ) → a -ℤ neg_ℤ a ⩽ z +ℤ w → w +ℤ neg_ℤ a ⩽ x → z +ℤ neg_ℤ a ⩽ y → pos 0 ⩽ x +ℤ y
    sum a x y z w = simp ints (omega arith)

    with_both : Gap (W 1 p ⊕ neg_ℤ a) (W 0 p ⊕ neg_ℤ a)
    with_both x y i j =
        let t = up_weight (W 1 p) (neg_ℤ a) x i in
        let r = up_weight (W 0 p) (neg_ℤ a) y j in
        sum a x y r.0 t.0 (half_below a (W 0 p ⊞ W 1 p) by_half _ (up_plus r.1 t.1)) t.2 r.2

    gap : Gap high low
    gap =
        gap_min (gap_turn (gap_min (gap_turn hub_gap) (gap_turn (with_hub (W 0 p) A by_plus))))
        (gap_turn (gap_min (with_hub (W 1 p) B by_minus) (gap_turn with_both)))

    abbrev v : ℤ
    v = near high low

    up : Below v high
    up = near_high high low gap

    down : Below (neg_ℤ v) low
    down = near_low high low

    plus : Below v (hub_limit_lem n W 0)
    plus = min_below_l v A (W 1 p ⊕ neg_ℤ a) up

    minus : Below (neg_ℤ v) (hub_limit_lem n W 1)
    minus = min_below_l (neg_ℤ v) B (W 0 p ⊕ neg_ℤ a) down

    -- a weight and a number exchanged for another
    exchanged : (w : Distance) (x y z : ℤ) → z ≡ neg_ℤ x → Below x (w ⊕ neg_ℤ y) → Below y (w ⊕ z)
    exchanged w x y z e h = below_plus y z w (λ b u. swap x y z b e (plus_below x (neg_ℤ y) w h b u))
      where
        swap : (x y z b : ℤ) → z ≡ neg_ℤ x → x -ℤ neg_ℤ y ⩽ b → y -ℤ z ⩽ b
        swap x y z b = simp ints (omega arith)

    back : (v : ℤ) → v ≡ neg_ℤ (neg_ℤ v)
    back v = simp ints (omega arith)

    at_p : Below a (cap W v p)
    at_p =
        below_min a (own W p) (min_d (W 0 p ⊕ v) (W 1 p ⊕ neg_ℤ v)) by_own
        (below_min a (W 0 p ⊕ v) (W 1 p ⊕ neg_ℤ v) (exchanged (W 0 p) (neg_ℤ v) a v (back v) (min_below_r (neg_ℤ v) B (W 0 p ⊕ neg_ℤ a) down))
        (exchanged (W 1 p) v a (neg_ℤ v) refl (min_below_r v A (W 1 p ⊕ neg_ℤ a) up)))

    room : Below (neg_ℤ (neg_ℤ a)) (cap W v (opposite (opposite p)))
    room = rw (opposite_twice p, sym (back a)) at_p

    reached_other : Reached p a
    reached_other =
        record {
          by = place v (tighter (cap W v) (opposite p) (neg_ℤ a));
          seated = tight_seated v plus minus (opposite p) (neg_ℤ a) room;
          reached = turn a _ (subst (λ (x : ℤ). x ⩽ neg_ℤ a) (value_opposite (place v (tighter (cap W v) (opposite p) (neg_ℤ a))) p) (tight_at v plus minus (opposite p) (neg_ℤ a) room (opposite_other p h) (opposite_below n p l)));
        }

  pub attained : (p : ℕ) → p < 2 * n → (a : ℤ) → Below a (greatest_at_lem n W p) → Reached p a
  unfolding greatest_at_lem
  attained zero l a h = reached_plus a h
  attained (suc zero) l a h = reached_minus a h
  attained (suc (suc p)) l a h = reached_other (suc (suc p)) (omega arith) l a (rw (le-ltb (suc (suc p)) hub_points (omega arith)) at h)
