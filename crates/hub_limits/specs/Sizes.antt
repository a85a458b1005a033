-- How large the hub's limits and value, and the greatest values of the other points, get: so that each is read back as it was stored.
use Rattle.std.specs.Prelude.{◌≡◌, refl, List, ℤ, pos, neg_ℤ}
use Rattle.std.proofs.Common.{sym, arith, SFits}
use Prim.Native.Nat.{ℕ, zero, suc, ◌+◌, ◌*◌, ◌<◌, ◌≤◌}
use Rattle.std.specs.Int.{w64}
use Rattle.integers.specs.Integer.{◌⩽◌, min_z, max_z, Within}
use Rattle.integers.proofs.Linear.{ints, zs}
use Rattle.steps.specs.Point.{opposite}
use Rattle.steps.specs.Step.{max_weight}
use Rattle.theory_walks.specs.Distance.{Distance, none, some, ◌⊕◌}
use Rattle.theory_bounds.specs.Points.{opposite_below}
use Rattle.theory_bounds.specs.Near.{above, at_most, near}
use Rattle.theory_hub.specs.Hub.{Weights, hub_points, weight_rows, own_row, own, cap, leaves, limit_by_lem, others, hub_limit_lem, hub_value, reach}
use Rattle.decide_rows.specs.Stored.{stored}
use Rattle.decide_rows.specs.Read.{distance_of, Short, short_more}
use Rattle.decide_stored_table.specs.Sum.{min_short, sum_short, half_short}
use Rattle.decide_model.specs.Limit.{minus_within}
use Rattle.hub_weights.specs.Weights.{weights_in}
use Rattle.hub_limits.specs.Ready.{WeightsShort, max_hub}
use Rattle.hub_limits.specs.Stands.{back, stands_number, add_number}

-- a weight, and a limit or the value of the hub
abbrev pub max_limit : ℕ
max_limit = 3 * max_weight

-- the hub's other point is one of its two, and has a row
pub other_row : (g : ℕ) → g < hub_points → opposite g < weight_rows
other_row g h = omega (arith, opposite_below 1 g h)

-- the number nearest zero between two ends
pub near_within : (m : ℕ) (u l : Distance) → Short m u → Short m l → Within m (near u l)
unfolding near above at_most
near_within m u l hu hl = greater l hl (at_most u (pos 0)) (smaller u hu)
  where
    zero_within : Within m (pos 0)
    zero_within = record { low = simp ints (omega arith); high = simp ints (omega arith) }

    smaller : (u : Distance) → Short m u → Within m (at_most u (pos 0))
    smaller none h = zero_within
    smaller (some u) h = record { low = low m u (h u refl).low; high = high m u }
      where
        low : (m : ℕ) (u : ℤ) → neg_ℤ (pos m) ⩽ u → neg_ℤ (pos m) ⩽ min_z u (pos 0)
        low m u = simp ints (omega arith)

        high : (m : ℕ) (u : ℤ) → min_z u (pos 0) ⩽ pos m
        high m u = simp ints (omega arith)

    greater : (l : Distance) → Short m l → (z : ℤ) → Within m z → Within m (above l z)
    greater none h z w = w
    greater (some l) h z w = record { low = low m l z w.low; high = high m l z (h l refl).low w.high }
      where
        low : (m : ℕ) (l z : ℤ) → neg_ℤ (pos m) ⩽ z → neg_ℤ (pos m) ⩽ max_z (neg_ℤ l) z
        low m l z = simp ints (omega arith)

        high : (m : ℕ) (l z : ℤ) → neg_ℤ (pos m) ⩽ l → z ⩽ pos m → max_z (neg_ℤ l) z ⩽ pos m
        high m l z = simp ints (omega arith)

-- a value of the hub, negated
pub minus_fits : (v : ℤ) → Within max_hub v → SFits w64 (neg_ℤ v)
minus_fits v h = simp ints (omega zs)

-- a weight and a value
add_short : (d : Distance) (v : ℤ) → Short max_weight d → Within max_hub v → Short max_limit (d ⊕ v)
add_short d v s h = rw (sym (add_number d v)) (short_more (omega arith) (sum_short d (some v) max_weight max_hub s (stands_number max_hub v h).short))

module _ (n : ℕ) (w : List ℤ) (ok : WeightsShort n w) where
  abbrev W : Weights
  W = weights_in n w

  pub own_short : (p : ℕ) → p < 2 * n → Short max_weight (own W p)
  own_short p h = half_short (W own_row p) max_weight (ok.short own_row p (omega arith) h)

  pub leaves_short : (g p : ℕ) → g < hub_points → p < 2 * n → Short max_hub (leaves W g p)
  leaves_short g p hg hp =
      let far = ok.short (opposite g) (opposite p) (other_row g hg) (opposite_below n p hp) in
      min_short _ _ max_hub (short_more (omega arith) (sum_short _ _ max_weight max_weight (own_short p hp) far))
      (short_more (omega arith) (half_short _ (max_weight + max_weight) (sum_short _ _ max_weight max_weight (ok.short (opposite g) p (other_row g hg) hp) far)))

  -- the hub's limit by the first k points of other variables, and by all of them
  pub by_short : (g : ℕ) → g < hub_points → 1 ≤ n → (k : ℕ) → k ≤ others n → Short max_hub (limit_by_lem W g k)
  unfolding limit_by_lem
  by_short g hg hn zero h = short_more (omega arith) (own_short g (omega arith))
  by_short g hg hn (suc k) h = min_short _ _ max_hub (by_short g hg hn k (omega arith)) (leaves_short g (hub_points + k) hg (omega arith))

  pub limit_short : (g : ℕ) → g < hub_points → 1 ≤ n → Short max_hub (hub_limit_lem n W g)
  limit_short g hg hn = by_short g hg hn (others n) (omega arith)

  pub limit_back : (g : ℕ) → g < hub_points → 1 ≤ n → (z : ℤ) → z ≡ stored (hub_limit_lem n W g) → distance_of z ≡ hub_limit_lem n W g
  limit_back g hg hn z e = back (omega arith) (record { is = e; short = limit_short g hg hn })

  pub value_within : 1 ≤ n → Within max_hub (hub_value n W)
  value_within hn = near_within max_hub _ _ (limit_short 0 (omega arith) hn) (limit_short 1 (omega arith) hn)

  -- a point's greatest value, with the hub's value or with its limits
  pub cap_short : (v : ℤ) (p : ℕ) → Within max_hub v → p < 2 * n → Short max_limit (cap W v p)
  cap_short v p hv hp =
      min_short _ _ max_limit (short_more (omega arith) (own_short p hp))
      (min_short _ _ max_limit (add_short (W 0 p) v (ok.short 0 p (omega arith) hp) hv) (add_short (W 1 p) (neg_ℤ v) (ok.short 1 p (omega arith) hp) (minus_within max_hub v hv)))

  pub cap_back : (v : ℤ) (p : ℕ) → Within max_hub v → p < 2 * n → (z : ℤ) → z ≡ stored (cap W v p) → distance_of z ≡ cap W v p
  cap_back v p hv hp z e = back (omega arith) (record { is = e; short = cap_short v p hv hp })

  pub reach_short : (a b : Distance) (p : ℕ) → Short max_hub a → Short max_hub b → p < 2 * n → Short max_limit (reach W a b p)
  reach_short a b p ha hb hp =
      let plus = ok.short 0 p (omega arith) hp in
      let minus = ok.short 1 p (omega arith) hp in
      min_short _ _ max_limit (short_more (omega arith) (own_short p hp))
      (min_short _ _ max_limit (short_more (omega arith) (sum_short _ _ max_weight max_hub plus ha))
      (min_short _ _ max_limit (short_more (omega arith) (sum_short _ _ max_weight max_hub minus hb))
      (short_more (omega arith) (half_short _ (max_weight + max_weight) (sum_short _ _ max_weight max_weight plus minus)))))
