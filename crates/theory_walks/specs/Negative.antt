-- The test whether some closed walk is negative: it computes, yes means that no distance from a point to itself is below 0, and no gives the walk.
use Rattle.std.specs.Prelude.{◌≡◌, refl, Bool, true, false, ◌&&◌, List, [], ◌∷◌, ℕ, zero, suc, ◌≤◌, ◌<◌, ℤ, pos, length}
use Rattle.std.proofs.Common.{arith}
use Rattle.std.specs.Int.Signed.{le_z}
use Rattle.integers.specs.Integer.{◌⩽◌, ◌⋖◌}
use Rattle.integers.proofs.Linear.{ints}
use Rattle.integers.specs.Laws.{never}
use Rattle.integers.specs.Table.{all_below, below_at}
use Rattle.steps.specs.declared.Step.{Step}
use Rattle.steps.specs.Walk.{total}
use Rattle.theory_walks.specs.Distance.{Distance, none, some, ◌⊑◌, some_le, le_some, le_none, ⊑_trans, ⊑_of_eq}
use Rattle.theory_walks.specs.Row.{WithinPoints, at, row_at, best}
use Rattle.theory_walks.specs.Reach.{Walk, row_attained}
use Rattle.theory_walks.specs.Least.{NoneNegative, best_attained, best_short, closed_nonneg}

-- a distance is not below 0
abbrev pub not_below0 : Distance → Bool
not_below0 none = true
not_below0 (some z) = le_z (pos 0) z

unfoldable pub no_negative : List Step → ℕ → Bool
no_negative E N = all_below N (λ u. not_below0 (best E N u u))

-- a closed walk of 1 to N steps, of negative sum
pub record NegativeWalk (E : List Step) (N : ℕ) : Type 0 where
  pub point : ℕ
  pub low : point < N
  pub steps : List Step
  pub walk : Walk E point steps point
  pub nonempty : 0 < length steps
  pub few : length steps ≤ N
  pub negative : total steps ⋖ pos 0

-- a point whose distance to itself is negative
pub record NegativePoint (E : List Step) (N : ℕ) : Type 0 where
  pub point : ℕ
  pub low : point < N
  pub sum : ℤ
  pub is : best E N point point ≡ some sum
  pub negative : sum ⋖ pos 0

-- ---- one distance
pub is_not_below : (d : Distance) → not_below0 d ≡ true → some (pos 0) ⊑ d
is_not_below none t = le_none _
is_not_below (some z) t = some_le (yes_le z t)
  where
    yes_le : (z : ℤ) → le_z (pos 0) z ≡ true → pos 0 ⩽ z
    yes_le z = simp ints (omega arith)

pub is_below : (d : Distance) → not_below0 d ≡ false → (z : ℤ) × (d ≡ some z) × (z ⋖ pos 0)
is_below none t = never (cc)
is_below (some z) t = (z, refl, no_le z t)
  where
    no_le : (z : ℤ) → le_z (pos 0) z ≡ false → z ⋖ pos 0
    no_le z = simp ints (omega arith)

-- where not all are true, one is false
pub one_false : (n : ℕ) (f : ℕ → Bool) → all_below n f ≡ false → (i : ℕ) × (i < n) × (f i ≡ false)
one_false zero f t = never (cc)
one_false (suc n) f t = go (f n) refl t (one_false n f)
  where
    go : (b : Bool) → f n ≡ b → (b && all_below n f) ≡ false → (all_below n f ≡ false → (i : ℕ) × (i < n) × (f i ≡ false)) → (i : ℕ) × (i < suc n) × (f i ≡ false)
    go false e u fewer = (n, omega arith, e)
    go true e u fewer = let r = fewer u in (r.0, omega (arith, r.1), r.2)

not_both : {A : Type 0} (z : ℤ) → pos 0 ⩽ z → z ⋖ pos 0 → A
not_both z h k = absurd (clash z h k)
  where
    clash : (z : ℤ) → pos 0 ⩽ z → z ⋖ pos 0 → ⊥
    clash z = simp ints (omega arith)

-- a negative sum has steps
some_steps : (ss : List Step) → total ss ⋖ pos 0 → 0 < length ss
some_steps [] h = not_both (pos 0) (simp ints (omega arith)) h
some_steps (s ∷ ss) h = omega arith

module _ (E : List Step) (N : ℕ) where
  -- ---- what the answers mean
  pub no_negative_at : no_negative E N ≡ true → (u : ℕ) → u < N → not_below0 (best E N u u) ≡ true
  unfolding no_negative
  no_negative_at t u h = below_at N (λ u. not_below0 (best E N u u)) t u h

  pub no_negative_yes : no_negative E N ≡ true → NoneNegative E N
  no_negative_yes t u h = is_not_below (best E N u u) (no_negative_at t u h)

  pub negative_point : no_negative E N ≡ false → NegativePoint E N
  unfolding no_negative
  negative_point t =
      let r = one_false N (λ u. not_below0 (best E N u u)) t in
      let d = is_below (best E N r.0 r.0) r.2 in
      record { point = r.0; low = r.1; sum = d.0; is = d.1; negative = d.2 }

  -- a negative distance from a point to itself is the sum of a negative closed walk
  pub negative_walk : NegativePoint E N → NegativeWalk E N
  negative_walk p =
      let r = best_attained E N p.point p.point p.sum p.is in
      let n : total r.steps ⋖ pos 0 = rw r.sum p.negative in
      record { point = p.point; low = p.low; steps = r.steps; walk = r.walk; nonempty = some_steps r.steps n; few = r.count; negative = n }

  -- ---- and when they are given
  pub no_negative_true : NoneNegative E N → no_negative E N ≡ true
  no_negative_true f = go (no_negative E N) refl
    where
      go : (b : Bool) → no_negative E N ≡ b → b ≡ true
      go true t = refl
      go false t =
          let p = negative_point t in
          not_both p.sum (le_some (⊑_trans (f p.point p.low) (⊑_of_eq p.is))) p.negative

  pub no_negative_false : NegativePoint E N → no_negative E N ≡ false
  no_negative_false p = go (no_negative E N) refl
    where
      go : (b : Bool) → no_negative E N ≡ b → b ≡ false
      go true t = not_both p.sum (le_some (⊑_trans (no_negative_yes t p.point p.low) (⊑_of_eq p.is))) p.negative
      go false t = refl

  -- a negative closed walk of any length is found
  pub no_negative_found : WithinPoints N E → (u : ℕ) (ss : List Step) → Walk E u ss u → total ss ⋖ pos 0 → no_negative E N ≡ false
  no_negative_found within u ss w k = go (no_negative E N) refl
    where
      go : (b : Bool) → no_negative E N ≡ b → b ≡ false
      go true t = not_both (total ss) (closed_nonneg E N within (no_negative_yes t) u ss w) k
      go false t = refl

  -- a negative entry of the source in one of its rows stays negative: the walk that it sums is short enough for the last row
  pub negative_stays : WithinPoints N E → (u k : ℕ) → u < N → k ≤ N → not_below0 (at (row_at E N u k) u) ≡ false → not_below0 (best E N u u) ≡ false
  negative_stays within u k l h t = go (not_below0 (best E N u u)) refl
    where
      go : (b : Bool) → not_below0 (best E N u u) ≡ b → b ≡ false
      go true n =
          let d = is_below (at (row_at E N u k) u) t in
          let r = row_attained E N u k u d.0 d.1 in
          let least : best E N u u ⊑ some d.0 = rw r.sum at (best_short E N within u u l r.steps r.walk (omega (arith, r.count, h))) in
          not_both d.0 (le_some (⊑_trans (is_not_below (best E N u u) n) least)) d.2
      go false n = refl
