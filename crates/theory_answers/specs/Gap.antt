-- Sizes: of n that are not all within B + n·M, none lies in one of the n stretches of M from B on. Each stretch would need one of its own, and one lies beyond all.
use Rattle.std.specs.Prelude.{◌≡◌, refl, ◌⊎◌}
use Rattle.std.proofs.Common.{inl, inr, mul-le-mul_right}
use Prim.Native.Nat.{ℕ, zero, suc, ◌+◌, ◌*◌, ◌-◌, ◌≤◌, ◌<◌, min}
use native.Mathlib.Omega.{arith}
use Rattle.std.proofs.Math.Decide.{ℕ_discrete, dec_lt}
use Rattle.theory_answers.specs.Moved.{Apart}

-- ---- how many of the first n sizes lie beyond a bound
module _ (f : ℕ → ℕ) where
  -- 1 if f x is beyond b, else 0
  one : ℕ → ℕ → ℕ
  one b x = min 1 (f x - b)

  abbrev beyond : ℕ → ℕ → ℕ
  beyond b zero = 0
  beyond b (suc n) = beyond b n + one b n

  beyond_le : (b n : ℕ) → beyond b n ≤ n
  unfolding one
  beyond_le b zero = omega arith
  beyond_le b (suc n) = omega (arith, beyond_le b n)

  one_falls : (b c x : ℕ) → b ≤ c → one c x ≤ one b x
  unfolding one
  one_falls b c x h = omega arith

  one_far : (b x : ℕ) → b < f x → one b x ≡ 1
  unfolding one
  one_far b x h = omega arith

  one_near : (b x : ℕ) → f x ≤ b → one b x ≡ 0
  unfolding one
  one_near b x h = omega arith

  beyond_falls : (b c n : ℕ) → b ≤ c → beyond c n ≤ beyond b n
  beyond_falls b c zero h = omega arith
  beyond_falls b c (suc n) h = omega (arith, beyond_falls b c n h, one_falls b c n h)

  -- a size from beyond b up to c counts at b and not at c
  beyond_past : (b c n x : ℕ) → b ≤ c → x < n → b < f x → f x ≤ c → beyond c n < beyond b n
  beyond_past b c zero x h l p q = absurd (omega arith)
  beyond_past b c (suc n) x h l p q = go (ℕ_discrete x n) (λ k. beyond_past b c n x h k p q)
    where
      go : Dec (x ≡ n) → (x < n → beyond c n < beyond b n) → beyond c n + one c n < beyond b n + one b n
      go (yes e) _ = rw (← e) (omega (arith, beyond_falls b c x h, one_far b x p, one_near c x q))
      go (no d) less = omega (arith, less (omega arith), one_falls b c n h)

  beyond_none : (b n x : ℕ) → beyond b n ≡ 0 → x < n → f x ≤ b
  beyond_none b n x e l = go (dec_lt b (f x))
    where
      go : Dec (b < f x) → f x ≤ b
      go (yes h) = absurd (omega (arith, beyond_past b (f x) n x (omega arith) l h (omega arith)))
      go (no h) = omega arith

  -- the first of n sizes beyond b
  pub record First (b n : ℕ) : Type 0 where
    pub k : ℕ
    pub low : k < n
    pub far : b < f k
    pub before : (x : ℕ) → x < k → f x ≤ b

  first_or_none : (b n : ℕ) → First b n ⊎ (beyond b n ≡ 0)
  first_or_none b zero = inr refl
  first_or_none b (suc n) = go (first_or_none b n)
    where
      last : beyond b n ≡ 0 → Dec (b < f n) → First b (suc n) ⊎ (beyond b n + one b n ≡ 0)
      last e (yes h) = inl (record { k = n; low = omega arith; far = h; before = λ x l. beyond_none b n x e l })
      last e (no h) = inr (omega (arith, one_near b n (omega arith)))

      go : First b n ⊎ (beyond b n ≡ 0) → First b (suc n) ⊎ (beyond b n + one b n ≡ 0)
      go (inl t) = inl (record { k = t.k; low = omega (arith, t.low); far = t.far; before = t.before })
      go (inr e) = last e (dec_lt b (f n))

  -- where one is beyond b there is a first
  pub first : (b n k : ℕ) → k < n → b < f k → First b n
  first b n k l h = go (first_or_none b n)
    where
      go : First b n ⊎ (beyond b n ≡ 0) → First b n
      go (inl t) = t
      go (inr e) = absurd (omega (arith, beyond_none b n k e l))

  -- ---- a stretch that is free: no size lies beyond L and up to L + M
  pub record Free (n M B : ℕ) : Type 0 where
    pub L : ℕ
    pub from : B ≤ L
    pub upto : L + M ≤ B + n * M
    pub apart : (x : ℕ) → x < n → Apart L (L + M) (f x)

  module _ (n M B : ℕ) where
    -- it is free where as many sizes lie beyond its end as beyond its start
    free_at : (L : ℕ) → B ≤ L → L + M ≤ B + n * M → (beyond (L + M) n < beyond L n → ⊥) → Free n M B
    free_at L h k same = record { L = L; from = h; upto = k; apart = λ x l. go x l (dec_lt L (f x)) (dec_lt (L + M) (f x)) }
      where
        go : (x : ℕ) → x < n → Dec (L < f x) → Dec (L + M < f x) → Apart L (L + M) (f x)
        go x l (no p) _ = inl (omega arith)
        go x l (yes p) (yes q) = inr q
        go x l (yes p) (no q) = absurd (same (beyond_past L (L + M) n x (omega arith) l p (omega arith)))

    -- of the first j stretches one is free, or with each of them one size less lies beyond
    free_or_fewer : (j : ℕ) → j ≤ n → Free n M B ⊎ (beyond (B + j * M) n + j ≤ n)
    free_or_fewer zero h = inr (omega (arith, beyond_le (B + 0 * M) n))
    free_or_fewer (suc j) h = go (free_or_fewer j (omega arith)) (dec_lt (beyond (B + j * M + M) n) (beyond (B + j * M) n))
      where
        next : B + j * M + M ≡ B + suc j * M
        next = omega arith

        go : Free n M B ⊎ (beyond (B + j * M) n + j ≤ n) → Dec (beyond (B + j * M + M) n < beyond (B + j * M) n) → Free n M B ⊎ (beyond (B + suc j * M) n + suc j ≤ n)
        go (inl t) _ = inl t
        go (inr e) (yes l) = inr (rw (← next) (omega arith))
        go (inr e) (no l) = inl (free_at (B + j * M) (omega arith) (omega (arith, mul-le-mul_right M h)) l)

    pub free : (k : ℕ) → k < n → B + n * M < f k → Free n M B
    free k l h = go (free_or_fewer n (omega arith))
      where
        go : Free n M B ⊎ (beyond (B + n * M) n + n ≤ n) → Free n M B
        go (inl t) = t
        go (inr e) = absurd (omega (arith, beyond_none (B + n * M) n k (omega arith) l))
