-- The lowest number that passes a test, or fails it: how a loop that tries one number after the other finds it, and what is known of it.
use Rattle.std.specs.Prelude.{◌≡◌, refl, ◌⊎◌, ◌↔◌, Bool, true, false, not, ℕ, zero, suc, ◌+◌, ◌-◌, ◌<◌, ◌≤◌}
use Rattle.std.proofs.Common.{sym, ap, ap₂, ◌∙◌, inl, inr, arith}
use Rattle.std.proofs.Math.Decide.{dec_lt}
use Rattle.std.proofs.lemmas.Bool.{not-true, not-false}
use Rattle.integers.specs.Laws.{never}
use Rattle.integers.specs.Table.{all_below, below_at, below_all}

-- the lowest of i, i + 1, .. for which the test holds, or the one after all that were tried
abbrev pub lowest : (ℕ → Bool) → ℕ → ℕ → ℕ
lowest f i zero = i
lowest f i (suc k) = elim (f i) [ true ↦ i | false ↦ lowest f (suc i) k ]

-- nothing is found before i: the search from 0 is the search from i
abbrev pub Searched : (ℕ → Bool) → ℕ → ℕ → Type 0
Searched f n i = lowest f 0 n ≡ lowest f i (n - i)

pub searched_none : (f : ℕ → Bool) (n : ℕ) → Searched f n 0
searched_none f n = let z : n ≡ n - 0 = omega arith in ap (lowest f 0) z

lowest_step : (f : ℕ → Bool) (i k : ℕ) (b : Bool) → f i ≡ b → lowest f i (suc k) ≡ (elim b [ true ↦ i | false ↦ lowest f (suc i) k ])
lowest_step f i k b e = ap (λ (t : Bool). elim t [ true ↦ i | false ↦ lowest f (suc i) k ]) e

module _ (f : ℕ → Bool) (n i : ℕ) where
  pub searched_more : i < n → f i ≡ false → Searched f n i → Searched f n (i + 1)
  searched_more h e s =
      let a : n - i ≡ suc (n - (i + 1)) = omega arith in
      let b : suc i ≡ i + 1 = omega arith in
      s ∙ ap (lowest f i) a ∙ lowest_step f i (n - (i + 1)) false e ∙ ap (λ (k : ℕ). lowest f k (n - (i + 1))) b

  pub searched_found : i < n → f i ≡ true → Searched f n i → i ≡ lowest f 0 n
  searched_found h e s =
      let a : n - i ≡ suc (n - (i + 1)) = omega arith in
      sym (s ∙ ap (lowest f i) a ∙ lowest_step f i (n - (i + 1)) true e)

  pub searched_all : i ≡ n → Searched f n i → i ≡ lowest f 0 n
  searched_all h s = let a : n - i ≡ 0 = omega arith in sym (s ∙ ap (lowest f i) a)

-- what is known of the number found, from i on in k tries: either nothing passed, or it passed and none before it did
pub record Passed (f : ℕ → Bool) (i end r : ℕ) : Type 0 where
  pub from : i ≤ r
  pub below : r < end
  pub passes : f r ≡ true
  pub before : (q : ℕ) → i ≤ q → q < r → f q ≡ false

pub record NonePassed (f : ℕ → Bool) (i end r : ℕ) : Type 0 where
  pub at_end : r ≡ end
  pub fails : (q : ℕ) → i ≤ q → q < end → f q ≡ false

pub lowest_known : (f : ℕ → Bool) (i k : ℕ) → Passed f i (i + k) (lowest f i k) ⊎ NonePassed f i (i + k) (lowest f i k)
lowest_known f i zero = inr (record { at_end = omega arith; fails = λ q h l. absurd (omega arith) })
lowest_known f i (suc k) = go (f i) refl (lowest_known f (suc i) k)
  where
    earlier : f i ≡ false → (q : ℕ) → (i < q → f q ≡ false) → i ≤ q → f q ≡ false
    earlier e q g h = pick (dec_lt i q)
      where
        pick : Dec (i < q) → f q ≡ false
        pick (yes l) = g l
        pick (no l) = let z : q ≡ i = omega arith in ap f z ∙ e

    go : (b : Bool) → f i ≡ b → Passed f (suc i) (suc i + k) (lowest f (suc i) k) ⊎ NonePassed f (suc i) (suc i + k) (lowest f (suc i) k)
        → Passed f i (i + suc k) (elim b [ true ↦ i | false ↦ lowest f (suc i) k ]) ⊎ NonePassed f i (i + suc k) (elim b [ true ↦ i | false ↦ lowest f (suc i) k ])
    go true e s = inl (record { from = omega arith; below = omega arith; passes = e; before = λ q h l. absurd (omega arith) })
    go false e (inl s) = inl (record { from = omega (arith, s.from); below = omega (arith, s.below); passes = s.passes; before = λ q h l. earlier e q (λ m. s.before q m l) h })
    go false e (inr s) = inr (record { at_end = omega (arith, s.at_end); fails = λ q h l. earlier e q (λ m. s.fails q m (omega arith)) h })

pub lowest_at_most : (f : ℕ → Bool) (n : ℕ) → lowest f 0 n ≤ n
lowest_at_most f n = go (lowest_known f 0 n)
  where
    go : Passed f 0 (0 + n) (lowest f 0 n) ⊎ NonePassed f 0 (0 + n) (lowest f 0 n) → lowest f 0 n ≤ n
    go (inl s) = omega (arith, s.below)
    go (inr s) = omega (arith, s.at_end)

-- two tests that agree on the numbers tried
pub lowest_cong : (f g : ℕ → Bool) (i k : ℕ) → ((q : ℕ) → q < i + k → f q ≡ g q) → lowest f i k ≡ lowest g i k
lowest_cong f g i zero e = refl
lowest_cong f g i (suc k) e =
    ap₂ (λ (t : Bool) (r : ℕ). elim t [ true ↦ i | false ↦ r ]) (e i (omega arith)) (lowest_cong f g (suc i) k (λ q h. e q (omega arith)))

-- ---- the lowest number that fails
-- the lowest of the numbers below N that fail, or N
abbrev pub first_failing_lem : ℕ → (ℕ → Bool) → ℕ
first_failing_lem N f = lowest (λ i. not (f i)) 0 N

pub record IsFirstFailing (N : ℕ) (f : ℕ → Bool) (r : ℕ) : Type 0 where
  pub below : r < N
  pub fails : f r ≡ false
  pub before : (q : ℕ) → q < r → f q ≡ true

module _ (N : ℕ) (f : ℕ → Bool) where
  abbrev Known : Type 0
  Known = ((first_failing_lem N f ≡ N) × (all_below N f ≡ true)) ⊎ IsFirstFailing N f (first_failing_lem N f)

  known : Known
  known = go (lowest_known (λ i. not (f i)) 0 N)
    where
      go : Passed (λ i. not (f i)) 0 (0 + N) (first_failing_lem N f) ⊎ NonePassed (λ i. not (f i)) 0 (0 + N) (first_failing_lem N f) → Known
      go (inl s) = inr (record { below = omega (arith, s.below); fails = not-true _ s.passes; before = λ q h. not-false _ (s.before q (omega arith) h) })
      go (inr s) = inl (omega (arith, s.at_end), below_all N f (λ i h. not-false _ (s.fails i (omega arith) (omega arith))))

  -- N is the answer exactly where all pass
  pub none_fails : (first_failing_lem N f ≡ N) ↔ (all_below N f ≡ true)
  none_fails = (fore known, back known)
    where
      fore : Known → first_failing_lem N f ≡ N → all_below N f ≡ true
      fore (inl s) e = s.1
      fore (inr s) e = absurd (omega (arith, s.below))

      back : Known → all_below N f ≡ true → first_failing_lem N f ≡ N
      back (inl s) e = s.0
      back (inr s) e = let q : true ≡ false = sym (below_at N f e (first_failing_lem N f) s.below) ∙ s.fails in never (cc)

  -- else it is the first that fails
  pub first_failing : all_below N f ≡ false → IsFirstFailing N f (first_failing_lem N f)
  first_failing e = go known
    where
      go : Known → IsFirstFailing N f (first_failing_lem N f)
      go (inl s) = let q : true ≡ false = sym s.1 ∙ e in never (cc)
      go (inr s) = s
