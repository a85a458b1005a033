-- What the groups tell of two variables: they share a group variable exactly if they are equal or mirrored in every solution, and their signs say which.
use Rattle.std.specs.Prelude.{◌≡◌, refl, ◌⊎◌, ◌↔◌, List, ℕ, zero, suc, ◌<◌, ℤ, pos, neg_ℤ}
use Rattle.std.proofs.Common.{sym, ap, ap₂, ◌∙◌, inl, inr, arith}
use Rattle.std.proofs.Math.Decide.{ℕ_discrete, dec_lt}
use Rattle.std.proofs.Math.IntN.{neg_ℤ-neg_ℤ}
use Rattle.integers.proofs.Linear.{ints}
use Rattle.lines.specs.declared.Line.{Line}
use Rattle.steps.specs.Point.{signed}
use Rattle.theory_answers.specs.Semantics.{Equal, Mirrored, AlwaysZero, Together, IsGroup, group_sign, SameVariable, SameSign, Written}
use Rattle.theory_answers.specs.Unique.{one_group}

-- ---- signs
twice : (s : ℕ) (z : ℤ) → signed s (signed s z) ≡ z
twice zero z = refl
twice (suc s) z = neg_ℤ-neg_ℤ z

-- one sign before another is one sign
joined : (s a : ℕ) → (u : ℕ) × ((z : ℤ) → signed s (signed a z) ≡ signed u z)
joined zero a = (a, λ z. refl)
joined (suc s) zero = (1, λ z. refl)
joined (suc s) (suc a) = (0, λ z. neg_ℤ-neg_ℤ z)

differing : (a b : ℕ) → a < 2 → b < 2 → (a ≡ b → ⊥) → (z : ℤ) → signed a z ≡ neg_ℤ (signed b z)
differing zero zero h k d z = absurd (d refl)
differing zero (suc b) h k d z = sym (neg_ℤ-neg_ℤ z)
differing (suc a) zero h k d z = refl
differing (suc a) (suc b) h k d z = absurd (d (omega arith))

-- a value that is equal to another and mirrors it
first_zero : (v w : ℤ) → v ≡ w → v ≡ neg_ℤ w → v ≡ pos 0
first_zero v w = simp ints (omega arith)

second_zero : (v w : ℤ) → v ≡ w → v ≡ neg_ℤ w → w ≡ pos 0
second_zero v w = simp ints (omega arith)

mirrored_zero : (v w : ℤ) → v ≡ pos 0 → w ≡ pos 0 → v ≡ neg_ℤ w
mirrored_zero v w = simp ints (omega arith)

-- ---- two groups
-- where y is x with a sign, it is the group variable of x with a sign: so its own is no higher
not_higher : (ls : List Line) (x y r q a b s : ℕ) → Together ls y x s → IsGroup ls x r a → IsGroup ls y q b → r < q → ⊥
not_higher ls x y r q a b s f g k h =
    let j = joined s a in
    k.lowest r h j.0 (λ t st. f t st ∙ ap (signed s) (g.together t st) ∙ j.1 (t r))

module _ (ls : List Line) (x y r q a b : ℕ) (g : IsGroup ls x r a) (k : IsGroup ls y q b) where
  one_variable : (s : ℕ) → Together ls x y s → r ≡ q
  one_variable s f = go (dec_lt r q) (dec_lt q r)
    where
      back : Together ls y x s
      back t st = sym (twice s (t y)) ∙ ap (signed s) (sym (f t st))

      go : Dec (r < q) → Dec (q < r) → r ≡ q
      go (yes h) _ = absurd (not_higher ls x y r q a b s back g k h)
      go (no _) (yes h) = absurd (not_higher ls y x q r b a s f k g h)
      go (no h) (no m) = omega arith

  -- equal variables have one entry, since that of x is a group of y
  equal_entries : Equal ls x y → (r ≡ q) × (a ≡ b)
  equal_entries f =
      one_group ls y r q a b
      (record { a_sign = g.a_sign; together = λ t st. sym (f t st) ∙ g.together t st; lowest = λ p l s u. g.lowest p l s (λ t st. f t st ∙ u t st); plus = λ u. g.plus (λ t st. f t st ∙ u t st) })
      k

  entries_equal : r ≡ q → a ≡ b → Equal ls x y
  entries_equal e d t st = g.together t st ∙ ap₂ (λ (s p : ℕ). signed s (t p)) d e ∙ sym (k.together t st)

  entries_mirrored : r ≡ q → (a ≡ b → ⊥) → Mirrored ls x y
  entries_mirrored e d t st = g.together t st ∙ ap (λ (p : ℕ). signed a (t p)) e ∙ differing a b g.a_sign k.a_sign d (t q) ∙ ap neg_ℤ (sym (k.together t st))

  -- mirrored variables have one group variable; with equal signs they are equal too, and so always 0
  mirrored_entries : Mirrored ls x y → ((r ≡ q) × (a ≡ b → ⊥)) ⊎ (AlwaysZero ls x × AlwaysZero ls y)
  mirrored_entries f = go (ℕ_discrete a b)
    where
      e : r ≡ q
      e = one_variable 1 f

      go : Dec (a ≡ b) → ((r ≡ q) × (a ≡ b → ⊥)) ⊎ (AlwaysZero ls x × AlwaysZero ls y)
      go (no d) = inl (e, d)
      go (yes d) = let s = entries_equal e d in inr ((λ t st. first_zero (t x) (t y) (s t st) (f t st)), (λ t st. second_zero (t x) (t y) (s t st) (f t st)))

-- ---- as they are written
module _ (n : ℕ) (ls : List Line) (model bounds : List ℤ) (groups : List ℕ) (w : Written n ls model bounds groups) (x y : ℕ) (h : x < n) (k : y < n) where
  pub equal_exactly : (SameVariable groups x y × SameSign groups x y) ↔ Equal ls x y
  equal_exactly = ((λ e. entries_equal ls x y _ _ _ _ (w.group_is x h) (w.group_is y k) e.0 e.1), (λ f. equal_entries ls x y _ _ _ _ (w.group_is x h) (w.group_is y k) f))

  pub mirrored_exactly : ((SameVariable groups x y × (SameSign groups x y → ⊥)) ⊎ (AlwaysZero ls x × AlwaysZero ls y)) ↔ Mirrored ls x y
  mirrored_exactly = (fore, (λ f. mirrored_entries ls x y _ _ _ _ (w.group_is x h) (w.group_is y k) f))
    where
      fore : (SameVariable groups x y × (SameSign groups x y → ⊥)) ⊎ (AlwaysZero ls x × AlwaysZero ls y) → Mirrored ls x y
      fore (inl e) = entries_mirrored ls x y _ _ _ _ (w.group_is x h) (w.group_is y k) e.0 e.1
      fore (inr z) = λ t st. mirrored_zero (t x) (t y) (z.0 t st) (z.1 t st)

  pub shared_exactly : SameVariable groups x y ↔ (Equal ls x y ⊎ Mirrored ls x y)
  shared_exactly = ((λ e. fore e (ℕ_discrete (group_sign groups x) (group_sign groups y))), back)
    where
      fore : SameVariable groups x y → Dec (SameSign groups x y) → Equal ls x y ⊎ Mirrored ls x y
      fore e (yes d) = inl (equal_exactly.0 (e, d))
      fore e (no d) = inr (mirrored_exactly.0 (inl (e, d)))

      back : Equal ls x y ⊎ Mirrored ls x y → SameVariable groups x y
      back (inl f) = (equal_exactly.1 f).0
      back (inr f) = one_variable ls x y _ _ _ _ (w.group_is x h) (w.group_is y k) 1 f
