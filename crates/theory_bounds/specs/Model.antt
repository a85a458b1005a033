-- The model: variables in number order, each the possible value nearest zero, given those before. It is the one such solution, and the values
-- that a variable may take are consecutive.
use Rattle.std.specs.Prelude.{◌≡◌, refl, ◌∷◌, ℤ, pos, neg_ℤ, nat_abs}
use Rattle.std.proofs.Math.Path.{sym}
use Rattle.std.proofs.Common.{◌∙◌, ap, inl, inr}
use Prim.Native.Nat.{ℕ, zero, suc, ◌≤◌, ◌<◌}
use native.Mathlib.Omega.{arith}
use Rattle.std.proofs.Math.Decide.{ℕ_discrete}
use Rattle.integers.specs.Integer.{◌⩽◌}
use Rattle.integers.proofs.Linear.{ints}
use Rattle.lines.specs.Line.{Assignment}
use Rattle.steps.specs.Point.{point, value}
use Rattle.steps.proofs.PointLaws.{value_plus, value_minus}
use Rattle.theory_walks.specs.Distance.{Distance, Below, le_trans, up_eq}
use Rattle.theory_bounds.specs.Points.{variable_of, variable_plus, variable_minus, assign, assign_same, assign_other}
use Rattle.theory_bounds.specs.Tight.{Table, Strong}
use Rattle.theory_bounds.specs.Near.{near_least, near_unique}
use Rattle.theory_bounds.specs.Extend.{Among, below, below_lt, lt_below, Fits, fits_part, fits_none, limit, limit_reason, reason_limit, limit_cong, pick, place, place_pick, within, extend}

-- the model of the variables below k; 0 for the others
unfoldable pub model : Table → (ℕ → Distance) → ℕ → Assignment
model T h zero x = pos 0
model T h (suc k) x = assign (model T h k) k (pick T h (model T h k) (below k) k) x

-- m is a solution, and no solution that agrees with it before k has a value nearer zero at k
pub record Nearest (T : Table) (n : ℕ) (m : Assignment) : Type 0 where
  pub fit : Fits T (below n) m
  pub nearest : (k : ℕ) → k < n → (s : Assignment) → Fits T (below n) s → ((x : ℕ) → x < k → s x ≡ m x) → nat_abs (m k) ≤ nat_abs (s k)

module _ (T : Table) (h : ℕ → Distance) (c : Strong T h) where
  pub model_fits : (k : ℕ) → Fits T (below k) (model T h k)
  unfolding model
  model_fits zero = fits_none T (model T h zero)
  model_fits (suc k) = place_pick T h c (below k) (model T h k) (model_fits k) k (λ i. out k (below_lt k k i))
    where
      out : (k : ℕ) → k < k → ⊥
      out k l = omega arith

  -- ---- a value once chosen stays
  model_keeps : (k x : ℕ) → x < k → model T h (suc k) x ≡ model T h k x
  unfolding model
  model_keeps k x l = assign_other (model T h k) k _ x (λ e. omega arith)

  model_stays : (k x : ℕ) → x < k → model T h k x ≡ model T h (suc x) x
  model_stays zero x l = absurd (omega arith)
  model_stays (suc k) x l = go (model_stays k x) (ℕ_discrete x k)
    where
      go : (x < k → model T h k x ≡ model T h (suc x) x) → Dec (x ≡ k) → model T h (suc k) x ≡ model T h (suc x) x
      go r (yes e) = ap (λ y. model T h (suc y) x) (sym e)
      go r (no e) = model_keeps k x (omega arith) ∙ r (omega arith)

  model_prefix : (n k x : ℕ) → x < k → k < n → model T h n x ≡ model T h k x
  model_prefix n k x l m = model_stays n x (omega arith) ∙ sym (model_stays k x l)

  model_picks : (n k : ℕ) → k < n → model T h n k ≡ pick T h (model T h k) (below k) k
  unfolding model
  model_picks n k l = model_stays n k l ∙ assign_same (model T h k) k (pick T h (model T h k) (below k) k)

  -- ---- a solution's value at k is among those that the model chose from
  module _ (n : ℕ) (s : Assignment) (f : Fits T (below n) s) (k : ℕ) (l : k < n) where
    possible : (p : ℕ) → variable_of p ≡ k → (t : Assignment) → ((x : ℕ) → x < k → s x ≡ t x) → Below (value s p) (limit T h t (below k) p)
    possible p e t g = λ a u.
        within T h c (below k) s f (λ x i. lt_below x n (omega (arith, below_lt x k i))) p (lt_below (variable_of p) n (omega arith)) a
        (limit_reason T h s (below k) p a (up_eq (sym (limit_cong T h s t (below k) p (λ x i. g x (below_lt x k i)))) u))

    upper : (t : Assignment) → ((x : ℕ) → x < k → s x ≡ t x) → Below (s k) (limit T h t (below k) (point k 0))
    upper t g = λ a u. rw (value_plus s k) at (possible (point k 0) (variable_plus k) t g a u)

    lower : (t : Assignment) → ((x : ℕ) → x < k → s x ≡ t x) → Below (neg_ℤ (s k)) (limit T h t (below k) (point k 1))
    lower t g = λ a u. rw (value_minus s k) at (possible (point k 1) (variable_minus k) t g a u)

    pub model_nearest : ((x : ℕ) → x < k → s x ≡ model T h n x) → nat_abs (model T h n k) ≤ nat_abs (s k)
    unfolding pick
    model_nearest g =
        let g' : (x : ℕ) → x < k → s x ≡ model T h k x = λ x m. g x m ∙ model_prefix n k x m l in
        rw (model_picks n k l) (near_least _ _ (s k) (upper (model T h k) g') (lower (model T h k) g'))

    model_only : ((x : ℕ) → x < k → s x ≡ model T h n x) → nat_abs (s k) ≤ nat_abs (model T h n k) → s k ≡ model T h n k
    unfolding pick
    model_only g m =
        let g' : (x : ℕ) → x < k → s x ≡ model T h k x = λ x m. g x m ∙ model_prefix n k x m l in
        near_unique _ _ (s k) (upper (model T h k) g') (lower (model T h k) g') (rw (model_picks n k l) at m) ∙ sym (model_picks n k l)

  pub model_is_nearest : (n : ℕ) → Nearest T n (model T h n)
  model_is_nearest n = record { fit = model_fits n; nearest = λ k l s f g. model_nearest n s f k l g }

  -- ---- no other solution is nearest
  unique_below : (n : ℕ) (m : Assignment) → Nearest T n m → (k : ℕ) → k ≤ n → (x : ℕ) → x < k → m x ≡ model T h n x
  unique_below n m w zero l x i = absurd (omega arith)
  unique_below n m w (suc k) l x i = go (unique_below n m w k (omega arith)) (ℕ_discrete x k)
    where
      go : ((x : ℕ) → x < k → m x ≡ model T h n x) → Dec (x ≡ k) → m x ≡ model T h n x
      go r (no e) = r x (omega arith)
      go r (yes e) =
          ap m e
          ∙ model_only n m w.fit k l r (w.nearest k l (model T h n) (model_fits n) (λ y j. sym (r y j)))
          ∙ ap (model T h n) (sym e)

  pub unique : (n : ℕ) (m : Assignment) → Nearest T n m → (x : ℕ) → x < n → m x ≡ model T h n x
  unique n m w x l = unique_below n m w n (omega arith) x l

  -- ---- what lies between two possible values of k is possible
  pub between : (n k : ℕ) (l : k < n) (s t : Assignment) → Fits T (below n) s → Fits T (below n) t → ((x : ℕ) → x < k → t x ≡ s x)
      → (v : ℤ) → s k ⩽ v → v ⩽ t k → (r : Assignment) × Fits T (below n) r × ((x : ℕ) → x < k → r x ≡ s x) × (r k ≡ v)
  between n k l s t f g e v lo hi =
      (w.0, w.1, (λ x m. w.2 x (inr (lt_below x k m)) ∙ assign_other s k v x (λ q. omega arith)), w.2 k (inl refl) ∙ assign_same s k v)
    where
      flip : (a b c : ℤ) → a ⩽ b → neg_ℤ a ⩽ c → neg_ℤ b ⩽ c
      flip a b c = simp ints (omega arith)

      before : Fits T (below k) s
      before = fits_part (below k) f (λ x i. lt_below x n (omega (arith, below_lt x k i)))

      placed : Fits T (k ∷ below k) (assign s k v)
      placed =
          place T h c (below k) s before k (λ i. absurd (omega (arith, below_lt k k i))) v
          (λ a m. le_trans hi (upper n t g k l s e a (reason_limit m)))
          (λ a m. flip (s k) v a lo (lower n s f k l s (λ x m. refl) a (reason_limit m)))

      w : (r : Assignment) × Fits T (below n) r × ((x : ℕ) → Among x (k ∷ below k) → r x ≡ assign s k v x)
      w = extend T h c n (k ∷ below k) (assign s k v) placed
