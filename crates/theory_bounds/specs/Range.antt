-- Tables that agree below 2n give the same model.
use Rattle.std.specs.Prelude.{◌≡◌}
use Rattle.std.proofs.Math.Path.{refl}
use Rattle.std.proofs.Common.{inl, inr, arith}
use mathlib.Core.List.{List, [], ◌∷◌}
use Prim.Native.Nat.{ℕ, zero, suc, ◌*◌, ◌≤◌, ◌<◌}
use Rattle.lines.specs.Line.{Assignment}
use Rattle.steps.specs.Point.{point}
use Rattle.theory_walks.specs.Distance.{Distance}
use Rattle.theory_bounds.specs.Points.{plus_below, minus_below, assign}
use Rattle.theory_bounds.specs.Tight.{Table}
use Rattle.theory_bounds.specs.Extend.{Among, below, below_lt, limit, pick}
use Rattle.theory_bounds.specs.Model.{model}

module _ (n : ℕ) (T U : Table) (h g : ℕ → Distance)
    (t_same : (i j : ℕ) → i < 2 * n → j < 2 * n → T i j ≡ U i j) (h-same : (i : ℕ) → i < 2 * n → h i ≡ g i) where
  limit_same : (s t : Assignment) → ((x : ℕ) → s x ≡ t x) → (xs : List ℕ) → ((x : ℕ) → Among x xs → x < n) → (p : ℕ) → p < 2 * n → limit T h s xs p ≡ limit U g t xs p
  unfolding limit
  limit_same s t e [] f p l = h-same p l
  limit_same s t e (x ∷ xs) f p l =
      rw (
        limit_same s t e xs (λ y i. f y (inr i)) p l,
        t_same p (point x 0) l (plus_below n x (f x (inl refl))),
        t_same p (point x 1) l (minus_below n x (f x (inl refl))),
        e x,
      )

  pub model_same : (k : ℕ) → k ≤ n → (x : ℕ) → model T h k x ≡ model U g k x
  unfolding model pick assign
  model_same zero l x = refl
  model_same (suc k) l x = go (model_same k (omega arith))
    where
      at : ((y : ℕ) → model T h k y ≡ model U g k y) → (p : ℕ) → p < 2 * n → limit T h (model T h k) (below k) p ≡ limit U g (model U g k) (below k) p
      at e = limit_same (model T h k) (model U g k) e (below k) (λ y i. omega (arith, below_lt y k i))

      go : ((y : ℕ) → model T h k y ≡ model U g k y) → model T h (suc k) x ≡ model U g (suc k) x
      go e = rw (e x, at e (point k 0) (plus_below n k l), at e (point k 1) (minus_below n k l))
