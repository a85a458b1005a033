-- Two tables with the same distances have the same points whose halves contradict each other.
use Rattle.std.specs.Prelude.{◌≡◌, refl, Bool, ◌&&◌, ℕ, zero, suc, ◌*◌, ◌<◌}
use Rattle.std.proofs.Math.Path.{ap₂}
use Rattle.std.proofs.Common.{arith}
use Rattle.integers.specs.Table.{all_below}
use Rattle.steps.specs.Point.{opposite}
use Rattle.theory_walks.specs.Distance.{Distance, ◌⊞◌, half_d}
use Rattle.theory_walks.specs.Negative.{not_below0}
use Rattle.theory_bounds.specs.Points.{opposite_below}
use Rattle.theory_bounds.specs.Tight.{Table}
use Rattle.theory_bounds.specs.Verdict.{halves_ok_lem}
use Rattle.theory_bounds.specs.Agree.{Agree}

module _ (n : ℕ) (D E : Table) (same : Agree (2 * n) D E) where
  pub ok_same : (p : ℕ) → p < 2 * n → halves_ok_lem D p ≡ halves_ok_lem E p
  ok_same p h =
      let l = opposite_below n p h in
      ap₂ (λ (a b : Distance). not_below0 (half_d a ⊞ half_d b)) (same p (opposite p) h l) (same (opposite p) p l h)

  pub all_ok_same : all_below (2 * n) (halves_ok_lem D) ≡ all_below (2 * n) (halves_ok_lem E)
  all_ok_same = go (2 * n) ok_same
    where
      go : (k : ℕ) → ((p : ℕ) → p < k → halves_ok_lem D p ≡ halves_ok_lem E p) → all_below k (halves_ok_lem D) ≡ all_below k (halves_ok_lem E)
      go zero e = refl
      go (suc k) e = ap₂ (λ (a b : Bool). a && b) (e k (omega arith)) (go k (λ p h. e p (omega arith)))
