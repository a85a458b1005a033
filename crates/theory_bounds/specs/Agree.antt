-- Two tables with the same distances between the points of n variables have the same model, bounds, groups and first bad point.
-- So what is read off the stored table is what the definitions say of the distances themselves.
use Rattle.std.specs.Prelude.{◌≡◌, cond, ◌&&◌, ℕ, ◌*◌, ◌/◌, ◌%◌, ◌<◌, eqb}
use Rattle.std.proofs.Math.Path.{ap, ap₂}
use Rattle.std.proofs.Common.{arith}
use Rattle.integers.specs.Sequence.{tabulate, tabulate_cong}
use Rattle.steps.specs.Point.{point, opposite}
use Rattle.theory_walks.specs.Distance.{Distance, min_d, ◌⊞◌, half_d}
use Rattle.theory_bounds.specs.Points.{plus_below, minus_below, opposite_below}
use Rattle.theory_bounds.specs.Tight.{Table, halves, tight}
use Rattle.theory_bounds.specs.Range.{model_same}
use Rattle.theory_bounds.specs.Table.{table_model}
use Rattle.theory_bounds.specs.Answers.{least_of, greatest_of, bound_at, not_above0, same_points_lem, group_at_lem}
use Rattle.integers.specs.Lowest.{lowest_cong}

-- the same distances between the points below N
abbrev pub Agree : ℕ → Table → Table → Type 0
Agree N D E = (u v : ℕ) → u < N → v < N → D u v ≡ E u v

-- groups are made of the points that are the same
pub groups_by_points : (n : ℕ) (D E : Table) → ((p q : ℕ) → p < 2 * n → q < 2 * n → same_points_lem D p q ≡ same_points_lem E p q)
    → tabulate (2 * n) (group_at_lem D) ≡ tabulate (2 * n) (group_at_lem E)
groups_by_points n D E same = tabulate_cong (2 * n) (group_at_lem D) (group_at_lem E) at
  where
    at : (i : ℕ) → i < 2 * n → group_at_lem D i ≡ group_at_lem E i
    at i h =
        let x = i / 2 in
        ap (λ (p : ℕ). cond (eqb (i % 2) 0) (p / 2) (p % 2))
        (lowest_cong (same_points_lem D (2 * x)) (same_points_lem E (2 * x)) 0 (2 * x) (λ q l. same (2 * x) q (omega arith) (omega arith)))

module _ (n : ℕ) (D E : Table) (same : Agree (2 * n) D E) where
  pub halves_same : (p : ℕ) → p < 2 * n → halves D p ≡ halves E p
  unfolding halves
  halves_same p h = ap half_d (same p (opposite p) h (opposite_below n p h))

  pub tight_same : (i j : ℕ) → i < 2 * n → j < 2 * n → tight D i j ≡ tight E i j
  unfolding tight
  tight_same i j h k = ap₂ min_d (same i j h k) (ap₂ (λ (a b : Distance). a ⊞ b) (halves_same i h) (halves_same (opposite j) (opposite_below n j k)))

  pub table_model_same : (x : ℕ) → table_model n D x ≡ table_model n E x
  unfolding table_model
  table_model_same = model_same n (tight D) (tight E) (halves D) (halves E) tight_same halves_same n (omega arith)

  bound_same : (i : ℕ) → i < 2 * n → bound_at D i ≡ bound_at E i
  bound_same i h =
      ap₂ (λ (a b : Distance). cond (eqb (i % 2) 0) (least_of a) (greatest_of b))
      (halves_same (point (i / 2) 1) (minus_below n (i / 2) (omega arith)))
      (halves_same (point (i / 2) 0) (plus_below n (i / 2) (omega arith)))

  pub bounds_same : tabulate (2 * n) (bound_at D) ≡ tabulate (2 * n) (bound_at E)
  bounds_same = tabulate_cong (2 * n) (bound_at D) (bound_at E) bound_same

  points_same : (p q : ℕ) → p < 2 * n → q < 2 * n → same_points_lem D p q ≡ same_points_lem E p q
  points_same p q h k = ap₂ (λ (a b : Distance). not_above0 a && not_above0 b) (tight_same p q h k) (tight_same q p k h)

  pub groups_same : tabulate (2 * n) (group_at_lem D) ≡ tabulate (2 * n) (group_at_lem E)
  groups_same = groups_by_points n D E points_same
