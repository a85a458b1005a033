-- The four numbers as they are read off the stored table: a tightened distance from a distance and two halves, and the pair of the list itself.
use Rattle.std.specs.Prelude.{◌≡◌, List, [], ◌∷◌, ℕ, ◌*◌, ◌<◌, ◌≤◌, ℤ}
use Rattle.std.proofs.Common.{sym, ap₂, ◌∙◌}
use Rattle.std.proofs.Math.Path.{ap}
use Rattle.lines.specs.Limits.{max_variables}
use Rattle.lines.specs.Line.{lines_of}
use Rattle.lines.specs.Valid.{LinesOk}
use Rattle.steps.specs.Point.{point, opposite, opposite_twice}
use Rattle.theory_walks.specs.Distance.{Distance, min_d, ◌⊞◌}
use Rattle.theory_bounds.specs.Points.{plus_below, minus_below, opposite_below}
use Rattle.theory_bounds.specs.Tight.{Table, halves, tight}
use Rattle.theory_bounds.specs.Answers.{greatest_of}
use Rattle.theory_bounds.specs.Agree.{Agree, tight_same}
use Rattle.theory_bounds.specs.Verdict.{distances}
use Rattle.decide_rows.specs.Stored.{stored}
use Rattle.decide_rows.specs.Read.{distance_of, Short, max_distance}
use Rattle.decide_stored_table.specs.Table.{table_of, ShortTable, halves_short, half_back, entry_back}
use Rattle.decide_yes.specs.Table.{table_for, agree}
use Rattle.implied_pair.specs.declared.Pair.{Pair}
use Rattle.implied_pair.specs.Pair.{pair_row, pair_in_lem}

-- ---- one number
module _ (n : ℕ) (t : List ℤ) (ok : ShortTable n t) where
  abbrev D : Table
  D = table_of (2 * n) t

  pub half_ready : (p : ℕ) → p < 2 * n → (z : ℤ) → z ≡ stored (halves (table_of (2 * n) t) p) → Short max_distance (distance_of z)
  half_ready p h z e = rw (half_back n t ok p h z e) (halves_short n t ok p h)

  -- a distance from p to the opposite of q, and the halves of both
  pub sum_read : (p q : ℕ) → p < 2 * n → q < 2 * n → (d x y : ℤ)
      → d ≡ stored (table_of (2 * n) t p (opposite q)) → x ≡ stored (halves (table_of (2 * n) t) p) → y ≡ stored (halves (table_of (2 * n) t) q)
      → stored (min_d (distance_of d) (distance_of x ⊞ distance_of y)) ≡ stored (tight (table_of (2 * n) t) p (opposite q))
  unfolding tight
  sum_read p q hp hq d x y ed ex ey =
      ap stored
      (ap₂ min_d (entry_back (2 * n) t p (opposite q) d ed) (ap₂ (λ (a b : Distance). a ⊞ b) (half_back n t ok p hp x ex) (half_back n t ok q hq y ey))
      ∙ ap (λ (r : ℕ). min_d (D p (opposite q)) (halves D p ⊞ halves D r)) (sym (opposite_twice q)))

-- ---- two tables with the same distances between the points of n variables have the same pair
module _ (n : ℕ) (D E : Table) (same : Agree (2 * n) D E) where
  row_same : (p y : ℕ) → p < 2 * n → y < n → pair_row D p y ≡ pair_row E p y
  row_same p y h k =
      ap₂ (λ (a b : Distance). greatest_of a ∷ greatest_of b ∷ [])
      (tight_same n D E same p (opposite (point y 0)) h (opposite_below n (point y 0) (plus_below n y k)))
      (tight_same n D E same p (opposite (point y 1)) h (opposite_below n (point y 1) (minus_below n y k)))

  pub pair_same : (x y : ℕ) → x < n → y < n → pair_in_lem D x y ≡ pair_in_lem E x y
  pair_same x y h k = ap₂ both (row_same (point x 0) y (plus_below n x h) k) (row_same (point x 1) y (minus_below n x h) k)
    where
      both : List ℤ → List ℤ → Pair
      both v w = record { plus = v; minus = w }

-- ---- the stored table of a list
pub pair_agrees : (n : ℕ) (L : List ℤ) → n ≤ max_variables → LinesOk n L → (x y : ℕ) → x < n → y < n → pair_in_lem (table_of (2 * n) (table_for n L)) x y ≡ pair_in_lem (distances n (lines_of L)) x y
pair_agrees n L few ok x y h k = pair_same n (table_of (2 * n) (table_for n L)) (distances n (lines_of L)) (agree n L few ok) x y h k
