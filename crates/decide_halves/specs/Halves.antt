-- The two halves of a point, and whether they sum below 0, by their stored numbers.
use Rattle.std.specs.Prelude.{◌≡◌, refl, List, ℕ, ◌*◌, ◌<◌, ℤ, pos}
use Rattle.std.proofs.Common.{sym, ap, ap₂, ◌∙◌}
use Rattle.std.specs.Int.Signed.{le_z}
use Rattle.steps.specs.Point.{opposite, opposite_twice}
use Rattle.theory_walks.specs.Distance.{Distance, none, some, ◌⊞◌, half_d}
use Rattle.theory_walks.specs.Negative.{not_below0}
use Rattle.theory_bounds.specs.Points.{opposite_below}
use Rattle.theory_bounds.specs.Tight.{Table, halves}
use Rattle.theory_bounds.specs.Verdict.{halves_ok_lem}
use Rattle.decide_rows.specs.Stored.{stored}
use Rattle.decide_rows.specs.Read.{distance_of}
use Rattle.decide_stored_table.specs.Table.{table_of, ShortTable, half_back}

-- ---- the two halves of a point
ok_is : (D : Table) (p : ℕ) → halves_ok_lem D p ≡ not_below0 (halves D p ⊞ halves D (opposite p))
unfolding halves
ok_is D p = ap (λ (q : ℕ). not_below0 (half_d (D p (opposite p)) ⊞ half_d (D (opposite p) q))) (sym (opposite_twice p))

-- no walk is stored as a number that is not below 0
not_below_is : (d : Distance) → le_z (pos 0) (stored d) ≡ not_below0 d
not_below_is none = refl
not_below_is (some z) = refl

-- the sum of the two halves, as it was stored
module _ (n : ℕ) (t : List ℤ) (ok : ShortTable n t) where
  abbrev D : Table
  D = table_of (2 * n) t

  pub ok_of_sum : (p : ℕ) → p < 2 * n → (x y z : ℤ) → x ≡ stored (halves D p) → y ≡ stored (halves D (opposite p))
      → z ≡ stored (distance_of x ⊞ distance_of y) → le_z (pos 0) z ≡ halves_ok_lem D p
  ok_of_sum p h x y z ex ey ez =
      ap (le_z (pos 0)) (ez ∙ ap₂ (λ (a b : Distance). stored (a ⊞ b)) (half_back n t ok p h x ex) (half_back n t ok (opposite p) (opposite_below n p h) y ey))
      ∙ not_below_is (halves D p ⊞ halves D (opposite p))
      ∙ sym (ok_is D p)
