-- The step put in only where it leads on a shorter way: a point that is as near to the step's end as along the step gets no shorter distance to any
-- point, and one that is as near from the step's start gets none from any. So the rows and the columns of these points can be left alone.
use Rattle.std.specs.Prelude.{◌≡◌, refl, Bool, true, false, cond, ◌||◌, List, ℕ, ◌<◌, ℤ, ◌+ℤ◌}
use Rattle.std.proofs.Common.{sym, ap₂, ◌∙◌, ⊎_elim, arith}
use Rattle.std.specs.Int.Signed.{le_z}
use Rattle.integers.specs.Integer.{◌⩽◌}
use Rattle.integers.proofs.Linear.{ints}
use Rattle.integers.specs.Laws.{never}
use Rattle.steps.specs.declared.Step.{Step}
use Rattle.theory_walks.specs.Distance.{Distance, none, some, ◌⊑◌, ◌⊕◌, Up, some_le, le_none, min_left, ⊑_anti, up_mono, up_plus, up_of_le, up_min_e, le_of_up}
use Rattle.theory_walks.specs.Row.{WithinPoints, best}
use Rattle.theory_walks.specs.Least.{NoneNegative, best_triangle}
use Rattle.theory_bounds.specs.Tight.{Table}
use Rattle.theory_bounds.specs.Agree.{Agree}
use Rattle.theory_inserting.specs.Insert.{through, inserted, up_add, up_through_e}
use Rattle.theory_inserting.specs.Two.{inserted_same}

-- ---- definitions
-- whether a distance is at most another
abbrev pub is_at_most : Distance → Distance → Bool
is_at_most a none = true
is_at_most none (some b) = false
is_at_most (some a) (some b) = le_z a b

-- whether the step's start is as near to j as the way along the step
abbrev pub start_as_near : Table → Step → ℕ → Bool
start_as_near D s j = is_at_most (D s.from j) (D s.to j ⊕ s.weight)

-- whether i is as near to the step's end as the way along the step
abbrev pub end_as_near : Table → Step → ℕ → Bool
end_as_near D s i = is_at_most (D i s.to) (D i s.from ⊕ s.weight)

-- the step put in where it leads to j on a shorter way, for all i at once, and from i on a shorter way, for all j at once
abbrev pub inserted_where : Table → Step → Table
inserted_where D s i j = cond (start_as_near D s j || end_as_near D s i) (D i j) (inserted D s i j)

-- ---- the distances of E, which has no closed walk of negative sum
at_most_le : (a b : Distance) → is_at_most a b ≡ true → a ⊑ b
at_most_le a none e = le_none a
at_most_le none (some b) e = never (cc)
at_most_le (some a) (some b) e = some_le (yes_le a b e)
  where
    yes_le : (a b : ℤ) → le_z a b ≡ true → a ⩽ b
    yes_le a b = simp ints (omega arith)

module _ (E : List Step) (N : ℕ) (within : WithinPoints N E) (nonneg : NoneNegative E N) (s : Step) where
  abbrev D : Table
  D = best E N

  chain : (i j k : ℕ) {x y : ℤ} → Up (D i j) x → Up (D j k) y → Up (D i k) (x +ℤ y)
  chain i j k u v = up_of_le (best_triangle E N within nonneg i j k) _ (up_plus u v)

  -- the step changes no distance that is at most the way along it
  same_where : (i j : ℕ) → ((x y : ℤ) → Up (D i s.from) x → Up (D s.to j) y → Up (D i j) (x +ℤ s.weight +ℤ y)) → D i j ≡ inserted D s i j
  same_where i j way =
      sym (⊑_anti (min_left (D i j) (through D s i j)) (le_of_up _ _ (λ z u. ⊎_elim (λ v. v) (λ v. by_step z v) (up_min_e (D i j) (through D s i j) z u))))
    where
      by_step : (z : ℤ) → Up (through D s i j) z → Up (D i j) z
      by_step z v = let e = up_through_e D s i j z v in up_mono (way e.0 e.1 e.2 e.3) e.4

  -- where the start is as near to j as along the step, the step changes no distance to j
  to_same : (i j : ℕ) → start_as_near D s j ≡ true → D i j ≡ inserted D s i j
  to_same i j near = same_where i j (λ x y u v. up_mono (chain i s.from j u (own y v)) (sum x s.weight y))
    where
      own : (y : ℤ) → Up (D s.to j) y → Up (D s.from j) (y +ℤ s.weight)
      own y v = up_of_le (at_most_le (D s.from j) (D s.to j ⊕ s.weight) near) _ (up_add s.weight v)

      sum : (x w y : ℤ) → x +ℤ (y +ℤ w) ⩽ x +ℤ w +ℤ y
      sum x w y = simp ints (omega arith)

  -- where i is as near to the end as along the step, the step changes no distance from i
  from_same : (i j : ℕ) → end_as_near D s i ≡ true → D i j ≡ inserted D s i j
  from_same i j near = same_where i j (λ x y u v. chain i s.to j (own x u) v)
    where
      own : (x : ℤ) → Up (D i s.from) x → Up (D i s.to) (x +ℤ s.weight)
      own x u = up_of_le (at_most_le (D i s.to) (D i s.from ⊕ s.weight) near) _ (up_add s.weight u)

  pub where_inserted : (i j : ℕ) → inserted_where D s i j ≡ inserted D s i j
  where_inserted i j = go (start_as_near D s j) (end_as_near D s i) refl refl
    where
      go : (a b : Bool) → start_as_near D s j ≡ a → end_as_near D s i ≡ b → cond (a || b) (D i j) (inserted D s i j) ≡ inserted D s i j
      go true b e f = to_same i j e
      go false true e f = from_same i j f
      go false false e f = refl

-- ---- tables that agree below N
module _ (N : ℕ) (D D' : Table) (same : Agree N D D') where
  pub start_same : (s : Step) → s.from < N → s.to < N → (j : ℕ) → j < N → start_as_near D s j ≡ start_as_near D' s j
  start_same s h k j hj = ap₂ (λ (a b : Distance). is_at_most a (b ⊕ s.weight)) (same s.from j h hj) (same s.to j k hj)

  pub end_same : (s : Step) → s.from < N → s.to < N → (i : ℕ) → i < N → end_as_near D s i ≡ end_as_near D' s i
  end_same s h k i hi = ap₂ (λ (a b : Distance). is_at_most a (b ⊕ s.weight)) (same i s.to hi k) (same i s.from hi h)

  pub where_same : (s : Step) → s.from < N → s.to < N → Agree N (inserted_where D s) (inserted_where D' s)
  where_same s h k i j hi hj =
      ap₂ (λ (a b : Bool). cond (a || b) (D i j) (inserted D s i j)) (start_same s h k j hj) (end_same s h k i hi)
      ∙ ap₂ (cond (start_as_near D' s j || end_as_near D' s i)) (same i j hi hj) (inserted_same N D D' same s h k i j hi hj)
