-- The distances of a list of differences: between plus points those of the plain steps, between minus points the same the other way round, and none
-- from one sign to the other: the table of the plain distances, doubled. A closed walk is negative over the points exactly if one is over the variables.
use Rattle.std.specs.Prelude.{◌≡◌, refl, ◌⊎◌, Bool, true, false, cond, List, ℕ, ◌*◌, ◌/◌, ◌%◌, ◌<◌, eqb, ℤ, pos}
use Rattle.std.proofs.Common.{sym, ap, ap₂, subst, ◌∙◌, inl, inr, ⊎_elim, ne_eqb}
use native.Mathlib.Omega.{arith}
use Rattle.integers.specs.Integer.{◌⩽◌}
use Rattle.lines.specs.declared.Line.{Line}
use Rattle.lines.specs.Valid.{AllOk}
use Rattle.steps.specs.declared.Step.{Step}
use Rattle.steps.specs.Point.{point, opposite}
use Rattle.steps.specs.Step.{steps_of}
use Rattle.theory_walks.specs.Distance.{Distance, none, some, ◌⊑◌, some_le, le_none, ⊑_trans, ⊑_of_eq, ⊑_anti}
use Rattle.theory_walks.specs.Row.{best}
use Rattle.theory_walks.specs.Reach.{Walk}
use Rattle.theory_walks.specs.Least.{NoneNegative, best_attained, best_short, best_range, best_least, closed_nonneg}
use Rattle.theory_walks.specs.Mirror.{best_mirror}
use Rattle.theory_walks.specs.Negative.{no_negative, no_negative_yes, no_negative_true}
use Rattle.theory_bounds.specs.Points.{variable_of, which, opposite_plus, opposite_minus}
use Rattle.theory_bounds.specs.Tight.{Table}
use Rattle.theory_bounds.specs.Agree.{Agree}
use Rattle.theory_bounds.specs.Verdict.{distances}
use Rattle.theory_walks.specs.Graph.{ends_points, steps_mirrored}
use Rattle.theory_differences.specs.Plain.{Differences, plain_steps, plain_within}
use Rattle.theory_differences.specs.Walks.{copy_steps, copy_length, copy_total, copy_walk, plain_walk, same_sign}

-- the distance between two variables
abbrev pub plain_distances : ℕ → List Line → ℕ → ℕ → Distance
plain_distances n ls = best (plain_steps ls) n

-- a table of variables as one of points
unfoldable pub doubled : Table → Table
doubled D p q = cond (eqb (p % 2) (q % 2)) (cond (eqb (p % 2) 0) (D (p / 2) (q / 2)) (D (q / 2) (p / 2))) none

module _ (D : Table) (x y : ℕ) where
  pub doubled_plus : doubled D (point x 0) (point y 0) ≡ D x y
  unfolding doubled
  doubled_plus =
      let a : point x 0 % 2 ≡ 0 = omega arith in
      let b : point y 0 % 2 ≡ 0 = omega arith in
      let c : point x 0 / 2 ≡ x = omega arith in
      let d : point y 0 / 2 ≡ y = omega arith in
      rw (a, b, c, d)

  pub doubled_minus : doubled D (point x 1) (point y 1) ≡ D y x
  unfolding doubled
  doubled_minus =
      let a : point x 1 % 2 ≡ 1 = omega arith in
      let b : point y 1 % 2 ≡ 1 = omega arith in
      let c : point x 1 / 2 ≡ x = omega arith in
      let d : point y 1 / 2 ≡ y = omega arith in
      rw (a, b, c, d)

pub doubled_apart : (D : Table) (p q : ℕ) → (p % 2 ≡ q % 2 → ⊥) → doubled D p q ≡ none
unfolding doubled
doubled_apart D p q h = rw (ne_eqb (p % 2) (q % 2) h)

-- two tables with the same distances between n variables, doubled
pub doubled_cong : (n : ℕ) (D F : Table) → ((x y : ℕ) → x < n → y < n → D x y ≡ F x y) → Agree (2 * n) (doubled D) (doubled F)
unfolding doubled
doubled_cong n D F e p q hp hq =
    ap₂ (λ (a b : Distance). cond (eqb (p % 2) (q % 2)) (cond (eqb (p % 2) 0) a b) none) (e (p / 2) (q / 2) (omega arith) (omega arith)) (e (q / 2) (p / 2) (omega arith) (omega arith))

module _ (n : ℕ) (ls : List Line) (ok : AllOk n ls) (ds : Differences ls) where
  abbrev E : List Step
  E = steps_of ls

  abbrev P : List Step
  P = plain_steps ls

  -- ---- closed walks
  pub none_plain : NoneNegative E (2 * n) → NoneNegative P n
  none_plain nn x h = go (best P n x x) refl
    where
      go : (d : Distance) → best P n x x ≡ d → some (pos 0) ⊑ d
      go none e = le_none _
      go (some z) e =
          let r = best_attained P n x x z e in
          let c = closed_nonneg E (2 * n) (ends_points n ls ok) nn (point x 0) (copy_steps r.steps) (copy_walk ls ds x x r.steps r.walk) in
          some_le (subst (λ (y : ℤ). pos 0 ⩽ y) (copy_total r.steps ∙ r.sum) c)

  none_plus : NoneNegative P n → (x : ℕ) → some (pos 0) ⊑ best E (2 * n) (point x 0) (point x 0)
  none_plus nn x = go (best E (2 * n) (point x 0) (point x 0)) refl
    where
      go : (d : Distance) → best E (2 * n) (point x 0) (point x 0) ≡ d → some (pos 0) ⊑ d
      go none e = le_none _
      go (some z) e =
          let r = best_attained E (2 * n) (point x 0) (point x 0) z e in
          let w = plain_walk ls ds x (point x 0) r.steps r.walk in
          let back : w.end ≡ x = omega (arith, w.at_end) in
          let c = closed_nonneg P n (plain_within ls ds n ok) nn x w.steps (subst (λ (k : ℕ). Walk P x w.steps k) back w.walk) in
          some_le (subst (λ (y : ℤ). pos 0 ⩽ y) (w.sum ∙ r.sum) c)

  pub none_steps : NoneNegative P n → NoneNegative E (2 * n)
  none_steps nn u h = ⊎_elim on_plus on_minus (which u)
    where
      on_plus : u ≡ point (variable_of u) 0 → some (pos 0) ⊑ best E (2 * n) u u
      on_plus e = subst (λ (k : ℕ). some (pos 0) ⊑ best E (2 * n) k k) (sym e) (none_plus nn (variable_of u))

      turned : (x : ℕ) → best E (2 * n) (point x 0) (point x 0) ≡ best E (2 * n) (point x 1) (point x 1)
      turned x =
          best_mirror E (2 * n) (ends_points n ls ok) (steps_mirrored n ls ok) (omega arith) (point x 0) (point x 0)
          ∙ ap (λ (k : ℕ). best E (2 * n) k k) (opposite_plus x)

      on_minus : u ≡ point (variable_of u) 1 → some (pos 0) ⊑ best E (2 * n) u u
      on_minus e = subst (λ (k : ℕ). some (pos 0) ⊑ best E (2 * n) k k) (sym e) (⊑_trans (none_plus nn (variable_of u)) (⊑_of_eq (turned (variable_of u))))

  -- the same of the computed tests
  pub no_negative_plain : no_negative E (2 * n) ≡ no_negative P n
  no_negative_plain = go (no_negative E (2 * n)) refl (no_negative P n) refl
    where
      go : (a : Bool) → no_negative E (2 * n) ≡ a → (b : Bool) → no_negative P n ≡ b → a ≡ b
      go true e true f = refl
      go true e false f = sym (no_negative_true P n (none_plain (no_negative_yes E (2 * n) e))) ∙ f
      go false e true f = sym e ∙ no_negative_true E (2 * n) (none_steps (no_negative_yes P n f))
      go false e false f = refl

  -- ---- no walk changes sign
  pub apart : (u v : ℕ) → (u % 2 ≡ v % 2 → ⊥) → best E (2 * n) u v ≡ none
  apart u v h = go (best E (2 * n) u v) refl
    where
      go : (d : Distance) → best E (2 * n) u v ≡ d → d ≡ none
      go none e = refl
      go (some z) e = let r = best_attained E (2 * n) u v z e in absurd (h (same_sign ls ds u v r.steps r.walk))

  pub plus_minus : (x y : ℕ) → best E (2 * n) (point x 0) (point y 1) ≡ none
  plus_minus x y = apart (point x 0) (point y 1) (λ e. omega (arith, e))

  pub minus_plus : (x y : ℕ) → best E (2 * n) (point x 1) (point y 0) ≡ none
  minus_plus x y = apart (point x 1) (point y 0) (λ e. omega (arith, e))

  pub opposites : (u : ℕ) → best E (2 * n) u (opposite u) ≡ none
  unfolding opposite
  opposites u = apart u (opposite u) (λ e. omega (arith, e))

  -- ---- distances. The copy of a plain walk is as short, so that this way round nothing is asked of closed walks.
  pub copied_le : (x y : ℕ) → best E (2 * n) (point x 0) (point y 0) ⊑ best P n x y
  copied_le x y = go (best P n x y) refl
    where
      go : (d : Distance) → best P n x y ≡ d → best E (2 * n) (point x 0) (point y 0) ⊑ d
      go none e = le_none _
      go (some z) e =
          let r = best_attained P n x y z e in
          let h = (best_range P n x y z e).0 in
          ⊑_trans (best_short E (2 * n) (ends_points n ls ok) (point x 0) (point y 0) (omega (arith, h)) (copy_steps r.steps) (copy_walk ls ds x y r.steps r.walk) (omega (arith, copy_length r.steps, r.count)))
          (⊑_of_eq (ap some (copy_total r.steps ∙ r.sum)))

  module _ (nn : NoneNegative P n) where
    plain_le : (x y : ℕ) → best P n x y ⊑ best E (2 * n) (point x 0) (point y 0)
    plain_le x y = go (best E (2 * n) (point x 0) (point y 0)) refl
      where
        go : (d : Distance) → best E (2 * n) (point x 0) (point y 0) ≡ d → best P n x y ⊑ d
        go none e = le_none _
        go (some z) e =
            let r = best_attained E (2 * n) (point x 0) (point y 0) z e in
            let h = (best_range E (2 * n) (point x 0) (point y 0) z e).0 in
            let w = plain_walk ls ds x (point y 0) r.steps r.walk in
            let back : w.end ≡ y = omega (arith, w.at_end) in
            ⊑_trans (best_least P n (plain_within ls ds n ok) nn x y (omega (arith, h)) w.steps (subst (λ (k : ℕ). Walk P x w.steps k) back w.walk))
            (⊑_of_eq (ap some (w.sum ∙ r.sum)))

    -- at all numbers: beyond n there is no distance
    pub plus_plus : (x y : ℕ) → best E (2 * n) (point x 0) (point y 0) ≡ best P n x y
    plus_plus x y = ⊑_anti (copied_le x y) (plain_le x y)

    pub minus_minus : (x y : ℕ) → best E (2 * n) (point x 1) (point y 1) ≡ best P n y x
    minus_minus x y =
        best_mirror E (2 * n) (ends_points n ls ok) (steps_mirrored n ls ok) (omega arith) (point x 1) (point y 1)
        ∙ ap₂ (λ (p q : ℕ). best E (2 * n) p q) (opposite_minus y) (opposite_minus x)
        ∙ plus_plus y x

    -- ---- so the table of all points is the doubled one, and has no half
    pub doubled_agrees : Agree (2 * n) (doubled (plain_distances n ls)) (distances n ls)
    doubled_agrees p q hp hq = go (which p) (which q)
      where
        at : (i j : ℕ) → p ≡ i → q ≡ j → doubled (plain_distances n ls) i j ≡ distances n ls i j → doubled (plain_distances n ls) p q ≡ distances n ls p q
        at i j e f k = rw (e, f) k

        go : (p ≡ point (variable_of p) 0) ⊎ (p ≡ point (variable_of p) 1) → (q ≡ point (variable_of q) 0) ⊎ (q ≡ point (variable_of q) 1) → doubled (plain_distances n ls) p q ≡ distances n ls p q
        go (inl e) (inl f) = at _ _ e f (doubled_plus (plain_distances n ls) (variable_of p) (variable_of q) ∙ sym (plus_plus (variable_of p) (variable_of q)))
        go (inl e) (inr f) = at _ _ e f (doubled_apart (plain_distances n ls) (point (variable_of p) 0) (point (variable_of q) 1) (λ z. omega (arith, z)) ∙ sym (plus_minus (variable_of p) (variable_of q)))
        go (inr e) (inl f) = at _ _ e f (doubled_apart (plain_distances n ls) (point (variable_of p) 1) (point (variable_of q) 0) (λ z. omega (arith, z)) ∙ sym (minus_plus (variable_of p) (variable_of q)))
        go (inr e) (inr f) = at _ _ e f (doubled_minus (plain_distances n ls) (variable_of p) (variable_of q) ∙ sym (minus_minus (variable_of p) (variable_of q)))
