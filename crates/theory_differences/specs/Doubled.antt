-- What is read off a doubled table, by the table of variables alone: no half, so that nothing is tightened and no variable has a bound; groups by plus
-- points only; and the value of a variable by its distances from and to those before.
use Rattle.std.specs.Prelude.{◌≡◌, refl, Bool, false, cond, ◌&&◌, ℕ, zero, suc, ◌+◌, ◌*◌, ◌/◌, ◌%◌, eqb, ℤ, neg_ℤ}
use Rattle.std.proofs.Math.Path.{ap, ap₂}
use Rattle.std.proofs.Common.{◌∙◌, arith}
use Rattle.std.proofs.Math.Bool.{true}
use mathlib.Core.List.{List, [], ◌∷◌}
use Rattle.integers.specs.Lowest.{lowest}
use Rattle.lines.specs.Limits.{absent_least, absent_greatest}
use Rattle.lines.specs.Line.{Assignment}
use Rattle.steps.specs.Point.{point, opposite}
use Rattle.theory_walks.specs.Distance.{Distance, none, some, min_d, ◌⊞◌, half_d}
use Rattle.theory_bounds.specs.Tight.{Table, halves, tight}
use Rattle.theory_bounds.specs.Near.{near}
use Rattle.theory_bounds.specs.Extend.{below, limit, pick}
use Rattle.theory_bounds.specs.Answers.{greatest_of, least_of, bound_at, not_above0, same_points_lem, group_point_lem}
use Rattle.theory_differences.specs.Distances.{doubled, doubled_plus, doubled_minus, doubled_apart}

min_none : (d : Distance) → min_d d none ≡ d
min_none none = refl
min_none (some z) = refl

-- the number of an absent bound: of a least for an even i, of a greatest for an odd one
abbrev pub absent_at : ℕ → ℤ
absent_at i = cond (eqb (i % 2) 0) absent_least absent_greatest

-- neither distance between two variables is above 0
abbrev pub plain_same : Table → ℕ → ℕ → Bool
plain_same D x r = not_above0 (D x r) && not_above0 (D r x)

-- the lowest variable that so has the value of x, x itself at the latest
abbrev pub plain_group : Table → ℕ → ℕ
plain_group D x = lowest (plain_same D x) 0 x

-- The smallest of row j + s j over some variables j; none if there are none. The upper limit of k has the distances from it, its lower limit, negated, those
-- to it.
unfoldable pub plain_limit : (ℕ → Distance) → Assignment → List ℕ → Distance
plain_limit row s [] = none
plain_limit row s (j ∷ js) = min_d (plain_limit row s js) (row j ⊞ some (s j))

-- the distances and the values that a limit goes by: the upper one of k, or the lower one
abbrev pub limit_row : Bool → Table → ℕ → ℕ → Distance
limit_row upper D k j = cond upper (D k j) (D j k)

abbrev pub turned : Bool → ℤ → ℤ
turned upper v = cond upper v (neg_ℤ v)

abbrev pub limit_value : Bool → Assignment → Assignment
limit_value upper s j = turned upper (s j)

abbrev pub limit_by_lem : Bool → Table → Assignment → ℕ → Distance
limit_by_lem upper D s k = plain_limit (limit_row upper D k) (limit_value upper s) (below k)

-- the lowest number that passes a test, where of the numbers 2r + 1 none does
lowest_even : (f g : ℕ → Bool) → ((r : ℕ) → f (2 * r) ≡ g r) → ((r : ℕ) → f (2 * r + 1) ≡ false) → (i k : ℕ) → lowest f (2 * i) (2 * k) ≡ 2 * lowest g i k
lowest_even f g e o i zero = refl
lowest_even f g e o i (suc k) =
    let twice : 2 * suc k ≡ suc (suc (2 * k)) = omega arith in
    ap (lowest f (2 * i)) twice ∙ go (f (2 * i)) (g i) (e i) (lowest_even f g e o (suc i) k)
  where
    odd : f (suc (2 * i)) ≡ false
    odd = let h : suc (2 * i) ≡ 2 * i + 1 = omega arith in ap f h ∙ o i

    next : lowest f (suc (suc (2 * i))) (2 * k) ≡ lowest f (2 * suc i) (2 * k)
    next = let h : suc (suc (2 * i)) ≡ 2 * suc i = omega arith in ap (λ (j : ℕ). lowest f j (2 * k)) h

    past : lowest f (suc (2 * i)) (suc (2 * k)) ≡ lowest f (suc (suc (2 * i))) (2 * k)
    past = ap (λ (t : Bool). elim t [ true ↦ suc (2 * i) | false ↦ lowest f (suc (suc (2 * i))) (2 * k) ]) odd

    go : (a b : Bool) → a ≡ b → lowest f (2 * suc i) (2 * k) ≡ 2 * lowest g (suc i) k
        → ◌≡◌ {A = ℕ} (elim a [ true ↦ 2 * i | false ↦ lowest f (suc (2 * i)) (suc (2 * k)) ]) (2 * (elim b [ true ↦ i | false ↦ lowest g (suc i) k ]))
    go true true p q = refl
    go false false p q = past ∙ next ∙ q
    go true false p q = let z : ◌≡◌ {A = ℕ} 0 1 = cc in absurd (omega arith)
    go false true p q = let z : ◌≡◌ {A = ℕ} 0 1 = cc in absurd (omega arith)

module _ (D : Table) where
  pub doubled_half : (p : ℕ) → halves (doubled D) p ≡ none
  unfolding halves opposite
  doubled_half p = ap half_d (doubled_apart D p (opposite p) (λ e. omega (arith, e)))

  doubled_tight : (p q : ℕ) → tight (doubled D) p q ≡ doubled D p q
  unfolding tight
  doubled_tight p q = rw (doubled_half p) (min_none (doubled D p q))

  -- ---- bounds
  pub doubled_bound : (i : ℕ) → bound_at (doubled D) i ≡ absent_at i
  doubled_bound i =
      ap₂ (λ (a b : Distance). cond (eqb (i % 2) 0) (least_of a) (greatest_of b)) (doubled_half (point (i / 2) 1)) (doubled_half (point (i / 2) 0))

  -- ---- groups
  same_plus : (x r : ℕ) → same_points_lem (doubled D) (2 * x) (2 * r) ≡ plain_same D x r
  same_plus x r = ap₂ (λ (a b : Distance). not_above0 a && not_above0 b) (at x r) (at r x)
    where
      at : (x y : ℕ) → tight (doubled D) (2 * x) (2 * y) ≡ D x y
      at x y =
          let a : 2 * x ≡ point x 0 = omega arith in
          let b : 2 * y ≡ point y 0 = omega arith in
          doubled_tight (2 * x) (2 * y) ∙ ap₂ (doubled D) a b ∙ doubled_plus D x y

  same_minus : (x r : ℕ) → same_points_lem (doubled D) (2 * x) (2 * r + 1) ≡ false
  same_minus x r = ap (λ (d : Distance). not_above0 d && not_above0 (tight (doubled D) (2 * r + 1) (2 * x))) (doubled_tight (2 * x) (2 * r + 1) ∙ doubled_apart D (2 * x) (2 * r + 1) (λ e. omega (arith, e)))

  pub doubled_group : (x : ℕ) → group_point_lem (doubled D) x ≡ 2 * plain_group D x
  doubled_group x = lowest_even (same_points_lem (doubled D) (2 * x)) (plain_same D x) (same_plus x) (same_minus x) 0 x

  -- ---- the model
  module _ (s : Assignment) where
    at_plus : (k j : ℕ) → (tight (doubled D) (point k 0) (point j 0) ≡ D k j) × (tight (doubled D) (point k 0) (point j 1) ≡ none)
    at_plus k j = (
      doubled_tight (point k 0) (point j 0) ∙ doubled_plus D k j,
      doubled_tight (point k 0) (point j 1) ∙ doubled_apart D (point k 0) (point j 1) (λ e. omega (arith, e)),
    )

    at_minus : (k j : ℕ) → (tight (doubled D) (point k 1) (point j 0) ≡ none) × (tight (doubled D) (point k 1) (point j 1) ≡ D j k)
    at_minus k j = (
      doubled_tight (point k 1) (point j 0) ∙ doubled_apart D (point k 1) (point j 0) (λ e. omega (arith, e)),
      doubled_tight (point k 1) (point j 1) ∙ doubled_minus D k j,
    )

    limit_plus : (js : List ℕ) (k : ℕ) → limit (tight (doubled D)) (halves (doubled D)) s js (point k 0) ≡ plain_limit (limit_row true D k) (limit_value true s) js
    unfolding limit plain_limit
    limit_plus [] k = doubled_half (point k 0)
    limit_plus (j ∷ js) k = rw (limit_plus js k, (at_plus k j).0, (at_plus k j).1) (ap (min_d (plain_limit (limit_row true D k) (limit_value true s) js)) (min_none (D k j ⊞ some (s j))))

    limit_minus : (js : List ℕ) (k : ℕ) → limit (tight (doubled D)) (halves (doubled D)) s js (point k 1) ≡ plain_limit (limit_row false D k) (limit_value false s) js
    unfolding limit plain_limit
    limit_minus [] k = doubled_half (point k 1)
    limit_minus (j ∷ js) k = rw (limit_minus js k, (at_minus k j).0, (at_minus k j).1)

    -- the value of the next variable
    pub doubled_pick : (k : ℕ) → pick (tight (doubled D)) (halves (doubled D)) s (below k) k ≡ near (limit_by_lem true D s k) (limit_by_lem false D s k)
    unfolding pick
    doubled_pick k = ap₂ near (limit_plus (below k) k) (limit_minus (below k) k)
