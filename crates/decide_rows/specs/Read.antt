-- Stored numbers read back as distances, and rows whose numbers are small: they are stored and read back without loss.
use Rattle.std.specs.Prelude.{◌≡◌, refl, ◌⊎◌, Bool, true, false, cond, List, [], ◌∷◌, map, ℕ, zero, suc, ◌+◌, ◌*◌, ◌<◌, ◌≤◌, ℤ, pos, ◌+ℤ◌, length, set, replicate}
use Rattle.std.proofs.Common.{sym, ap, ap₂, ◌∙◌, inl, inr, not-suc-le-zero, le_of_suc-le-suc, arith, SFits}
use Rattle.std.specs.Int.Signed.{le_z}
use Rattle.std.specs.Int.{w64}
use Rattle.integers.specs.Integer.{◌⩽◌, ◌⋖◌, min_z, eq_z, Within}
use Rattle.integers.proofs.Linear.{ints, zs, given}
use Rattle.integers.specs.Laws.{eq_eq_z, eq_z_true, ne_eq_z}
use Rattle.lines.specs.Limits.{max_variables}
use Rattle.lines.specs.Line.{number}
use Rattle.steps.specs.declared.Step.{Step}
use Rattle.steps.specs.Step.{max_weight}
use Rattle.theory_walks.specs.Distance.{Distance, none, some, min_d, ◌⊕◌, min_one, ⊕_some}
use Rattle.theory_walks.specs.Row.{at, relax_step, relax_from}
use Rattle.theory_walks.specs.Negative.{not_below0}
use Rattle.theory_walks.specs.Size.{WithinWeights, within_more, within_sum}
use Rattle.decide_rows.specs.Stored.{stored, stored_row}

-- no walk, as a stored number
abbrev pub no_walk_lem : ℤ
no_walk_lem = stored none

unfoldable pub distance_of : ℤ → Distance
distance_of z = cond (eq_z z no_walk_lem) none (some z)

abbrev pub row_of : List ℤ → List Distance
row_of l = map distance_of l

-- an entry that is a number is within ±b
abbrev pub Short : ℕ → Distance → Type 0
Short b d = (z : ℤ) → d ≡ some z → Within b z

abbrev pub AllShort : ℕ → List Distance → Type 0
AllShort b row = (p : ℕ) → Short b (at row p)

-- as many rounds as there are points, each of them by at most the greatest weight
abbrev pub max_distance : ℕ
max_distance = 2 * max_variables * max_weight

-- ---- one number
pub stored_of : (z : ℤ) → stored (distance_of z) ≡ z
unfolding distance_of
stored_of z = go (eq_z z no_walk_lem) refl
  where
    go : (t : Bool) → eq_z z no_walk_lem ≡ t → stored (cond t none (some z)) ≡ z
    go true e = sym (eq_z_true z no_walk_lem e)
    go false e = refl

pub of_none : (z : ℤ) → z ≡ no_walk_lem → distance_of z ≡ none
unfolding distance_of
of_none z e = ap (λ (t : Bool). cond t none (some z)) (eq_eq_z z no_walk_lem e)

pub of_some : (z : ℤ) → (z ≡ no_walk_lem → ⊥) → distance_of z ≡ some z
unfolding distance_of
of_some z n = ap (λ (t : Bool). cond t none (some z)) (ne_eq_z z no_walk_lem n)

-- the number for no walk is above 0, so that the sign of a stored number is that of its distance
pub stored_sign : (z : ℤ) → le_z (pos 0) z ≡ not_below0 (distance_of z)
unfolding distance_of
stored_sign z = go (eq_z z no_walk_lem) refl
  where
    go : (t : Bool) → eq_z z no_walk_lem ≡ t → le_z (pos 0) z ≡ not_below0 (cond t none (some z))
    go true e = ap (le_z (pos 0)) (eq_z_true z no_walk_lem e)
    go false e = refl

-- an entry and a weight: still far from the number that stands for no walk
abbrev pub max_sum : ℕ
max_sum = max_distance + max_weight

not_no_walk : (z : ℤ) → Within max_sum z → z ≡ no_walk_lem → ⊥
not_no_walk z w = given w.high (high z)
  where
    high : (z : ℤ) → z ⩽ pos max_sum → z ≡ no_walk_lem → ⊥
    high z = simp ints (omega arith)

of_stored : (d : Distance) → Short max_sum d → distance_of (stored d) ≡ d
of_stored none s = of_none no_walk_lem refl
of_stored (some z) s = of_some z (not_no_walk z (s z refl))

-- ---- rows
pub stored_row_of : (l : List ℤ) → stored_row (row_of l) ≡ l
stored_row_of [] = refl
stored_row_of (z ∷ l) = ap₂ (λ (x : ℤ) (y : List ℤ). x ∷ y) (stored_of z) (stored_row_of l)

pub row_of_stored : (row : List Distance) → AllShort max_sum row → row_of (stored_row row) ≡ row
row_of_stored [] s = refl
row_of_stored (d ∷ row) s = ap₂ (λ (x : Distance) (y : List Distance). x ∷ y) (of_stored d (s 0)) (row_of_stored row (λ p. s (suc p)))

pub at_row_of : (l : List ℤ) (p : ℕ) → p < length l → at (row_of l) p ≡ distance_of (number l p)
at_row_of [] p h = absurd (not-suc-le-zero h)
at_row_of (z ∷ l) zero h = refl
at_row_of (z ∷ l) (suc p) h = at_row_of l p (le_of_suc-le-suc h)

pub stored_set : (row : List Distance) (i : ℕ) (d : Distance) → stored_row (set row i d) ≡ set (stored_row row) i (stored d)
stored_set [] i d = refl
stored_set (x ∷ row) zero d = refl
stored_set (x ∷ row) (suc i) d = ap (λ (l : List ℤ). stored x ∷ l) (stored_set row i d)

pub stored_replicate : (n : ℕ) (d : Distance) → stored_row (replicate n d) ≡ replicate n (stored d)
stored_replicate zero d = refl
stored_replicate (suc n) d = ap (λ (l : List ℤ). stored d ∷ l) (stored_replicate n d)

-- a row that is read back as it was stored stays so under every step from a row whose numbers are small
abbrev Back : List Distance → Type 0
Back row = row_of (stored_row row) ≡ row

back_at : (row : List Distance) (p : ℕ) → Back row → distance_of (stored (at row p)) ≡ at row p
back_at row p b = sym (each row p) ∙ ap (λ (l : List Distance). at l p) b
  where
    each : (row : List Distance) (p : ℕ) → at (row_of (stored_row row)) p ≡ distance_of (stored (at row p))
    each [] p = sym (of_none no_walk_lem refl)
    each (d ∷ row) zero = refl
    each (d ∷ row) (suc p) = each row p

back_set : (row : List Distance) (i : ℕ) (d : Distance) → Back row → distance_of (stored d) ≡ d → Back (set row i d)
back_set row i d b e = ap row_of (stored_set row i d) ∙ of_set (stored_row row) i (stored d) ∙ ap₂ (λ (x : List Distance) (y : Distance). set x i y) b e
  where
    of_set : (l : List ℤ) (i : ℕ) (z : ℤ) → row_of (set l i z) ≡ set (row_of l) i (distance_of z)
    of_set [] i z = refl
    of_set (x ∷ l) zero z = refl
    of_set (x ∷ l) (suc i) z = ap (λ (k : List Distance). distance_of x ∷ k) (of_set l i z)

back_least : (a b : Distance) → distance_of (stored a) ≡ a → distance_of (stored b) ≡ b → distance_of (stored (min_d a b)) ≡ min_d a b
back_least a b e f = go (min_one a b)
  where
    go : (min_d a b ≡ a) ⊎ (min_d a b ≡ b) → distance_of (stored (min_d a b)) ≡ min_d a b
    go (inl q) = rw q e
    go (inr q) = rw q f

back_sum : (a : Distance) (w : ℤ) → Short max_distance a → Within max_weight w → distance_of (stored (a ⊕ w)) ≡ a ⊕ w
back_sum a w s h = of_stored (a ⊕ w) (λ z e. let x = ⊕_some a w z e in rw x.2 at (within_sum (s x.0 x.1) h))

pub back_from : (old new : List Distance) (F : List Step) → AllShort max_distance old → WithinWeights max_weight F → Back new → Back (relax_from old new F)
back_from old new [] s w b = b
back_from old new (t ∷ F) s w b =
    back_from old (relax_step old new t) F s (λ u i. w u (inr i))
    (back_set new t.to _ b (back_least _ _ (back_at new t.to b) (back_sum (at old t.from) t.weight (s t.from) (w t (inl refl)))))

-- ---- rows whose numbers are small
pub short_more : {b c : ℕ} {d : Distance} → b ≤ c → Short b d → Short c d
short_more h s z e = within_more h (s z e)

-- ---- sums fit, and the smaller of an entry and a sum
pub sum_fits : (z w : ℤ) → Within max_distance z → Within max_weight w → SFits w64 (z +ℤ w)
sum_fits z w h k = simp ints (omega zs)

pub weight_fits : (z : ℤ) → Within max_weight z → SFits w64 z
weight_fits z h = simp ints (omega zs)

sum_below : (z w : ℤ) → Within max_distance z → Within max_weight w → z +ℤ w ⋖ no_walk_lem
sum_below z w h k = simp ints (omega zs)

pub store_less : (e s : ℤ) → s ⋖ e → stored (min_d (distance_of e) (some s)) ≡ s
unfolding distance_of
store_less e s h = go (eq_z e no_walk_lem)
  where
    second : (a s : ℤ) → s ⋖ a → min_z a s ≡ s
    second a s = simp ints (omega arith)

    go : (t : Bool) → stored (min_d (cond t none (some e)) (some s)) ≡ s
    go true = refl
    go false = second e s h

pub store_more : (e z w : ℤ) → Within max_distance z → Within max_weight w → e ⩽ z +ℤ w → stored (min_d (distance_of e) (some (z +ℤ w))) ≡ e
unfolding distance_of
store_more e z w hz hw h = go (eq_z e no_walk_lem) refl
  where
    first : (a s : ℤ) → a ⩽ s → min_z a s ≡ a
    first a s = simp ints (omega arith)

    clash : (a b s : ℤ) → a ⩽ s → s ⋖ b → a ≡ b → ⊥
    clash a b s = simp ints (omega arith)

    go : (t : Bool) → eq_z e no_walk_lem ≡ t → stored (min_d (cond t none (some e)) (some (z +ℤ w))) ≡ e
    go true q = absurd (clash e no_walk_lem (z +ℤ w) h (sum_below z w hz hw) (eq_z_true e no_walk_lem q))
    go false q = first e (z +ℤ w) h

pub store_none : (e : ℤ) → stored (min_d (distance_of e) none) ≡ e
store_none e = ap stored (same (distance_of e)) ∙ stored_of e
  where
    same : (d : Distance) → min_d d none ≡ d
    same none = refl
    same (some z) = refl
