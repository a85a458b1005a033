-- What a table D of distances between the points of n variables says of its solutions: the model, the bounds, the groups. Facts are asked only
-- of points below 2n. `tight` and `halves` (in Tight) are the tightened table and the greatest values of points.
use Rattle.std.specs.Prelude.{◌≡◌, ◌⊎◌, ◌↔◌, ℕ, ◌*◌, ◌≤◌, ◌<◌, max, ℤ, pos, neg_ℤ, nat_abs, ◌+ℤ◌, ◌-ℤ◌}
use Rattle.std.proofs.Math.Path.{refl}
use Rattle.std.proofs.Common.{sym, ◌∙◌, ap, subst, inl, inr, arith}
use Rattle.std.proofs.Math.Logic.{⊎_elim}
use Rattle.std.proofs.Math.Decide.{ℕ_discrete, dec_lt}
use Rattle.integers.specs.Integer.{◌⩽◌}
use Rattle.integers.proofs.Linear.{ints}
use Rattle.lines.specs.Line.{Assignment}
use Rattle.steps.specs.Point.{point, opposite, value, opposite_twice}
use Rattle.steps.proofs.PointLaws.{value_plus, value_minus}
use Rattle.theory_walks.specs.Distance.{Distance, none, some, ◌⊑◌, ◌⊞◌, half_d, Up, up, Below, up_le, up_mono, up_at, up_some, up_eq, up_inv, up_of_le, le_of_up, up_plus, eq_of_up, half_double, not_none, le_antisym}
use Rattle.theory_bounds.specs.Points.{variable_of, variable_below, plus_below, minus_below, opposite_below, opposite_differs, value_cong}
use Rattle.theory_bounds.specs.Tight.{Table, Closed, Strong, Obeys, halves, tight, tight_strong, obeys_tight, tighter}
use Rattle.theory_bounds.specs.Extend.{below, lt_below, Fits}
use Rattle.theory_bounds.specs.Model.{model, model_fits, model_is_nearest, unique, between}
use Rattle.theory_bounds.specs.Exact.{bounded, attained, unbounded, exact, groups}
use Rattle.theory_bounds.specs.Range.{model_same}

-- what is asked of D: zero from each point to itself, the triangle inequality, each distance equal to that of the opposite walk, and no point
-- whose greatest value is below its least
pub record ClosedTable (n : ℕ) (D : Table) : Type 0 where
  pub diagonal : (i : ℕ) → i < 2 * n → D i i ≡ some (pos 0)
  pub triangle : (i j k : ℕ) → i < 2 * n → j < 2 * n → k < 2 * n → D i k ⊑ D i j ⊞ D j k
  pub mirrored : (i j : ℕ) → i < 2 * n → j < 2 * n → D i j ≡ D (opposite j) (opposite i)
  pub consistent : (i : ℕ) → i < 2 * n → (a b : ℤ) → halves D i ≡ some a → halves D (opposite i) ≡ some b → pos 0 ⩽ a +ℤ b

-- no difference of two points is above their distance
pub record Solution (n : ℕ) (D : Table) (s : Assignment) : Type 0 where
  pub holds : (i j : ℕ) → i < 2 * n → j < 2 * n → (d : ℤ) → D i j ≡ some d → value s i -ℤ value s j ⩽ d

-- the model: variables in number order, each the possible value nearest zero
unfoldable pub table_model : ℕ → Table → Assignment
table_model n D = model (tight D) (halves D) n

-- ---- D below 2n; beyond, 0 from a point to itself and none elsewhere. So the theory before this file needs no ranges.
choose : {A B : Type 0} → Dec A → Dec B → Distance → Distance
choose (yes k) e b = b
choose (no k) (yes e) b = some (pos 0)
choose (no k) (no e) b = none

unfoldable pub clip : ℕ → Table → Table
unfolding choose
clip n D i j = choose (dec_lt (max i j) (2 * n)) (ℕ_discrete i j) (D i j)

pub clip_inside : (n : ℕ) (D : Table) (i j : ℕ) → i < 2 * n → j < 2 * n → clip n D i j ≡ D i j
unfolding clip choose
clip_inside n D i j l m = go (dec_lt (max i j) (2 * n)) (ℕ_discrete i j)
  where
    go : (a : Dec (max i j < 2 * n)) (e : Dec (i ≡ j)) → choose a e (D i j) ≡ D i j
    go (yes k) e = refl
    go (no k) e = absurd (omega arith)

-- an entry of the clipped table is one of D's, or stands on the diagonal
abbrev Entry : ℕ → Table → ℕ → ℕ → ℤ → Type 0
Entry n D i j a = ((i < 2 * n) × (j < 2 * n) × Up (D i j) a) ⊎ ((i ≡ j) × (pos 0 ⩽ a))

clip_entry : (n : ℕ) (D : Table) (i j : ℕ) (a : ℤ) → Up (clip n D i j) a → Entry n D i j a
unfolding clip choose
clip_entry n D i j a = go (dec_lt (max i j) (2 * n)) (ℕ_discrete i j)
  where
    go : (l : Dec (max i j < 2 * n)) (e : Dec (i ≡ j)) → Up (choose l e (D i j)) a → Entry n D i j a
    go (yes l) e u = inl (omega arith, omega arith, u)
    go (no l) (yes e) u = inr (e, up_le u)
    go (no l) (no e) u = not_none u

pub clip_halves : (n : ℕ) (D : Table) (i : ℕ) → i < 2 * n → halves (clip n D) i ≡ halves D i
unfolding halves
clip_halves n D i l = ap half_d (clip_inside n D i (opposite i) l (opposite_below n i l))

pub clip_tight : (n : ℕ) (D : Table) (i j : ℕ) → i < 2 * n → j < 2 * n → tight (clip n D) i j ≡ tight D i j
unfolding tight
clip_tight n D i j l m = rw (clip_inside n D i j l m, clip_halves n D i l, clip_halves n D (opposite j) (opposite_below n j m))

module _ (n : ℕ) (D : Table) (I : ClosedTable n D) where
  clip_diagonal : (i : ℕ) → clip n D i i ≡ some (pos 0)
  unfolding clip choose
  clip_diagonal i = go (dec_lt (max i i) (2 * n)) (ℕ_discrete i i)
    where
      go : (l : Dec (max i i < 2 * n)) (e : Dec (i ≡ i)) → choose l e (D i i) ≡ some (pos 0)
      go (yes l) e = I.diagonal i (omega arith)
      go (no l) (yes e) = refl
      go (no l) (no e) = absurd (e refl)

  clip_triangle : (i j k : ℕ) {a b : ℤ} → Up (clip n D i j) a → Up (clip n D j k) b → Up (clip n D i k) (a +ℤ b)
  clip_triangle i j k {a} {b} u v = go (clip_entry n D i j a u) (clip_entry n D j k b v)
    where
      left : (a b : ℤ) → pos 0 ⩽ b → a ⩽ a +ℤ b
      left a b = simp ints (omega arith)

      right : (a b : ℤ) → pos 0 ⩽ a → b ⩽ a +ℤ b
      right a b = simp ints (omega arith)

      go : Entry n D i j a → Entry n D j k b → Up (clip n D i k) (a +ℤ b)
      go (inl (l, m, x)) (inl (m', o, y)) = up_eq (sym (clip_inside n D i k l o)) (up_of_le (I.triangle i j k l m o) _ (up_plus x y))
      go (inl x) (inr (e, le)) = up_mono (up_eq (ap (clip n D i) e) u) (left a b le)
      go (inr (e, le)) y = up_mono (up_eq (ap (λ z. clip n D z k) (sym e)) v) (right a b le)

  clip_mirror : (i j : ℕ) {a : ℤ} → Up (clip n D i j) a → Up (clip n D (opposite j) (opposite i)) a
  clip_mirror i j {a} u = go (clip_entry n D i j a u)
    where
      go : Entry n D i j a → Up (clip n D (opposite j) (opposite i)) a
      go (inl (l, m, x)) =
          up_eq (I.mirrored i j l m ∙ sym (clip_inside n D (opposite j) (opposite i) (opposite_below n j m) (opposite_below n i l))) x
      go (inr (e, le)) = up_eq (sym (ap (λ z. clip n D z (opposite i)) (ap opposite (sym e)) ∙ clip_diagonal (opposite i))) (up le)

  clip_mirrored : (i j : ℕ) → clip n D i j ≡ clip n D (opposite j) (opposite i)
  clip_mirrored i j =
      eq_of_up _ _ (λ z u. clip_mirror i j u) (λ z u. rw (opposite_twice i, opposite_twice j) at (clip_mirror (opposite j) (opposite i) u))

  -- a point with a half is below 2n
  inside : (i : ℕ) {a : ℤ} → Up (halves (clip n D) i) a → i < 2 * n
  unfolding halves
  inside i u = ⊎_elim (λ x. x.0) (λ x. absurd (opposite_differs i x.0)) (clip_entry n D i (opposite i) _ (half_double u))

  clip_consistent : (i : ℕ) {a b : ℤ} → Up (halves (clip n D) i) a → Up (halves (clip n D) (opposite i)) b → pos 0 ⩽ a +ℤ b
  clip_consistent i {a} {b} u v =
      let l = inside i u in
      let x = up_inv (up_eq (clip_halves n D i l) u) in
      let y = up_inv (up_eq (clip_halves n D (opposite i) (opposite_below n i l)) v) in
      more x.0 y.0 a b x.2 y.2 (I.consistent i l x.0 y.0 x.1 y.1)
    where
      more : (x y a b : ℤ) → x ⩽ a → y ⩽ b → pos 0 ⩽ x +ℤ y → pos 0 ⩽ a +ℤ b
      more x y a b = simp ints (omega arith)

  pub clip_closed : Closed (clip n D) (halves (clip n D))
  clip_closed = record { diagonal = clip_diagonal; triangle = λ {i} {j} {k} u v. clip_triangle i j k u v; mirrored = clip_mirrored; consistent = clip_consistent }

  -- the clipped table, tightened, and its halves
  abbrev T : Table
  T = tight (clip n D)

  abbrev h : ℕ → Distance
  h = halves (clip n D)

  pub clip_strong : Strong (tight (clip n D)) (halves (clip n D))
  clip_strong = tight_strong (clip n D) clip_closed

  -- ---- a solution of D is one of the tightened table, and back
  pub to_fits : (s : Assignment) → Solution n D s → Fits (tight (clip n D)) (below n) s
  unfolding tight halves
  to_fits s f = record { fits = λ p q a i j u. obeys_tight (clip n D) T h (λ i. refl) (λ i j. refl) s obeys p q a u }
    where
      outer : (v w d a : ℤ) → v -ℤ w ⩽ d → d ⩽ a → v ⩽ a +ℤ w
      outer v w d a = simp ints (omega arith)

      equal : (v w a : ℤ) → v ≡ w → pos 0 ⩽ a → v ⩽ a +ℤ w
      equal v w a = simp ints (omega arith)

      obeys : Obeys (clip n D) s
      obeys i j a u = go (clip_entry n D i j a u)
        where
          go : Entry n D i j a → value s i ⩽ a +ℤ value s j
          go (inl (l, m, x)) = let y = up_inv x in outer (value s i) (value s j) y.0 a (f.holds i j l m y.0 y.1) y.2
          go (inr (e, le)) = equal _ _ a (ap (value s) e) le

  -- what the tightened table says of a solution, as a difference
  difference : (s : Assignment) → Fits T (below n) s → (i j : ℕ) → i < 2 * n → j < 2 * n → (d : ℤ) → Up (T i j) d → value s i -ℤ value s j ⩽ d
  difference s f i j l m d u = less _ _ d (f.fits i j d (lt_below _ n (variable_below n i l)) (lt_below _ n (variable_below n j m)) u)
    where
      less : (v w d : ℤ) → v ⩽ d +ℤ w → v -ℤ w ⩽ d
      less v w d = simp ints (omega arith)

  pub of_fits : (s : Assignment) → Fits (tight (clip n D)) (below n) s → Solution n D s
  unfolding tight halves
  of_fits s f =
      record {
        holds = λ i j l m d e. difference s f i j l m d (tighter (clip n D) T h (λ i. refl) (λ i j. refl) (up_some (clip_inside n D i j l m ∙ e)));
      }

  -- ---- no solution gives a point a value above its half
  pub half_sound : (s : Assignment) → Solution n D s → (i : ℕ) → i < 2 * n → (d : ℤ) → halves D i ≡ some d → value s i ⩽ d
  half_sound s f i l d e = bounded T h clip_strong n i s (to_fits s f) (variable_below n i l) d (up_some (clip_halves n D i l ∙ e))

  -- every solution meets the tightened table
  pub tight_sound : (s : Assignment) → Solution n D s → Solution n (tight D) s
  tight_sound s f = record { holds = λ i j l m d e. difference s (to_fits s f) i j l m d (up_some (clip_tight n D i j l m ∙ e)) }

  -- ---- the model
  model_clipped : (x : ℕ) → model T h n x ≡ table_model n D x
  unfolding table_model
  model_clipped = model_same n T (tight D) h (halves D) (clip_tight n D) (clip_halves n D) n (omega arith)

  -- the model is a solution
  pub model_solves : Solution n D (table_model n D)
  model_solves =
      record {
        holds = λ i j l m d e.
            subst (λ v. v -ℤ value (table_model n D) j ⩽ d) (at i)
            (subst (λ v. value (model T h n) i -ℤ v ⩽ d) (at j) ((of_fits (model T h n) (model_fits T h clip_strong n)).holds i j l m d e));
      }
    where
      at : (p : ℕ) → value (model T h n) p ≡ value (table_model n D) p
      at p = value_cong (model T h n) (table_model n D) p (model_clipped (variable_of p))

  -- each variable takes the value nearest zero among the values that it has in solutions agreeing with all earlier choices
  pub model_nearest : (s : Assignment) → Solution n D s → (k : ℕ) → k < n → ((x : ℕ) → x < k → s x ≡ table_model n D x) → nat_abs (table_model n D k) ≤ nat_abs (s k)
  model_nearest s f k l g =
      rw (← model_clipped k) ((model_is_nearest T h clip_strong n).nearest k l s (to_fits s f) (λ x m. g x m ∙ sym (model_clipped x)))

  -- no other solution does so
  pub model_unique : (m : Assignment) → Solution n D m
      → ((k : ℕ) → k < n → (s : Assignment) → Solution n D s → ((x : ℕ) → x < k → s x ≡ m x) → nat_abs (m k) ≤ nat_abs (s k))
      → (x : ℕ) → x < n → m x ≡ table_model n D x
  model_unique m f g x l =
      unique T h clip_strong n m (record { fit = to_fits m f; nearest = λ k i s f' e. g k i s (of_fits s f') e }) x l ∙ model_clipped x

  -- the values of a variable in solutions that agree on all earlier ones are consecutive integers
  pub consecutive : (k : ℕ) → k < n → (s t : Assignment) → Solution n D s → Solution n D t → ((x : ℕ) → x < k → t x ≡ s x)
      → (v : ℤ) → s k ⩽ v → v ⩽ t k → (r : Assignment) × Solution n D r × ((x : ℕ) → x < k → r x ≡ s x) × (r k ≡ v)
  consecutive k l s t f g e v lo hi =
      let w = between T h clip_strong n k l s t (to_fits s f) (to_fits t g) e v lo hi in
      (w.0, of_fits w.0 w.1, w.2, w.3)

  -- ---- bounds
  -- a variable's greatest value over all solutions is the half of its plus point
  pub greatest : (x : ℕ) → x < n → (d : ℤ) → halves D (point x 0) ≡ some d
      → ((s : Assignment) → Solution n D s → s x ⩽ d) × ((s : Assignment) × Solution n D s × (s x ≡ d))
  greatest x l d e =
      let w = attained T h clip_strong n (point x 0) d (clip_halves n D (point x 0) (plus_below n x l) ∙ e) in (
        (λ s f. rw (value_plus s x) at (half_sound s f (point x 0) (plus_below n x l) d e)),
        (w.0, of_fits w.0 w.1, sym (value_plus w.0 x) ∙ w.2),
      )

  -- where there is no half, there is no greatest value
  pub no_greatest : (x : ℕ) → x < n → halves D (point x 0) ≡ none → (m : ℤ) → (s : Assignment) × Solution n D s × (m ⩽ s x)
  no_greatest x l e m =
      let w = unbounded T h clip_strong n (point x 0) (clip_halves n D (point x 0) (plus_below n x l) ∙ e) m in
      (w.0, of_fits w.0 w.1, rw (value_plus w.0 x) at w.2)

  -- a variable's least value over all solutions is minus the half of its minus point
  pub least : (x : ℕ) → x < n → (d : ℤ) → halves D (point x 1) ≡ some d
      → ((s : Assignment) → Solution n D s → neg_ℤ d ⩽ s x) × ((s : Assignment) × Solution n D s × (s x ≡ neg_ℤ d))
  least x l d e =
      let w = attained T h clip_strong n (point x 1) d (clip_halves n D (point x 1) (minus_below n x l) ∙ e) in (
        (λ s f. turn _ d (rw (value_minus s x) at (half_sound s f (point x 1) (minus_below n x l) d e))),
        (w.0, of_fits w.0 w.1, flip _ d (sym (value_minus w.0 x) ∙ w.2)),
      )
    where
      turn : (v d : ℤ) → neg_ℤ v ⩽ d → neg_ℤ d ⩽ v
      turn v d = simp ints (omega arith)

      flip : (v d : ℤ) → neg_ℤ v ≡ d → v ≡ neg_ℤ d
      flip v d = simp ints (omega arith)

  -- where there is no half, there is no least value
  pub no_least : (x : ℕ) → x < n → halves D (point x 1) ≡ none → (m : ℤ) → (s : Assignment) × Solution n D s × (s x ⩽ m)
  no_least x l e m =
      let w = unbounded T h clip_strong n (point x 1) (clip_halves n D (point x 1) (minus_below n x l) ∙ e) (neg_ℤ m) in
      (w.0, of_fits w.0 w.1, turn _ m (rw (value_minus w.0 x) at w.2))
    where
      turn : (v m : ℤ) → neg_ℤ m ⩽ neg_ℤ v → v ⩽ m
      turn v m = simp ints (omega arith)

  -- ---- differences
  -- a difference of two points that the tightened table allows, some solution has
  pub exact_difference : (p q : ℕ) → p < 2 * n → q < 2 * n → (m : ℤ) → Below m (tight D p q) → (s : Assignment) × Solution n D s × (m ⩽ value s p -ℤ value s q)
  exact_difference p q i j m b =
      let w = exact T h clip_strong n p q m (λ z u. b z (up_eq (clip_tight n D p q i j) u)) in
      (w.0, of_fits w.0 w.1, turn (value w.0 p) (value w.0 q) m w.2)
    where
      turn : (v w m : ℤ) → w +ℤ m ⩽ v → m ⩽ v -ℤ w
      turn v w m = simp ints (omega arith)

  -- the greatest difference of two points over all solutions is their tightened distance
  pub greatest_difference : (p q : ℕ) → p < 2 * n → q < 2 * n → (d : ℤ) → tight D p q ≡ some d
      → ((s : Assignment) → Solution n D s → value s p -ℤ value s q ⩽ d) × ((s : Assignment) × Solution n D s × (value s p -ℤ value s q ≡ d))
  greatest_difference p q i j d e =
      let w = exact_difference p q i j d (λ z u. up_le (up_eq e u)) in
      (bound, (w.0, w.1, le_antisym (bound w.0 w.1) w.2))
    where
      bound : (s : Assignment) → Solution n D s → value s p -ℤ value s q ⩽ d
      bound s f = (tight_sound s f).holds p q i j d e

  -- where there is no tightened distance, there is no greatest difference
  pub no_greatest_difference : (p q : ℕ) → p < 2 * n → q < 2 * n → tight D p q ≡ none → (m : ℤ) → (s : Assignment) × Solution n D s × (m ⩽ value s p -ℤ value s q)
  no_greatest_difference p q i j e m = exact_difference p q i j m (λ z u. not_none (up_eq e u))

  -- ---- groups
  -- two points are equal in every solution exactly if neither tightened distance between them is above 0
  pub equal_points : (p q : ℕ) → p < 2 * n → q < 2 * n
      → ((s : Assignment) → Solution n D s → value s p ≡ value s q) ↔ ((tight D p q ⊑ some (pos 0)) × (tight D q p ⊑ some (pos 0)))
  equal_points p q i j = (
    (λ f. let w = g.0 (λ t k. f t (of_fits t k)) in (to_le p q i j w.0, to_le q p j i w.1)),
    (λ w s f. g.1 (to_up p q i j w.0, to_up q p j i w.1) s (to_fits s f)),
  )
    where
      g : ((t : Assignment) → Fits T (below n) t → value t p ≡ value t q) ↔ (Up (T p q) (pos 0) × Up (T q p) (pos 0))
      g = groups T h clip_strong n p q (variable_below n p i) (variable_below n q j)

      to_le : (p q : ℕ) → p < 2 * n → q < 2 * n → Up (T p q) (pos 0) → tight D p q ⊑ some (pos 0)
      to_le p q i j u = le_of_up _ _ (λ z k. up_mono (up_eq (clip_tight n D p q i j) u) (up_le k))

      to_up : (p q : ℕ) → p < 2 * n → q < 2 * n → tight D p q ⊑ some (pos 0) → Up (T p q) (pos 0)
      to_up p q i j k = up_eq (sym (clip_tight n D p q i j)) (up_of_le k _ (up_at (pos 0)))
