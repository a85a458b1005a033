-- Tightening: whole numbers have whole halves, so that a distance from a point to its opposite bounds the point by its half, rounded down, and
-- two such halves bound a difference. The tightened table is again closed, if the halves are consistent; and every solution meets it.
use Rattle.std.specs.Prelude.{◌≡◌, refl, ◌⊎◌, ℕ, ℤ, pos, neg_ℤ, ◌+ℤ◌}
use Rattle.std.proofs.Common.{sym, ap, inl, inr, ⊎_elim, arith}
use Rattle.integers.specs.Integer.{◌⩽◌, half}
use Rattle.integers.proofs.Linear.{ints}
use Rattle.lines.specs.Line.{Assignment}
use Rattle.steps.specs.Point.{opposite, value, value_opposite, opposite_twice}
use Rattle.theory_walks.specs.Distance.{Distance, some, min_d, ◌⊞◌, half_d, Up, up, up_le, up_mono, up_eq, up_plus, up_plus_e, up_min_l, up_min_r, up_min_e, half_double, double_half, eq_of_up}

-- the distance from each point to each
abbrev pub Table : Type 0
Table = ℕ → ℕ → Distance

-- the greatest value that the distance to its opposite leaves a point
unfoldable pub halves : Table → ℕ → Distance
halves D i = half_d (D i (opposite i))

unfoldable pub tight : Table → Table
tight D i j = min_d (D i j) (halves D i ⊞ halves D (opposite j))

-- what is asked of a table D with halves h: zero from each point to itself, the triangle inequality, each distance equal to that of the
-- opposite walk, and no point whose greatest value is below its least
pub record Closed (D : Table) (h : ℕ → Distance) : Type 0 where
  pub diagonal : (i : ℕ) → D i i ≡ some (pos 0)
  pub triangle : {i j k : ℕ} {a b : ℤ} → Up (D i j) a → Up (D j k) b → Up (D i k) (a +ℤ b)
  pub mirrored : (i j : ℕ) → D i j ≡ D (opposite j) (opposite i)
  pub consistent : (i : ℕ) {a b : ℤ} → Up (h i) a → Up (h (opposite i)) b → pos 0 ⩽ a +ℤ b

-- the same of the tightened table T, and how it fits the halves. All that follows rests on this record alone.
pub record Strong (T : Table) (h : ℕ → Distance) : Type 0 where
  pub diagonal : (i : ℕ) → T i i ≡ some (pos 0)
  pub triangle : {i j k : ℕ} {a b : ℤ} → Up (T i j) a → Up (T j k) b → Up (T i k) (a +ℤ b)
  pub mirrored : (i j : ℕ) → T i j ≡ T (opposite j) (opposite i)
  pub twice : (i : ℕ) → T i (opposite i) ≡ h i ⊞ h i
  pub joined : {i : ℕ} (j : ℕ) {a b : ℤ} → Up (h i) a → Up (h (opposite j)) b → Up (T i j) (a +ℤ b)
  pub consistent : (i : ℕ) {a b : ℤ} → Up (h i) a → Up (h (opposite i)) b → pos 0 ⩽ a +ℤ b

-- s meets every difference of the table
abbrev pub Obeys : Table → Assignment → Type 0
Obeys D s = (i j : ℕ) (a : ℤ) → Up (D i j) a → value s i ⩽ a +ℤ value s j

-- the halves of i and of the opposite of j are at most a together
abbrev pub ByHalves : (ℕ → Distance) → ℕ → ℕ → ℤ → Type 0
ByHalves h i j a = (x : ℤ) × (y : ℤ) × Up (h i) x × Up (h (opposite j)) y × (x +ℤ y ⩽ a)

-- T and h are variables with equations, so that the points can be read off a hypothesis
module _ (D T : Table) (h : ℕ → Distance)
    (h-is : (i : ℕ) → h i ≡ half_d (D i (opposite i)))
    (t-is : (i j : ℕ) → T i j ≡ min_d (D i j) (h i ⊞ h (opposite j))) where
  double : {i : ℕ} {x : ℤ} → Up (h i) x → Up (D i (opposite i)) (x +ℤ x +ℤ pos 1)
  double {i} u = half_double (up_eq (h-is i) u)

  halve : (i : ℕ) (x : ℤ) → Up (D i (opposite i)) (x +ℤ x +ℤ pos 1) → Up (h i) x
  halve i x u = up_eq (sym (h-is i)) (double_half x u)

  pub tighter : {i j : ℕ} {a : ℤ} → Up (D i j) a → Up (T i j) a
  tighter {i} {j} u = up_eq (sym (t-is i j)) (up_min_l (h i ⊞ h (opposite j)) u)

  join : {i : ℕ} (j : ℕ) {a b : ℤ} → Up (h i) a → Up (h (opposite j)) b → Up (T i j) (a +ℤ b)
  join {i} j u v = up_eq (sym (t-is i j)) (up_min_r (D i j) (up_plus u v))

  pub one_of : {i j : ℕ} {a : ℤ} → Up (T i j) a → Up (D i j) a ⊎ ByHalves h i j a
  one_of {i} {j} {a} u =
      ⊎_elim inl (λ p. inr (up_plus_e (h i) (h (opposite j)) a p)) (up_min_e (D i j) (h i ⊞ h (opposite j)) a (up_eq (t-is i j) u))

  -- ---- every solution meets the halves and the tightened table
  pub obeys_halves : (s : Assignment) → Obeys D s → (i : ℕ) {x : ℤ} → Up (h i) x → value s i ⩽ x
  obeys_halves s o i {x} u = whole (value s i) (value s (opposite i)) x (value_opposite s i) (o i (opposite i) _ (double u))
    where
      whole : (v w x : ℤ) → w ≡ neg_ℤ v → v ⩽ x +ℤ x +ℤ pos 1 +ℤ w → v ⩽ x
      whole v w x = simp ints (omega arith)

  pub obeys_tight : (s : Assignment) → Obeys D s → Obeys T s
  obeys_tight s o i j a u = go (one_of u)
    where
      sum : (v w w' x y a : ℤ) → w' ≡ neg_ℤ w → v ⩽ x → w' ⩽ y → x +ℤ y ⩽ a → v ⩽ a +ℤ w
      sum v w w' x y a = simp ints (omega arith)

      go : Up (D i j) a ⊎ ByHalves h i j a → value s i ⩽ a +ℤ value s j
      go (inl d) = o i j a d
      go (inr (x, y, hi, hj, le)) =
          sum (value s i) (value s j) (value s (opposite j)) x y a (value_opposite s j) (obeys_halves s o i hi) (obeys_halves s o (opposite j) hj) le

  -- ---- the tightened table is closed
  module _ (c : Closed D h) where
    -- a point is the opposite of its opposite
    twice_over : (i : ℕ) {x : ℤ} → Up (h i) x → Up (h (opposite (opposite i))) x
    twice_over i u = up_eq (ap h (sym (opposite_twice i))) u

    mirror : {i j : ℕ} {a : ℤ} → Up (D i j) a → Up (D (opposite j) (opposite i)) a
    mirror {i} {j} u = up_eq (c.mirrored i j) u

    -- h i ≤ D i j + h j: from i to j, to the opposite of j, to the opposite of i
    push : {i j : ℕ} {a x : ℤ} → Up (D i j) a → Up (h j) x → Up (h i) (a +ℤ x)
    push {i} {a} {x} u hx = halve i (a +ℤ x) (up_mono (c.triangle u (c.triangle (double hx) (mirror u))) (both a x))
      where
        both : (a x : ℤ) → a +ℤ (x +ℤ x +ℤ pos 1 +ℤ a) ⩽ (a +ℤ x) +ℤ (a +ℤ x) +ℤ pos 1
        both a x = simp ints (omega arith)

    t_triangle : {i j k : ℕ} {a b : ℤ} → Up (T i j) a → Up (T j k) b → Up (T i k) (a +ℤ b)
    t_triangle {i} {j} {k} {a} {b} u v = go (one_of u) (one_of v)
      where
        before : (a b x y : ℤ) → x +ℤ y ⩽ b → a +ℤ x +ℤ y ⩽ a +ℤ b
        before a b x y = simp ints (omega arith)

        after : (a b x y : ℤ) → x +ℤ y ⩽ a → x +ℤ (b +ℤ y) ⩽ a +ℤ b
        after a b x y = simp ints (omega arith)

        outer : (a b x y x' y' : ℤ) → x +ℤ y ⩽ a → x' +ℤ y' ⩽ b → pos 0 ⩽ x' +ℤ y → x +ℤ y' ⩽ a +ℤ b
        outer a b x y x' y' = simp ints (omega arith)

        go : Up (D i j) a ⊎ ByHalves h i j a → Up (D j k) b ⊎ ByHalves h j k b → Up (T i k) (a +ℤ b)
        go (inl d) (inl e) = tighter (c.triangle d e)
        go (inl d) (inr (x, y, hj, hk, le)) = up_mono (join k (push d hj) hk) (before a b x y le)
        go (inr (x, y, hi, hj, le)) (inl e) = up_mono (join k hi (push (mirror e) hj)) (after a b x y le)
        go (inr (x, y, hi, hj, le)) (inr (x', y', hj', hk, le')) = up_mono (join k hi hk) (outer a b x y x' y' le le' (c.consistent j hj' hj))

    t_mirror : {i j : ℕ} {a : ℤ} → Up (T i j) a → Up (T (opposite j) (opposite i)) a
    t_mirror {i} {j} {a} u = go (one_of u)
      where
        swap : (a x y : ℤ) → x +ℤ y ⩽ a → y +ℤ x ⩽ a
        swap a x y = simp ints (omega arith)

        go : Up (D i j) a ⊎ ByHalves h i j a → Up (T (opposite j) (opposite i)) a
        go (inl d) = tighter (mirror d)
        go (inr (x, y, hi, hj, le)) = up_mono (join (opposite i) hj (twice_over i hi)) (swap a x y le)

    t_mirrored : (i j : ℕ) → T i j ≡ T (opposite j) (opposite i)
    t_mirrored i j = eq_of_up _ _ (λ z u. t_mirror u) (λ z u. rw (opposite_twice i, opposite_twice j) at (t_mirror u))

    t_diagonal : (i : ℕ) → T i i ≡ some (pos 0)
    t_diagonal i = eq_of_up _ _ (λ z u. up (go z (one_of u))) (λ z u. tighter (up_eq (sym (c.diagonal i)) u))
      where
        above : (a x y : ℤ) → x +ℤ y ⩽ a → pos 0 ⩽ x +ℤ y → pos 0 ⩽ a
        above a x y = simp ints (omega arith)

        go : (z : ℤ) → Up (D i i) z ⊎ ByHalves h i i z → pos 0 ⩽ z
        go z (inl d) = up_le (up_eq (c.diagonal i) d)
        go z (inr (x, y, hi, hi', le)) = above z x y le (c.consistent i hi hi')

    t_twice : (i : ℕ) → T i (opposite i) ≡ h i ⊞ h i
    t_twice i = eq_of_up _ _ (λ z u. go z (one_of u)) (λ z u. back z (up_plus_e (h i) (h i) z u))
      where
        half_low : (z : ℤ) → half z +ℤ half z ⩽ z
        half_low z = simp ints (omega arith)

        half_high : (z : ℤ) → z ⩽ half z +ℤ half z +ℤ pos 1
        half_high z = simp ints (omega arith)

        go : (z : ℤ) → Up (D i (opposite i)) z ⊎ ByHalves h i (opposite i) z → Up (h i ⊞ h i) z
        go z (inl d) = let x = halve i (half z) (up_mono d (half_high z)) in up_mono (up_plus x x) (half_low z)
        go z (inr (x, y, hi, hi', le)) = up_mono (up_plus hi (up_eq (ap h (opposite_twice i)) hi')) le

        back : (z : ℤ) → ((x : ℤ) × (y : ℤ) × Up (h i) x × Up (h i) y × (x +ℤ y ⩽ z)) → Up (T i (opposite i)) z
        back z (x, y, hi, hi', le) = up_mono (join (opposite i) hi (twice_over i hi')) le

    pub strong : Strong T h
    strong = record { diagonal = t_diagonal; triangle = t_triangle; mirrored = t_mirrored; twice = t_twice; joined = join; consistent = c.consistent }

-- the same of the definitions
pub tight_strong : (D : Table) → Closed D (halves D) → Strong (tight D) (halves D)
unfolding tight halves
tight_strong D c = strong D (tight D) (halves D) (λ i. refl) (λ i j. refl) c
