-- Steps with slack: where each closed walk through the added steps has a sum above 2, the table with them and the one without have the same pairs of points
-- with no tightened distance above 0 between them.
use Rattle.steps.specs.declared.Step.{Step}
use Rattle.std.specs.Prelude.{◌≡◌, refl, ◌⊎◌, Bool, true, false, ℕ, ◌*◌, ◌<◌, ℤ, pos, ◌+ℤ◌, None, Option, Some}
use Rattle.std.proofs.Common.{sym, ap, inl, inr, ⊎_elim, arith}
use Rattle.std.specs.Int.Signed.{le_z, lt_z}
use Rattle.integers.specs.Integer.{◌⩽◌, ◌⋖◌}
use Rattle.integers.proofs.Linear.{ints}
use Rattle.integers.specs.Laws.{never, and_true, both_true}
use Rattle.steps.specs.Point.{opposite, opposite_twice}
use Rattle.theory_walks.specs.Distance.{Distance, none, some, ◌⊑◌, ◌⊞◌, Up, up, up_le, up_mono, up_eq, up_inv, up_of_le, up_plus, up_min_l, up_min_r, up_min_e, half_double, double_half, not_none}
use Rattle.theory_bounds.specs.Tight.{Table, halves, tight, ByHalves, tighter, one_of}
use Rattle.theory_bounds.specs.Table.{ClosedTable}
use Rattle.theory_bounds.specs.Answers.{not_above0, same_points_lem}
use Rattle.theory_inserting.specs.Insert.{through, closing, up_add, up_through_e}
use Rattle.theory_inserting.specs.Two.{insert_named}

-- ---- definitions
-- The greatest sum of a closed walk that makes two points equal in every solution, by halves or without. It is 2, since two distances, of a point to its
-- opposite and back, whose halves, each rounded down, sum to at most 0, sum themselves to at most 2: each is at most 1 more than twice its half.
abbrev pub equal_slack : ℤ
equal_slack = pos 2

-- whether a distance is above that sum
abbrev pub is_wide : Distance → Bool
is_wide none = true
is_wide (some z) = lt_z equal_slack z

-- whether each closed walk through the step, if it is there, has a sum above that
abbrev pub wide_step : Table → Option Step → Bool
wide_step D (Some s) = is_wide (closing D s)
wide_step D None = true

-- no entry of the first table is above that of the second
abbrev pub AtMost : Table → Table → Type 0
AtMost D' D = (i j : ℕ) (z : ℤ) → Up (D i j) z → Up (D' i j) z

abbrev pub Triangle : Table → Type 0
Triangle D = (i j k : ℕ) → D i k ⊑ D i j ⊞ D j k

-- D', where no entry is above D's, has D's own wherever a closed walk of a sum of at most 2 goes that way
abbrev pub NearSame : Table → Table → Type 0
NearSame D D' = (i j : ℕ) (a b : ℤ) → Up (D' i j) a → Up (D' j i) b → a +ℤ b ⩽ equal_slack → Up (D i j) a

-- two distances, one behind the other
chain : (D : Table) → Triangle D → (i j k : ℕ) {a b : ℤ} → Up (D i j) a → Up (D j k) b → Up (D i k) (a +ℤ b)
chain D triangle i j k u v = up_of_le (triangle i j k) _ (up_plus u v)

wide_above : (d : Distance) → is_wide d ≡ true → (z : ℤ) → Up d z → equal_slack ⋖ z
wide_above none e z u = not_none u
wide_above (some d) e z (up u) = over d z e u
  where
    over : (d z : ℤ) → lt_z equal_slack d ≡ true → d ⩽ z → equal_slack ⋖ z
    over d z = simp ints (omega arith)

-- ---- a step put into a table
-- the step is there, and the way through it is at most z
abbrev Passes : Table → Option Step → ℕ → ℕ → ℤ → Type 0
Passes D (Some s) i j z = Up (through D s i j) z
Passes D None i j z = ⊥

passes_or_not : (D : Table) (x : Option Step) (i j : ℕ) (z : ℤ) → Up (insert_named D x i j) z → Up (D i j) z ⊎ Passes D x i j z
passes_or_not D (Some s) i j z u = up_min_e (D i j) (through D s i j) z u
passes_or_not D None i j z u = inl u

named_at_most : (D : Table) (x : Option Step) → AtMost (insert_named D x) D
named_at_most D (Some s) i j z u = up_min_l (through D s i j) u
named_at_most D None i j z u = u

-- the way through a wide step and a way back have a sum above 2: together they are a closed walk through the step
wide_not_near : (D D' : Table) → AtMost D' D → Triangle D' → (x : Option Step) → wide_step D' x ≡ true
    → (i j : ℕ) (a b : ℤ) → Passes D x i j a → Up (D' j i) b → a +ℤ b ⩽ equal_slack → ⊥
wide_not_near D D' less triangle None w i j a b p v h = absurd p
wide_not_near D D' less triangle (Some s) w i j a b p v h =
    let e = up_through_e D s i j a p in
    let back = chain D' triangle s.to i s.from (chain D' triangle s.to j i (less s.to j e.1 e.3) v) (less i s.from e.0 e.2) in
    sum e.0 s.weight e.1 a b e.4 h (wide_above (closing D' s) w _ (up_add s.weight back))
  where
    sum : (x w y a b : ℤ) → x +ℤ w +ℤ y ⩽ a → a +ℤ b ⩽ equal_slack → equal_slack ⋖ y +ℤ b +ℤ x +ℤ w → ⊥
    sum x w y a b = simp ints (omega arith)

-- ---- two steps put in one after the other: D, then D₁, then D'. An entry of D' that is not D's passes a step; with a way back it is a closed walk.
module _ (D D₁ D' : Table) (x y : Option Step)
    (first : (i j : ℕ) → D₁ i j ≡ insert_named D x i j)
    (second : (i j : ℕ) → D' i j ≡ insert_named D₁ y i j) where
  second_at_most : AtMost D' D₁
  second_at_most i j z u = up_eq (sym (second i j)) (named_at_most D₁ y i j z u)

  pub both_at_most : AtMost D' D
  both_at_most i j z u = second_at_most i j z (up_eq (sym (first i j)) (named_at_most D x i j z u))

  pub near_same : Triangle D' → wide_step D' x ≡ true → wide_step D' y ≡ true → NearSame D D'
  near_same triangle wide_x wide_y i j a b u v h =
      ⊎_elim without_second (λ p. absurd (wide_not_near D₁ D' second_at_most triangle y wide_y i j a b p v h)) (passes_or_not D₁ y i j a (up_eq (second i j) u))
    where
      without_second : Up (D₁ i j) a → Up (D i j) a
      without_second t =
          ⊎_elim (λ k. k) (λ p. absurd (wide_not_near D D' both_at_most triangle x wide_x i j a b p v h)) (passes_or_not D x i j a (up_eq (first i j) t))

-- ---- the tightened distances, taken apart and put together
module _ (D : Table) where
  tight_one_of : (i j : ℕ) {a : ℤ} → Up (tight D i j) a → Up (D i j) a ⊎ ByHalves (halves D) i j a
  unfolding tight halves
  tight_one_of i j u = one_of D (tight D) (halves D) (λ i. refl) (λ i j. refl) u

  tight_direct : (i j : ℕ) {a : ℤ} → Up (D i j) a → Up (tight D i j) a
  unfolding tight halves
  tight_direct i j u = tighter D (tight D) (halves D) (λ i. refl) (λ i j. refl) u

  tight_halves : (i j : ℕ) {x y a : ℤ} → Up (halves D i) x → Up (halves D (opposite j)) y → x +ℤ y ⩽ a → Up (tight D i j) a
  unfolding tight
  tight_halves i j u v h = up_min_r (D i j) (up_mono (up_plus u v) h)

  half_there : (i : ℕ) {x : ℤ} → Up (halves D i) x → Up (D i (opposite i)) (x +ℤ x +ℤ pos 1)
  unfolding halves
  half_there i u = half_double u

  there_half : (i : ℕ) (x : ℤ) → Up (D i (opposite i)) (x +ℤ x +ℤ pos 1) → Up (halves D i) x
  unfolding halves
  there_half i x u = double_half x u

  -- from the opposite back
  half_back : (i : ℕ) {x : ℤ} → Up (halves D (opposite i)) x → Up (D (opposite i) i) (x +ℤ x +ℤ pos 1)
  half_back i u = up_eq (ap (D (opposite i)) (opposite_twice i)) (half_there (opposite i) u)

  back_half : (i : ℕ) (x : ℤ) → Up (D (opposite i) i) (x +ℤ x +ℤ pos 1) → Up (halves D (opposite i)) x
  back_half i x u = there_half (opposite i) x (up_eq (ap (D (opposite i)) (sym (opposite_twice i))) u)

  -- no tightened distance between the two is above 0
  abbrev Same : ℕ → ℕ → Type 0
  Same p q = Up (tight D p q) (pos 0) × Up (tight D q p) (pos 0)

  same_of_test : (p q : ℕ) → same_points_lem D p q ≡ true → Same p q
  same_of_test p q e = let w = and_true (not_above0 (tight D p q)) (not_above0 (tight D q p)) e in (low (tight D p q) w.0, low (tight D q p) w.1)
    where
      at_most : (z : ℤ) → le_z z (pos 0) ≡ true → z ⩽ pos 0
      at_most z = simp ints (omega arith)

      low : (d : Distance) → not_above0 d ≡ true → Up d (pos 0)
      low none e = never (cc)
      low (some z) e = up (at_most z e)

  test_of_same : (p q : ℕ) → Same p q → same_points_lem D p q ≡ true
  test_of_same p q s = both_true (not_above0 (tight D p q)) (not_above0 (tight D q p)) (not_above (tight D p q) s.0) (not_above (tight D q p) s.1)
    where
      at_most : (z : ℤ) → z ⩽ pos 0 → le_z z (pos 0) ≡ true
      at_most z = simp ints (omega arith)

      not_above : (d : Distance) → Up d (pos 0) → not_above0 d ≡ true
      not_above none u = not_none u
      not_above (some z) u = at_most z (up_le u)

-- ---- the same points are equal in both tables. Where D' makes p and q equal, by distances, by halves or by one of each, it does so by entries on a closed
-- walk of a sum of at most 2, and these are D's.
module _ (n : ℕ) (D D' : Table) (closed : ClosedTable n D') (triangle : Triangle D') (less : AtMost D' D) (near : NearSame D D') where
  ways : (i j k : ℕ) {a b : ℤ} → Up (D' i j) a → Up (D' j k) b → Up (D' i k) (a +ℤ b)
  ways i j k u v = chain D' triangle i j k u v

  -- what is the same in D is so in D', where no entry is greater
  tight_less : (i j : ℕ) {a : ℤ} → Up (tight D i j) a → Up (tight D' i j) a
  tight_less i j {a} u = go (tight_one_of D i j u)
    where
      half_less : (i : ℕ) {x : ℤ} → Up (halves D i) x → Up (halves D' i) x
      half_less i {x} v = there_half D' i x (less i (opposite i) _ (half_there D i v))

      go : Up (D i j) a ⊎ ByHalves (halves D) i j a → Up (tight D' i j) a
      go (inl d) = tight_direct D' i j (less i j a d)
      go (inr (x, y, hi, hj, h)) = tight_halves D' i j (half_less i hi) (half_less (opposite j) hj) h

  consistent : (i : ℕ) → i < 2 * n → {a b : ℤ} → Up (halves D' i) a → Up (halves D' (opposite i)) b → pos 0 ⩽ a +ℤ b
  consistent i h {a} {b} u v =
      let x = up_inv u in
      let y = up_inv v in
      more x.0 y.0 a b x.2 y.2 (closed.consistent i h x.0 y.0 x.1 y.1)
    where
      more : (x y a b : ℤ) → x ⩽ a → y ⩽ b → pos 0 ⩽ x +ℤ y → pos 0 ⩽ a +ℤ b
      more x y a b = simp ints (omega arith)

  -- halves of a point and its opposite that sum to at most 0 are halves of D: there and back is a closed walk of a sum of at most 2
  halves_near : (i : ℕ) {x y : ℤ} → Up (halves D' i) x → Up (halves D' (opposite i)) y → x +ℤ y ⩽ pos 0 → Up (halves D i) x × Up (halves D (opposite i)) y
  halves_near i {x} {y} u v h =
      let there = half_there D' i u in
      let back = half_back D' i v in (
        there_half D i x (near i (opposite i) _ _ there back (twice x y h)),
        back_half D i y (near (opposite i) i _ _ back there (twice' x y h)),
      )
    where
      twice : (x y : ℤ) → x +ℤ y ⩽ pos 0 → x +ℤ x +ℤ pos 1 +ℤ (y +ℤ y +ℤ pos 1) ⩽ equal_slack
      twice x y = simp ints (omega arith)

      twice' : (x y : ℤ) → x +ℤ y ⩽ pos 0 → y +ℤ y +ℤ pos 1 +ℤ (x +ℤ x +ℤ pos 1) ⩽ equal_slack
      twice' x y = simp ints (omega arith)

  -- p to q by a distance, q to p by the halves of q and of the opposite of p: the closed walk p, q, opposite of q, opposite of p, p
  one_by_halves : (p q : ℕ) → p < 2 * n → q < 2 * n → Up (D' p q) (pos 0) → ByHalves (halves D') q p (pos 0) → Same D p q
  one_by_halves p q hp hq d (x, y, u, v, h) =
      let there = half_there D' q u in
      let back = half_back D' p v in
      let mirror = up_eq (closed.mirrored p q hp hq) d in (
        tight_direct D p q (near p q _ _ d (ways q (opposite p) p (ways q (opposite q) (opposite p) there mirror) back) (around_direct x y h)),
        tight_halves D q p
            (there_half D q x (near q (opposite q) _ _ there (ways (opposite q) p q (ways (opposite q) (opposite p) p mirror back) d) (around_there x y h)))
            (back_half D p y (near (opposite p) p _ _ back (ways p (opposite q) (opposite p) (ways p q (opposite q) d there) mirror) (around_back x y h)))
            h,
      )
    where
      around_direct : (x y : ℤ) → x +ℤ y ⩽ pos 0 → pos 0 +ℤ (x +ℤ x +ℤ pos 1 +ℤ pos 0 +ℤ (y +ℤ y +ℤ pos 1)) ⩽ equal_slack
      around_direct x y = simp ints (omega arith)

      around_there : (x y : ℤ) → x +ℤ y ⩽ pos 0 → x +ℤ x +ℤ pos 1 +ℤ (pos 0 +ℤ (y +ℤ y +ℤ pos 1) +ℤ pos 0) ⩽ equal_slack
      around_there x y = simp ints (omega arith)

      around_back : (x y : ℤ) → x +ℤ y ⩽ pos 0 → y +ℤ y +ℤ pos 1 +ℤ (pos 0 +ℤ (x +ℤ x +ℤ pos 1) +ℤ pos 0) ⩽ equal_slack
      around_back x y = simp ints (omega arith)

  -- both by halves: the four halves sum to at most 0, and those of p and of q each to no less, so that both pairs sum to 0
  both_by_halves : (p q : ℕ) → p < 2 * n → q < 2 * n → ByHalves (halves D') p q (pos 0) → ByHalves (halves D') q p (pos 0) → Same D p q
  both_by_halves p q hp hq (x, y, u, v, h) (x', y', u', v', h') =
      let cp = consistent p hp u v' in
      let cq = consistent q hq u' v in
      let np = halves_near p u v' (zero_sum x y x' y' h h' cq) in
      let nq = halves_near q u' v (zero_sum x' y' x y h' h cp) in
      (tight_halves D p q np.0 nq.1 h, tight_halves D q p nq.0 np.1 h')
    where
      zero_sum : (x y x' y' : ℤ) → x +ℤ y ⩽ pos 0 → x' +ℤ y' ⩽ pos 0 → pos 0 ⩽ x' +ℤ y → x +ℤ y' ⩽ pos 0
      zero_sum x y x' y' = simp ints (omega arith)

  same_before : (p q : ℕ) → p < 2 * n → q < 2 * n → Same D' p q → Same D p q
  same_before p q hp hq s = go (tight_one_of D' p q s.0) (tight_one_of D' q p s.1)
    where
      nothing : pos 0 +ℤ pos 0 ⩽ equal_slack
      nothing = simp ints (omega arith)

      go : Up (D' p q) (pos 0) ⊎ ByHalves (halves D') p q (pos 0) → Up (D' q p) (pos 0) ⊎ ByHalves (halves D') q p (pos 0) → Same D p q
      go (inl d) (inl e) = (tight_direct D p q (near p q _ _ d e nothing), tight_direct D q p (near q p _ _ e d nothing))
      go (inl d) (inr k) = one_by_halves p q hp hq d k
      go (inr k) (inl e) = let s = one_by_halves q p hq hp e k in (s.1, s.0)
      go (inr k) (inr m) = both_by_halves p q hp hq k m

  pub points_stay : (p q : ℕ) → p < 2 * n → q < 2 * n → same_points_lem D' p q ≡ same_points_lem D p q
  points_stay p q hp hq =
      same_test (same_points_lem D' p q) (same_points_lem D p q)
      (λ e. test_of_same D p q (same_before p q hp hq (same_of_test D' p q e)))
      (λ e. let s = same_of_test D p q e in test_of_same D' p q (tight_less p q s.0, tight_less q p s.1))
    where
      same_test : (a b : Bool) → (a ≡ true → b ≡ true) → (b ≡ true → a ≡ true) → a ≡ b
      same_test true true f g = refl
      same_test true false f g = sym (f refl)
      same_test false true f g = g refl
      same_test false false f g = refl
