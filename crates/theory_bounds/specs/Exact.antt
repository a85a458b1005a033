-- The tightened table is exact: a point takes its half as its greatest value, or values without limit where there is no half; a difference of
-- two points takes the distance, or values without limit; and so two points are equal in all solutions exactly if both distances are at most 0.
use Rattle.std.specs.Prelude.{◌≡◌, refl, ◌↔◌, List, [], ◌∷◌, ℕ, ◌+◌, ◌<◌, ℤ, pos, negsuc, neg_ℤ, nat_abs, ◌+ℤ◌}
use Rattle.std.proofs.Common.{sym, ◌∙◌, ap, subst, inl, inr, ⊎_elim, arith}
use Rattle.std.proofs.Math.Decide.{ℕ_discrete}
use Rattle.integers.specs.Integer.{◌⩽◌, half}
use Rattle.integers.proofs.Linear.{ints}
use Rattle.lines.specs.Line.{Assignment}
use Rattle.steps.specs.Point.{point, opposite, value, value_opposite, opposite_twice}
use Rattle.steps.proofs.PointLaws.{value_plus, value_minus}
use Rattle.theory_walks.specs.Distance.{Distance, none, some, Up, Below, up_le, le_trans, up_some, up_eq, up_dec, not_none}
use Rattle.theory_bounds.specs.Points.{variable_of, opposite_plus, opposite_minus, which, same_variable, value_cong, assign, assign_same, assign_other}
use Rattle.theory_bounds.specs.Tight.{Table, Strong}
use Rattle.theory_bounds.specs.Near.{above, above_given, above_low, above_high, size, far_below, far_below_sum}
use Rattle.theory_bounds.specs.Extend.{Among, below, lt_below, Fits, fits_none, limit, Reason, own, via, limit_reason, reason_limit, double, gap, place, within, extend}
use Rattle.theory_bounds.specs.Model.{model, model_fits}

module _ (T : Table) (h : ℕ → Distance) (c : Strong T h) where
  -- ---- one more point, whichever of its variable's two it is
  -- a partial solution with the variable of p besides, the value of p being v
  abbrev Placed : List ℕ → Assignment → ℕ → ℤ → Type 0
  Placed done s p v = (t : Assignment) × Fits T (variable_of p ∷ done) t × (value t p ≡ v) × ((x : ℕ) → Among x done → t x ≡ s x)

  place_point : (done : List ℕ) (s : Assignment) → Fits T done s → (p : ℕ) → ¬ Among (variable_of p) done → (v : ℤ)
      → ((a : ℤ) → Reason T h s done p a → v ⩽ a) → ((a : ℤ) → Reason T h s done (opposite p) a → neg_ℤ v ⩽ a) → Placed done s p v
  place_point done s f p fresh v hi lo = ⊎_elim plus minus (which p)
    where
      keep : (z : ℤ) (x : ℕ) → Among x done → assign s (variable_of p) z x ≡ s x
      keep z x i = assign_other s (variable_of p) z x (λ e. fresh (subst (λ y. Among y done) e i))

      moved : {q r : ℕ} {a : ℤ} → q ≡ r → Reason T h s done q a → Reason T h s done r a
      moved {a} e m = subst (λ q. Reason T h s done q a) e m

      back_le : (v a : ℤ) → v ⩽ a → neg_ℤ (neg_ℤ v) ⩽ a
      back_le v a = simp ints (omega arith)

      back : (v w : ℤ) → w ≡ neg_ℤ v → neg_ℤ w ≡ v
      back v w = simp ints (omega arith)

      plus : p ≡ point (variable_of p) 0 → Placed done s p v
      plus e = (
        assign s (variable_of p) v,
        place T h c done s f (variable_of p) fresh v (λ a m. hi a (moved (sym e) m))
            (λ a m. lo a (moved (sym (opposite_plus (variable_of p)) ∙ ap opposite (sym e)) m)),
        ap (value (assign s (variable_of p) v)) e ∙ value_plus (assign s (variable_of p) v) (variable_of p) ∙ assign_same s (variable_of p) v,
        keep v,
      )

      minus : p ≡ point (variable_of p) 1 → Placed done s p v
      minus e = (
        assign s (variable_of p) (neg_ℤ v),
        place T h c done s f (variable_of p) fresh (neg_ℤ v) (λ a m. lo a (moved (sym (opposite_minus (variable_of p)) ∙ ap opposite (sym e)) m))
            (λ a m. back_le v a (hi a (moved (sym e) m))),
        ap (value (assign s (variable_of p) (neg_ℤ v))) e
            ∙ value_minus (assign s (variable_of p) (neg_ℤ v)) (variable_of p)
            ∙ back v _ (assign_same s (variable_of p) (neg_ℤ v)),
        keep (neg_ℤ v),
      )

  -- ---- the bounds of a point
  -- the first point to be chosen is bound by its halves alone
  place_first : (p : ℕ) (v : ℤ) → Below v (h p) → Below (neg_ℤ v) (h (opposite p)) → Placed [] (λ x. pos 0) p v
  place_first p v hi lo = place_point [] (λ x. pos 0) (fits_none T _) p (λ i. i) v (λ a m. hi a (own_only m)) (λ a m. lo a (own_only m))
    where
      own_only : {s : Assignment} {p : ℕ} {a : ℤ} → Reason T h s [] p a → Up (h p) a
      own_only (own u) = u
      own_only (via q b i u l) = absurd i

  -- every value that the two halves allow is taken
  pub reached : (n p : ℕ) (v : ℤ) → Below v (h p) → Below (neg_ℤ v) (h (opposite p)) → (t : Assignment) × Fits T (below n) t × (value t p ≡ v)
  reached n p v hi lo =
      let w = place_first p v hi lo in
      let e = extend T h c n (variable_of p ∷ []) w.0 w.1 in
      (e.0, e.1, value_cong e.0 w.0 p (e.2 (variable_of p) (inl refl)) ∙ w.2)

  pub bounded : (n p : ℕ) (t : Assignment) → Fits T (below n) t → variable_of p < n → Below (value t p) (h p)
  bounded n p t f l = λ a u. within T h c [] t f (λ x i. absurd i) p (lt_below (variable_of p) n l) a (own u)

  pub attained : (n p : ℕ) (d : ℤ) → h p ≡ some d → (t : Assignment) × Fits T (below n) t × (value t p ≡ d)
  attained n p d e = reached n p d (λ a u. up_le (up_eq e u)) (λ a u. turn d a (c.consistent p (up_some e) u))
    where
      turn : (d a : ℤ) → pos 0 ⩽ d +ℤ a → neg_ℤ d ⩽ a
      turn d a = simp ints (omega arith)

  pub unbounded : (n p : ℕ) → h p ≡ none → (M : ℤ) → (t : Assignment) × Fits T (below n) t × (M ⩽ value t p)
  unbounded n p e M =
      let w = reached n p (above (h (opposite p)) M) (λ a u. not_none (up_eq e u)) (above_low (h (opposite p)) M) in
      (w.0, w.1, rw w.2 (above_given (h (opposite p)) M))

  -- ---- differences
  -- a solution in which p is at least m above q
  abbrev Apart : ℕ → ℕ → ℕ → ℤ → Type 0
  Apart n p q m = (t : Assignment) × Fits T (below n) t × (value t q +ℤ m ⩽ value t p)

  -- a value w of q from which p can be m above
  record Start (m : ℤ) (p q : ℕ) (w : ℤ) : Type 0 where
    q_high : Below w (h q)
    q_low : Below (neg_ℤ w) (h (opposite q))
    p_high : Below (w +ℤ m) (h p)
    sum_high : Below (w +ℤ w +ℤ m) (T p (opposite q))

  start : (m : ℤ) (p q : ℕ) → Below m (T p q) → (w : ℤ) × Start m p q w
  start m p q le = go (h (opposite q)) refl
    where
      over : (e a : ℤ) → pos 0 ⩽ a +ℤ e → neg_ℤ e ⩽ a
      over e a = simp ints (omega arith)

      back : (e a : ℤ) → e ⩽ a → neg_ℤ (neg_ℤ e) ⩽ a
      back e a = simp ints (omega arith)

      under : (m e a : ℤ) → m ⩽ a +ℤ e → neg_ℤ e +ℤ m ⩽ a
      under m e a = simp ints (omega arith)

      under_twice : (m e a : ℤ) → m ⩽ a +ℤ (e +ℤ e) → neg_ℤ e +ℤ neg_ℤ e +ℤ m ⩽ a
      under_twice m e a = simp ints (omega arith)

      far_twice : (k : ℕ) → negsuc (k + nat_abs m) +ℤ negsuc (k + nat_abs m) +ℤ m ⩽ negsuc k
      far_twice k = le_trans (less (negsuc (k + nat_abs m)) m (record { le = tt })) (far_below_sum k m)
        where
          less : (a m : ℤ) → a ⩽ pos 0 → a +ℤ a +ℤ m ⩽ a +ℤ m
          less a m = simp ints (omega arith)

      go : (b : Distance) → h (opposite q) ≡ b → (w : ℤ) × Start m p q w
      -- q has a least value: it takes that
      go (some e) eq = (
        neg_ℤ e,
        record {
          q_high = λ a u. over e a (c.consistent q u (up_some eq));
          q_low = λ a u. back e a (up_le (up_eq eq u));
          p_high = λ a u. under m e a (le _ (c.joined q u (up_some eq)));
          sum_high = λ a u. under_twice m e a (le _ (c.triangle u (up_eq (ap (T (opposite q)) (opposite_twice q)) (double T h c (opposite q) (up_some eq)))));
        },
      )
      -- q has none: it goes far below everything
      go none eq =
          let k = size (h q) + (size (h p) + size (T p (opposite q))) in (
            negsuc (k + nat_abs m),
            record {
              q_high = far_below (h q) (k + nat_abs m) (omega arith);
              q_low = λ a u. not_none (up_eq eq u);
              p_high = λ a u. le_trans (far_below_sum k m) (far_below (h p) k (omega arith) a u);
              sum_high = λ a u. le_trans (far_twice k) (far_below (T p (opposite q)) k (omega arith) a u);
            },
          )

  -- points of two variables: first q, then p
  exact_two : (n p q : ℕ) → ¬ (variable_of p ≡ variable_of q) → (m : ℤ) → Below m (T p q) → Apart n p q m
  exact_two n p q differ m le = finish (start m p q le)
    where
      direct : (w b v a : ℤ) → v ≡ w → m ⩽ b → b +ℤ v ⩽ a → w +ℤ m ⩽ a
      direct w b v a = simp ints (omega arith)

      opposed : (w b v v' a : ℤ) → v ≡ w → v' ≡ neg_ℤ v → w +ℤ w +ℤ m ⩽ b → b +ℤ v' ⩽ a → w +ℤ m ⩽ a
      opposed w b v v' a = simp ints (omega arith)

      last : (w v v' z : ℤ) → v ≡ w → v' ≡ z → w +ℤ m ⩽ z → v +ℤ m ⩽ v'
      last w v v' z = simp ints (omega arith)

      finish : ((w : ℤ) × Start m p q w) → Apart n p q m
      finish (w, st) = (
        e.0,
        e.1,
        last w _ _ z
            (value_cong e.0 t₂.0 q (e.2 (variable_of q) (inr (inl refl))) ∙ value_cong t₂.0 t₁.0 q (t₂.3 (variable_of q) (inl refl)) ∙ t₁.2)
            (value_cong e.0 t₂.0 p (e.2 (variable_of p) (inl refl)) ∙ t₂.2) (above_given least (w +ℤ m)),
      )
        where
          done : List ℕ
          done = variable_of q ∷ []

          t₁ : Placed [] (λ x. pos 0) q w
          t₁ = place_first q w st.q_high st.q_low

          greatest : Distance
          greatest = limit T h t₁.0 done p

          least : Distance
          least = limit T h t₁.0 done (opposite p)

          z : ℤ
          z = above least (w +ℤ m)

          room : (a : ℤ) → Reason T h t₁.0 done p a → w +ℤ m ⩽ a
          room a (own u) = st.p_high a u
          room a (via r b (inl i) u l) =
              ⊎_elim (λ k. direct w b (value t₁.0 r) a (ap (value t₁.0) k ∙ t₁.2) (le b (up_eq (ap (T p) k) u)) l)
              (λ k. opposed w b (value t₁.0 q) (value t₁.0 r) a t₁.2 (ap (value t₁.0) k ∙ value_opposite t₁.0 q) (st.sum_high b (up_eq (ap (T p) k) u)) l)
              (same_variable q r (sym i))
          room a (via r b (inr i) u l) = absurd i

          t₂ : Placed done t₁.0 p z
          t₂ =
              place_point done t₁.0 t₁.1 p (⊎_elim differ (λ i. i)) z
              (λ a m'. above_high greatest least (w +ℤ m) (gap T h c done t₁.0 t₁.1 p) (λ a u. room a (limit_reason T h t₁.0 done p a u)) a (reason_limit m'))
              (λ a m'. above_low least (w +ℤ m) a (reason_limit m'))

          e : (t : Assignment) × Fits T (below n) t × ((x : ℕ) → Among x (variable_of p ∷ done) → t x ≡ t₂.0 x)
          e = extend T h c n (variable_of p ∷ done) t₂.0 t₂.1

  -- a point and its opposite: half of m, rounded up
  exact_opposite : (n p : ℕ) (m : ℤ) → Below m (T p (opposite p)) → Apart n p (opposite p) m
  exact_opposite n p m le =
      (w.0, w.1, last m v (value w.0 p) (value w.0 (opposite p)) w.2 (value_opposite w.0 p) (covers m v (above_given (h (opposite p)) (half_up m))))
    where
      half_up : ℤ → ℤ
      half_up m = neg_ℤ (half (neg_ℤ m))

      covers : (m v : ℤ) → neg_ℤ (half (neg_ℤ m)) ⩽ v → m ⩽ v +ℤ v
      covers m v = simp ints (omega arith)

      least : (m a : ℤ) → m ⩽ a +ℤ a → neg_ℤ (half (neg_ℤ m)) ⩽ a
      least m a = simp ints (omega arith)

      last : (m v x y : ℤ) → x ≡ v → y ≡ neg_ℤ x → m ⩽ v +ℤ v → y +ℤ m ⩽ x
      last m v x y = simp ints (omega arith)

      v : ℤ
      v = above (h (opposite p)) (half_up m)

      w : (t : Assignment) × Fits T (below n) t × (value t p ≡ v)
      w =
          reached n p v
          (above_high (h p) (h (opposite p)) (half_up m) (λ a b u u'. c.consistent p u u') (λ a u. least m a (le (a +ℤ a) (double T h c p u))))
          (above_low (h (opposite p)) (half_up m))

  -- what the table allows, a solution has
  pub exact : (n p q : ℕ) (m : ℤ) → Below m (T p q) → (t : Assignment) × Fits T (below n) t × (value t q +ℤ m ⩽ value t p)
  exact n p q m le = go (ℕ_discrete (variable_of p) (variable_of q))
    where
      small : (m v : ℤ) → m ⩽ pos 0 → v +ℤ m ⩽ v
      small m v = simp ints (omega arith)

      same : q ≡ p → Apart n p q m
      same k = rw k (model T h n, model_fits T h c n, small m (value (model T h n) p) (le (pos 0) (up_some (ap (T p) k ∙ c.diagonal p))))

      opposed : q ≡ opposite p → Apart n p q m
      opposed k = rw k (exact_opposite n p m (λ a u. le a (up_eq (ap (T p) (sym k)) u)))

      go : Dec (variable_of p ≡ variable_of q) → Apart n p q m
      go (no f) = exact_two n p q f m le
      go (yes e) = ⊎_elim same opposed (same_variable p q e)

  -- ---- all solutions agree on two points exactly if both distances are at most 0
  pub groups : (n p q : ℕ) → variable_of p < n → variable_of q < n
      → ((t : Assignment) → Fits T (below n) t → value t p ≡ value t q) ↔ (Up (T p q) (pos 0) × Up (T q p) (pos 0))
  groups n p q i j = ((λ f. (one_way p q f, one_way q p (λ t g. sym (f t g)))), (λ w t f. agree t f w.0 w.1))
    where
      equal : (a b : ℤ) → a ⩽ pos 0 +ℤ b → b ⩽ pos 0 +ℤ a → a ≡ b
      equal a b = simp ints (omega arith)

      agree : (t : Assignment) → Fits T (below n) t → Up (T p q) (pos 0) → Up (T q p) (pos 0) → value t p ≡ value t q
      agree t f u v = equal _ _ (f.fits p q _ (lt_below _ n i) (lt_below _ n j) u) (f.fits q p _ (lt_below _ n j) (lt_below _ n i) v)

      clash : (a b : ℤ) → a ≡ b → b +ℤ (pos 0 +ℤ pos 1) ⩽ a → ⊥
      clash a b = simp ints (omega arith)

      one_way : (p q : ℕ) → ((t : Assignment) → Fits T (below n) t → value t p ≡ value t q) → Up (T p q) (pos 0)
      one_way p q f = ⊎_elim (λ u. u) (λ b. let w = exact n p q _ b in absurd (clash _ _ (f w.0 w.1) w.2)) (up_dec (T p q) (pos 0))
