-- Extension of partial solutions: given the values of the variables in a list, which values one more variable may take, that there always is
-- one, and so that every partial solution extends to a solution.
use Rattle.std.specs.Prelude.{◌≡◌, refl, ◌⊎◌, List, [], ◌∷◌, ℕ, zero, suc, ◌<◌, ℤ, pos, neg_ℤ, ◌+ℤ◌}
use Rattle.std.proofs.Common.{sym, ◌∙◌, ap, subst, inl, inr, arith}
use Rattle.std.proofs.Math.Logic.{⊎_elim}
use Rattle.std.proofs.Math.Decide.{ℕ_discrete}
use Rattle.integers.specs.Integer.{◌⩽◌}
use Rattle.integers.proofs.Linear.{ints}
use Rattle.lines.specs.Line.{Assignment}
use Rattle.steps.specs.Point.{point, opposite, value, value_opposite, opposite_twice}
use Rattle.steps.proofs.PointLaws.{value_plus, value_minus}
use Rattle.theory_walks.specs.Distance.{Distance, some, min_d, ◌⊞◌, Up, up, up_le, le_refl, le_trans, up_mono, up_eq, up_plus, up_plus_e, up_min_l, up_min_r, up_min_e}
use Rattle.theory_bounds.specs.Points.{variable_of, variable_plus, variable_minus, variable_opposite, opposite_plus, which, same_variable, value_cong, assign, assign_same, assign_other}
use Rattle.theory_bounds.specs.Tight.{Table, Strong}
use Rattle.theory_bounds.specs.Near.{near, near_high, near_low, Gap}

-- ---- lists of variables
abbrev pub Among : ℕ → List ℕ → Type 0
Among x [] = ⊥
Among x (y ∷ ys) = (x ≡ y) ⊎ Among x ys

among_dec : (x : ℕ) (ys : List ℕ) → Among x ys ⊎ (¬ Among x ys)
among_dec x [] = inr (λ i. i)
among_dec x (y ∷ ys) = go (ℕ_discrete x y) (among_dec x ys)
  where
    go : Dec (x ≡ y) → Among x ys ⊎ (¬ Among x ys) → ((x ≡ y) ⊎ Among x ys) ⊎ (¬ ((x ≡ y) ⊎ Among x ys))
    go (yes e) d = inl (inl e)
    go (no f) (inl i) = inl (inr i)
    go (no f) (inr g) = inr (⊎_elim f g)

pub among_opposite : (p : ℕ) (xs : List ℕ) → Among (variable_of p) xs → Among (variable_of (opposite p)) xs
among_opposite p xs i = subst (λ x. Among x xs) (sym (variable_opposite p)) i

-- the variables below k
abbrev pub below : ℕ → List ℕ
below zero = []
below (suc k) = k ∷ below k

pub below_lt : (x k : ℕ) → Among x (below k) → x < k
below_lt x zero i = absurd i
below_lt x (suc k) (inl e) = omega arith
below_lt x (suc k) (inr i) = omega (arith, below_lt x k i)

pub lt_below : (x k : ℕ) → x < k → Among x (below k)
lt_below x zero l = absurd (omega arith)
lt_below x (suc k) l = go (lt_below x k) (ℕ_discrete x k)
  where
    go : (x < k → Among x (below k)) → Dec (x ≡ k) → (x ≡ k) ⊎ Among x (below k)
    go r (yes e) = inl e
    go r (no f) = inr (r (omega arith))

-- ---- s is a solution as far as the variables of done go
pub record Fits (T : Table) (done : List ℕ) (s : Assignment) : Type 0 where
  pub fits : (p q : ℕ) (a : ℤ) → Among (variable_of p) done → Among (variable_of q) done → Up (T p q) a → value s p ⩽ a +ℤ value s q

pub fits_part : {T : Table} {xs : List ℕ} (ys : List ℕ) {s : Assignment} → Fits T xs s → ((x : ℕ) → Among x ys → Among x xs) → Fits T ys s
fits_part ys f sub = record { fits = λ p q a i j u. f.fits p q a (sub (variable_of p) i) (sub (variable_of q) j) u }

pub fits_none : (T : Table) (s : Assignment) → Fits T [] s
fits_none T s = record { fits = λ p q a i j u. absurd i }

-- ---- the greatest value of a point p, given the values of the variables in done. The least value of a variable is this at its minus point.
unfoldable pub limit : Table → (ℕ → Distance) → Assignment → List ℕ → ℕ → Distance
limit T h s [] p = h p
limit T h s (x ∷ xs) p = min_d (limit T h s xs p) (min_d (T p (point x 0) ⊞ some (s x)) (T p (point x 1) ⊞ some (neg_ℤ (s x))))

-- why the limit is at most a: by the half of p, or by a point q of a variable in done
pub data Reason (T : Table) (h : ℕ → Distance) (s : Assignment) (done : List ℕ) (p : ℕ) (a : ℤ) : Type 0 where
  own : Up (h p) a → Reason T h s done p a
  via : (q : ℕ) (b : ℤ) → Among (variable_of q) done → Up (T p q) b → b +ℤ value s q ⩽ a → Reason T h s done p a

wider : {T : Table} {h : ℕ → Distance} {s : Assignment} {xs : List ℕ} {x p : ℕ} {a : ℤ} → Reason T h s xs p a → Reason T h s (x ∷ xs) p a
wider (own u) = own u
wider (via q b i u l) = via q b (inr i) u l

pub limit_reason : (T : Table) (h : ℕ → Distance) (s : Assignment) (done : List ℕ) (p : ℕ) (a : ℤ) → Up (limit T h s done p) a → Reason T h s done p a
unfolding limit
limit_reason T h s [] p a u = own u
limit_reason T h s (x ∷ xs) p a u =
    ⊎_elim (λ v. wider (limit_reason T h s xs p a v))
    (λ v. ⊎_elim (λ w. at (point x 0) (s x) (variable_plus x) (value_plus s x) (up_plus_e _ _ a w))
    (λ w. at (point x 1) (neg_ℤ (s x)) (variable_minus x) (value_minus s x) (up_plus_e _ _ a w)) (up_min_e _ _ a v))
    (up_min_e (limit T h s xs p) _ a u)
  where
    less : (b y a v w : ℤ) → w ≡ v → b +ℤ y ⩽ a → v ⩽ y → b +ℤ w ⩽ a
    less b y a v w = simp ints (omega arith)

    at : (q : ℕ) (v : ℤ) → variable_of q ≡ x → value s q ≡ v → ((b : ℤ) × (y : ℤ) × Up (T p q) b × Up (some v) y × (b +ℤ y ⩽ a)) → Reason T h s (x ∷ xs) p a
    at q v e f (b, y, t, vy, le) = via q b (inl e) t (less b y a v (value s q) f le (up_le vy))

limit_via : (T : Table) (h : ℕ → Distance) (s : Assignment) (done : List ℕ) (p q : ℕ) (b : ℤ) → Among (variable_of q) done → Up (T p q) b → Up (limit T h s done p) (b +ℤ value s q)
unfolding limit
limit_via T h s [] p q b i u = absurd i
limit_via T h s (x ∷ xs) p q b (inr i) u = up_min_l _ (limit_via T h s xs p q b i u)
limit_via T h s (x ∷ xs) p q b (inl e) u = up_min_r (limit T h s xs p) (⊎_elim plus minus (which q))
  where
    at : (r : ℕ) (v : ℤ) → value s r ≡ v → q ≡ r → Up (T p r ⊞ some v) (b +ℤ value s q)
    at r v f g = up_plus (up_eq (ap (T p) g) u) (up (same v (value s q) (sym f ∙ ap (value s) (sym g))))
      where
        same : (x y : ℤ) → x ≡ y → x ⩽ y
        same x y = simp ints (omega arith)

    plus : q ≡ point (variable_of q) 0 → Up (min_d (T p (point x 0) ⊞ some (s x)) (T p (point x 1) ⊞ some (neg_ℤ (s x)))) (b +ℤ value s q)
    plus f = up_min_l (T p (point x 1) ⊞ some (neg_ℤ (s x))) (at (point x 0) (s x) (value_plus s x) (f ∙ ap (λ y. point y 0) e))

    minus : q ≡ point (variable_of q) 1 → Up (min_d (T p (point x 0) ⊞ some (s x)) (T p (point x 1) ⊞ some (neg_ℤ (s x)))) (b +ℤ value s q)
    minus f = up_min_r (T p (point x 0) ⊞ some (s x)) (at (point x 1) (neg_ℤ (s x)) (value_minus s x) (f ∙ ap (λ y. point y 1) e))

limit_own : (T : Table) (h : ℕ → Distance) (s : Assignment) (done : List ℕ) (p : ℕ) {a : ℤ} → Up (h p) a → Up (limit T h s done p) a
unfolding limit
limit_own T h s [] p u = u
limit_own T h s (x ∷ xs) p u = up_min_l _ (limit_own T h s xs p u)

pub reason_limit : {T : Table} {h : ℕ → Distance} {s : Assignment} {done : List ℕ} {p : ℕ} {a : ℤ} → Reason T h s done p a → Up (limit T h s done p) a
reason_limit (own u) = limit_own _ _ _ _ _ u
reason_limit (via q b i u l) = up_mono (limit_via _ _ _ _ _ q b i u) l

-- only the values of the variables in done count
pub limit_cong : (T : Table) (h : ℕ → Distance) (s t : Assignment) (done : List ℕ) (p : ℕ) → ((x : ℕ) → Among x done → s x ≡ t x) → limit T h s done p ≡ limit T h t done p
unfolding limit
limit_cong T h s t [] p f = refl
limit_cong T h s t (x ∷ xs) p f = rw (limit_cong T h s t xs p (λ y i. f y (inr i)), f x (inl refl))

-- the value that y takes, given those of done: the possible one nearest zero
unfoldable pub pick : Table → (ℕ → Distance) → Assignment → List ℕ → ℕ → ℤ
pick T h s done y = near (limit T h s done (point y 0)) (limit T h s done (point y 1))

-- a solution of the variables in a list that has all below k, and that agrees with s on done
pub record Extension (T : Table) (done : List ℕ) (s : Assignment) (k : ℕ) : Type 0 where
  pub list : List ℕ
  pub assignment : Assignment
  pub fit : Fits T list assignment
  pub keeps : (x : ℕ) → Among x done → Among x list × (assignment x ≡ s x)
  pub covers : (x : ℕ) → x < k → Among x list

module _ (T : Table) (h : ℕ → Distance) (c : Strong T h) where
  mirror : {p q : ℕ} {a : ℤ} → Up (T p q) a → Up (T (opposite q) (opposite p)) a
  mirror {p} {q} u = up_eq (c.mirrored p q) u

  turn : (p q : ℕ) {a : ℤ} → Up (T (opposite p) q) a → Up (T (opposite q) p) a
  turn p q u = up_eq (ap (T (opposite q)) (opposite_twice p)) (mirror u)

  pub double : (p : ℕ) {a : ℤ} → Up (h p) a → Up (T p (opposite p)) (a +ℤ a)
  double p u = up_eq (sym (c.twice p)) (up_plus u u)

  -- ---- the least value is not above the greatest
  room_own : {done : List ℕ} {s : Assignment} (f : Fits T done s) (p q : ℕ) {a : ℤ} (b b' : ℤ) → Among (variable_of q) done → Up (h p) a → Up (T (opposite p) q) b' → b' +ℤ value s q ⩽ b → pos 0 ⩽ a +ℤ b
  room_own {done} {s} f p q {a} b b' i u t l =
      sum a b b' (value s q) (value s (opposite q)) (value_opposite s q) l
      (f.fits (opposite q) q _ (among_opposite q done i) i (c.triangle (turn p q t) (c.triangle (double p u) t)))
    where
      sum : (a b b' v w : ℤ) → w ≡ neg_ℤ v → b' +ℤ v ⩽ b → w ⩽ b' +ℤ (a +ℤ a +ℤ b') +ℤ v → pos 0 ⩽ a +ℤ b
      sum a b b' v w = simp ints (omega arith)

  room : {done : List ℕ} {s : Assignment} → Fits T done s → (p : ℕ) (a b : ℤ) → Reason T h s done p a → Reason T h s done (opposite p) b → pos 0 ⩽ a +ℤ b
  room f p a b (own u) (own v) = c.consistent p u v
  room f p a b (own u) (via q b' i t l) = room_own f p q b b' i u t l
  room f p a b (via q a' i t l) (own v) = swap b a (room_own f (opposite p) q a a' i v (rw opposite_twice t) l)
    where
      swap : (a b : ℤ) → pos 0 ⩽ a +ℤ b → pos 0 ⩽ b +ℤ a
      swap a b = simp ints (omega arith)
  room {done} {s} f p a b (via q a' i t l) (via q' b' i' t' l') =
      sum a b a' b' (value s q) (value s q') (value s (opposite q')) (value_opposite s q') l l'
      (f.fits (opposite q') q _ (among_opposite q' done i') i (c.triangle (turn p q' t') t))
    where
      sum : (a b a' b' v v' w : ℤ) → w ≡ neg_ℤ v' → a' +ℤ v ⩽ a → b' +ℤ v' ⩽ b → w ⩽ b' +ℤ a' +ℤ v → pos 0 ⩽ a +ℤ b
      sum a b a' b' v v' w = simp ints (omega arith)

  pub gap : (done : List ℕ) (s : Assignment) → Fits T done s → (p : ℕ) → Gap (limit T h s done p) (limit T h s done (opposite p))
  gap done s f p a b u v = room f p a b (limit_reason T h s done p a u) (limit_reason T h s done (opposite p) b v)

  -- ---- every value from the least to the greatest is possible
  module _ (done : List ℕ) (s : Assignment) (f : Fits T done s) (y : ℕ) (fresh : ¬ Among y done) (v : ℤ)
      (hi : (a : ℤ) → Reason T h s done (point y 0) a → v ⩽ a) (lo : (a : ℤ) → Reason T h s done (point y 1) a → neg_ℤ v ⩽ a) where
    s' : Assignment
    s' = assign s y v

    old : (p : ℕ) → Among (variable_of p) done → value s' p ≡ value s p
    unfolding s'
    old p i = value_cong (assign s y v) s p (assign_other s y v (variable_of p) (λ e. fresh (subst (λ x. Among x done) e i)))

    new : (p : ℕ) → variable_of p ≡ y → (a : ℤ) → Reason T h s done p a → value s' p ⩽ a
    unfolding s'
    new p e a m = ⊎_elim plus minus (which p)
      where
        below_of : (x w a : ℤ) → x ≡ w → w ⩽ a → x ⩽ a
        below_of x w a = simp ints (omega arith)

        plus : p ≡ point (variable_of p) 0 → value (assign s y v) p ⩽ a
        plus g =
            let k : p ≡ point y 0 = g ∙ ap (λ x. point x 0) e in
            below_of _ v a (ap (value (assign s y v)) k ∙ value_plus (assign s y v) y ∙ assign_same s y v) (hi a (subst (λ x. Reason T h s done x a) k m))

        minus : p ≡ point (variable_of p) 1 → value (assign s y v) p ⩽ a
        minus g =
            let k : p ≡ point y 1 = g ∙ ap (λ x. point x 1) e in
            below_of _ (neg_ℤ v) a (ap (value (assign s y v)) k ∙ value_minus (assign s y v) y ∙ ap neg_ℤ (assign_same s y v)) (lo a (subst (λ x. Reason T h s done x a) k m))

    placed : (p q : ℕ) (a : ℤ) → Among (variable_of p) (y ∷ done) → Among (variable_of q) (y ∷ done) → Up (T p q) a → value s' p ⩽ a +ℤ value s' q
    placed p q a (inl e) (inl g) u = ⊎_elim same opposed (same_variable p q (e ∙ sym g))
      where
        zero_apart : (a v w : ℤ) → pos 0 ⩽ a → v ≡ w → v ⩽ a +ℤ w
        zero_apart a v w = simp ints (omega arith)

        twice : (a x y v w : ℤ) → x +ℤ y ⩽ a → v ⩽ x → v ⩽ y → w ≡ neg_ℤ v → v ⩽ a +ℤ w
        twice a x y v w = simp ints (omega arith)

        same : q ≡ p → value s' p ⩽ a +ℤ value s' q
        same k = zero_apart a _ _ (up_le (up_eq (ap (T p) k ∙ c.diagonal p) u)) (ap (value s') (sym k))

        opposed : q ≡ opposite p → value s' p ⩽ a +ℤ value s' q
        opposed k = by_halves (up_plus_e (h p) (h p) a (up_eq (ap (T p) k ∙ c.twice p) u))
          where
            by_halves : ((x : ℤ) × (z : ℤ) × Up (h p) x × Up (h p) z × (x +ℤ z ⩽ a)) → value s' p ⩽ a +ℤ value s' q
            by_halves (x, z, hx, hz, le) = twice a x z _ _ le (new p e x (own hx)) (new p e z (own hz)) (ap (value s') k ∙ value_opposite s' p)
    placed p q a (inl e) (inr j) u = onto a _ _ _ (old q j) (new p e _ (via q a j u (le_refl _)))
      where
        onto : (a v w w' : ℤ) → w' ≡ w → v ⩽ a +ℤ w → v ⩽ a +ℤ w'
        onto a v w w' = simp ints (omega arith)
    placed p q a (inr i) (inl g) u =
        flip a (value s p) _ (value s (opposite p)) _ (value s' (opposite q)) (old p i) (value_opposite s p) (value_opposite s' q)
        (new (opposite q) (variable_opposite q ∙ g) _ (via (opposite p) a (among_opposite p done i) (mirror u) (le_refl _)))
      where
        flip : (a p p' p̄ q q̄ : ℤ) → p' ≡ p → p̄ ≡ neg_ℤ p → q̄ ≡ neg_ℤ q → q̄ ⩽ a +ℤ p̄ → p' ⩽ a +ℤ q
        flip a p p' p̄ q q̄ = simp ints (omega arith)
    placed p q a (inr i) (inr j) u = both a _ _ _ _ (old p i) (old q j) (f.fits p q a i j u)
      where
        both : (a p p' q q' : ℤ) → p' ≡ p → q' ≡ q → p ⩽ a +ℤ q → p' ⩽ a +ℤ q'
        both a p p' q q' = simp ints (omega arith)

    pub place : Fits T (y ∷ done) (assign s y v)
    unfolding s'
    place = record { fits = placed }

  -- ---- and no other: a solution's value is within the limit
  pub within : {all : List ℕ} (done : List ℕ) (s : Assignment) → Fits T all s → ((x : ℕ) → Among x done → Among x all) → (p : ℕ) → Among (variable_of p) all → (a : ℤ) → Reason T h s done p a → value s p ⩽ a
  within {all} done s f sub p i a (own u) = half_of a _ _ (value_opposite s p) (f.fits p (opposite p) _ i (among_opposite p all i) (double p u))
    where
      half_of : (a v w : ℤ) → w ≡ neg_ℤ v → v ⩽ a +ℤ a +ℤ w → v ⩽ a
      half_of a v w = simp ints (omega arith)
  within {all} done s f sub p i a (via q b j u l) = le_trans (f.fits p q b i (sub (variable_of q) j) u) l

  -- ---- extension
  pub place_pick : (done : List ℕ) (s : Assignment) → Fits T done s → (y : ℕ) → ¬ Among y done → Fits T (y ∷ done) (assign s y (pick T h s done y))
  unfolding pick
  place_pick done s f y fresh =
      place done s f y fresh (pick T h s done y) (λ a m. near_high _ _ room_at a (reason_limit m))
      (λ a m. near_low (limit T h s done (point y 0)) _ a (reason_limit m))
    where
      room_at : Gap (limit T h s done (point y 0)) (limit T h s done (point y 1))
      room_at = rw (← opposite_plus y) (gap done s f (point y 0))

  extend_to : (done : List ℕ) (s : Assignment) → Fits T done s → (k : ℕ) → Extension T done s k
  extend_to done s f zero = record { list = done; assignment = s; fit = f; keeps = λ x i. (i, refl); covers = λ x l. absurd (omega arith) }
  extend_to done s f (suc k) = one_more (extend_to done s f k)
    where
      more : (xs : List ℕ) → ((x : ℕ) → x < k → Among x xs) → Among k xs → (x : ℕ) → x < suc k → Among x xs
      more xs g i x l = go (ℕ_discrete x k)
        where
          go : Dec (x ≡ k) → Among x xs
          go (yes e) = subst (λ y. Among y xs) (sym e) i
          go (no e) = g x (omega arith)

      one_more : Extension T done s k → Extension T done s (suc k)
      one_more E = ⊎_elim there here (among_dec k E.list)
        where
          there : Among k E.list → Extension T done s (suc k)
          there i = record { list = E.list; assignment = E.assignment; fit = E.fit; keeps = E.keeps; covers = more E.list E.covers i }

          here : ¬ Among k E.list → Extension T done s (suc k)
          here out =
              record {
                list = k ∷ E.list;
                assignment = assign E.assignment k (pick T h E.assignment E.list k);
                fit = place_pick E.list E.assignment E.fit k out;
                keeps = λ x i. (inr (E.keeps x i).0, assign_other E.assignment k _ x (λ e. out (subst (λ y. Among y E.list) e (E.keeps x i).0)) ∙ (E.keeps x i).1);
                covers = more (k ∷ E.list) (λ x l. inr (E.covers x l)) (inl refl);
              }

  -- every partial solution extends to a solution
  pub extend : (n : ℕ) (done : List ℕ) (s : Assignment) → Fits T done s → (t : Assignment) × Fits T (below n) t × ((x : ℕ) → Among x done → t x ≡ s x)
  extend n done s f =
      let E = extend_to done s f n in
      (E.assignment, fits_part (below n) E.fit (λ x i. E.covers x (below_lt x n i)), λ x i. (E.keeps x i).1)
