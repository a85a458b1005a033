-- The pigeonhole: of N + 1 numbers below N two are equal. So a walk with at least N steps (and at least one) has a closed part with 1 to N steps.
use Rattle.std.specs.Prelude.{◌≡◌, refl, ◌⊎◌, ◌≢◌, List, [], ◌∷◌, ◌++◌, ℕ, zero, suc, ◌+◌, ◌-◌, ◌≤◌, ◌<◌, min, max, length, take, drop}
use Rattle.std.proofs.Common.{sym, ◌∙◌, ap, inl, inr, arith, suc-add, zero-add, length-take, length-drop, take-append-drop}
use Rattle.std.proofs.Math.Decide.{ℕ_discrete, dec_lt}
use Rattle.steps.specs.declared.Step.{Step}
use Rattle.steps.specs.Walk.{Path}
use Rattle.theory_walks.specs.Row.{WithinPoints}
use Rattle.theory_walks.specs.Reach.{Steps, Walk, walk_rest, walk_start}

-- ---- numbers
-- two of f 0, .., f n are equal
pub record Twice (f : ℕ → ℕ) (n : ℕ) : Type 0 where
  pub i : ℕ
  pub j : ℕ
  pub order : i < j
  pub high : j ≤ n
  pub same : f i ≡ f j

Found : (ℕ → ℕ) → ℕ → ℕ → Type 0
Found f a n = (i : ℕ) × (i < n) × (f i ≡ a)

Missing : (ℕ → ℕ) → ℕ → ℕ → Type 0
Missing f a n = (i : ℕ) → i < n → f i ≢ a

-- one of the first n values is a, or none of them is
find : (f : ℕ → ℕ) (a n : ℕ) → Found f a n ⊎ Missing f a n
unfolding Found Missing
find f a zero = inr (λ i h. absurd (omega arith))
find f a (suc n) = go (ℕ_discrete (f n) a) (find f a n)
  where
    last : f n ≢ a → Missing f a n → (i : ℕ) → Dec (i ≡ n) → i < suc n → f i ≢ a
    last x k i (yes e) h y = x (ap f (sym e) ∙ y)
    last x k i (no d) h y = k i (omega arith) y

    go : Dec (f n ≡ a) → Found f a n ⊎ Missing f a n → Found f a (suc n) ⊎ Missing f a (suc n)
    go (yes e) _ = inl (n, omega arith, e)
    go (no d) (inl x) = inl (x.0, omega arith, x.2)
    go (no d) (inr k) = inr (λ i. last d k i (ℕ_discrete i n))

-- the numbers other than a, with the gap at a closed
close : ℕ → ℕ → ℕ
close a x = max (min x a) (x - 1)

close_lt : (a x n : ℕ) → a < suc n → x < suc n → x ≢ a → close a x < n
unfolding close
close_lt a x n h k d = omega arith

close_is : (a x : ℕ) → x ≢ a → ((x < a) × (close a x ≡ x)) ⊎ ((a < x) × (suc (close a x) ≡ x))
unfolding close
close_is a x d = go (dec_lt x a)
  where
    go : Dec (x < a) → ((x < a) × (max (min x a) (x - 1) ≡ x)) ⊎ ((a < x) × (suc (max (min x a) (x - 1)) ≡ x))
    go (yes h) = inl (h, omega arith)
    go (no h) = inr (omega arith, omega arith)

close_inj : (a x y : ℕ) → x ≢ a → y ≢ a → close a x ≡ close a y → x ≡ y
close_inj a x y d e h = go (close_is a x d) (close_is a y e)
  where
    go : ((x < a) × (close a x ≡ x)) ⊎ ((a < x) × (suc (close a x) ≡ x)) → ((y < a) × (close a y ≡ y)) ⊎ ((a < y) × (suc (close a y) ≡ y)) → x ≡ y
    go (inl p) (inl q) = omega arith
    go (inl p) (inr q) = omega arith
    go (inr p) (inl q) = omega arith
    go (inr p) (inr q) = omega arith

pub pigeon : (n : ℕ) (f : ℕ → ℕ) → ((i : ℕ) → i ≤ n → f i < n) → Twice f n
unfolding Found Missing
pigeon zero f h = absurd (omega (arith, h 0 (omega arith)))
pigeon (suc n) f h = go (find f (f (suc n)) (suc n)) (pigeon n (λ i. close (f (suc n)) (f i)))
  where
    a : ℕ
    a = f (suc n)

    go : Found f a (suc n) ⊎ Missing f a (suc n) → (((i : ℕ) → i ≤ n → close a (f i) < n) → Twice (λ i. close a (f i)) n) → Twice f (suc n)
    go (inl x) fewer = record { i = x.0; j = suc n; order = x.1; high = omega arith; same = x.2 }
    go (inr k) fewer =
        let t = fewer (λ i l. close_lt a (f i) n (h (suc n) (omega arith)) (h i (omega arith)) (k i (omega arith))) in
        record {
          i = t.i;
          j = t.j;
          order = t.order;
          high = omega (arith, t.high);
          same = close_inj a (f t.i) (f t.j) (k t.i (omega (arith, t.order, t.high))) (k t.j (omega (arith, t.high))) t.same;
        }

-- ---- the points of a walk: after i steps of ss from u
abbrev pub point_after : ℕ → List Step → ℕ → ℕ
point_after u ss zero = u
point_after u [] (suc i) = u
point_after u (s ∷ ss) (suc i) = point_after s.to ss i

path_take : (u v : ℕ) (ss : List Step) (i : ℕ) → Path u ss v → Path u (take i ss) (point_after u ss i)
path_take u v ss zero p = refl
path_take u v [] (suc i) p = refl
path_take u v (s ∷ ss) (suc i) p = (p.0, path_take s.to v ss i p.1)

path_drop : (u v : ℕ) (ss : List Step) (i : ℕ) → Path u ss v → Path (point_after u ss i) (drop i ss) v
path_drop u v ss zero p = p
path_drop u v [] (suc i) p = p
path_drop u v (s ∷ ss) (suc i) p = path_drop s.to v ss i p.1

steps_take : (E ss : List Step) (i : ℕ) → Steps E ss → Steps E (take i ss)
steps_take E ss zero a = tt
steps_take E [] (suc i) a = tt
steps_take E (s ∷ ss) (suc i) a = (a.0, steps_take E ss i a.1)

steps_drop : (E ss : List Step) (i : ℕ) → Steps E ss → Steps E (drop i ss)
steps_drop E ss zero a = a
steps_drop E [] (suc i) a = tt
steps_drop E (s ∷ ss) (suc i) a = steps_drop E ss i a.1

pub walk_take : {E : List Step} {u v : ℕ} (ss : List Step) (i : ℕ) → Walk E u ss v → Walk E u (take i ss) (point_after u ss i)
walk_take {E} {u} {v} ss i w = record { path = path_take u v ss i w.path; steps = steps_take E ss i w.steps }

pub walk_drop : {E : List Step} {u v : ℕ} (ss : List Step) (i : ℕ) → Walk E u ss v → Walk E (point_after u ss i) (drop i ss) v
walk_drop {E} {u} {v} ss i w = record { path = path_drop u v ss i w.path; steps = steps_drop E ss i w.steps }

after_none : (u i : ℕ) → point_after u [] i ≡ u
after_none u zero = refl
after_none u (suc i) = refl

after_drop : (u : ℕ) (ss : List Step) (i d : ℕ) → point_after (point_after u ss i) (drop i ss) d ≡ point_after u ss (i + d)
after_drop u ss zero d = ap (point_after u ss) (sym (zero-add d))
after_drop u [] (suc i) d = after_none u d ∙ sym (after_none u (suc i + d))
after_drop u (s ∷ ss) (suc i) d = after_drop s.to ss i d ∙ ap (point_after u (s ∷ ss)) (sym (suc-add i d))

pub after_lt : (E : List Step) (N : ℕ) → WithinPoints N E → (u v : ℕ) (ss : List Step) (i : ℕ) → u < N → Walk E u ss v → point_after u ss i < N
after_lt E N within u v ss zero h w = h
after_lt E N within u v [] (suc i) h w = h
after_lt E N within u v (s ∷ ss) (suc i) h w = after_lt E N within s.to v ss i (within s w.steps.0).1 (walk_rest s ss w)

-- ---- ss is `before`, then `closed`, then `after`; `closed` returns to where it begins and has 1 to N steps
pub record Split (E : List Step) (N u v : ℕ) (ss : List Step) : Type 0 where
  pub point : ℕ
  pub before : List Step
  pub closed : List Step
  pub after : List Step
  pub walk_before : Walk E u before point
  pub walk_closed : Walk E point closed point
  pub walk_after : Walk E point after v
  pub joined : ss ≡ before ++ (closed ++ after)
  pub nonempty : 0 < length closed
  pub few : length closed ≤ N

-- a walk that is at one point after i steps and after j has such a part between them
pub split_at : (E : List Step) (N : ℕ) (u v : ℕ) (ss : List Step) → Walk E u ss v → (m : ℕ) → m ≤ length ss → m ≤ N → Twice (point_after u ss) m → Split E N u v ss
split_at E N u v ss w m h k t =
    let d : ℕ = t.j - t.i in
    let rest = drop t.i ss in
    let q = walk_drop ss t.i w in
    let f : t.i + d ≡ t.j = omega (arith, t.order) in
    let e : point_after (point_after u ss t.i) rest d ≡ point_after u ss t.i =
    after_drop u ss t.i d ∙ ap (point_after u ss) f ∙ sym t.same in
    record {
      point = point_after u ss t.i;
      before = take t.i ss;
      closed = take d rest;
      after = drop d rest;
      walk_before = walk_take ss t.i w;
      walk_closed = rw e at (walk_take rest d q);
      walk_after = rw e at (walk_drop rest d q);
      joined = sym (take-append-drop t.i ss) ∙ ap (◌++◌ (take t.i ss)) (sym (take-append-drop d rest));
      nonempty = omega (arith, t.order, t.high, length-take d rest, length-drop t.i ss);
      few = omega (arith, t.order, t.high, length-take d rest);
    }

pub split_closed : (E : List Step) (N : ℕ) (u v : ℕ) (ss : List Step) (w : Walk E u ss v) (m : ℕ) (h : m ≤ length ss) (k : m ≤ N) (t : Twice (point_after u ss) m)
    → (split_at E N u v ss w m h k t).closed ≡ take (t.j - t.i) (drop t.i ss)
unfolding split_at
split_closed E N u v ss w m h k t = refl

-- the points of a walk are below N, so that among N + 1 of them one is there twice
pub twice_there : (E : List Step) (N : ℕ) → WithinPoints N E → (u v : ℕ) (ss : List Step) → u < N → Walk E u ss v → Twice (point_after u ss) N
twice_there E N within u v ss h w = pigeon N (point_after u ss) (λ i k. after_lt E N within u v ss i h w)

pub split : (E : List Step) (N : ℕ) → WithinPoints N E → (u v : ℕ) (ss : List Step) → Walk E u ss v → 0 < length ss → N ≤ length ss → Split E N u v ss
split E N within u v ss w z h = split_at E N u v ss w N h (omega arith) (twice_there E N within u v ss (walk_start E N within u v ss w z) w)
