-- A table closed through one point after the other (the field's term: the method of Floyd and Warshall), on numbers that potentials make no less than 0:
-- after the points below k, an entry is at most the reduced sum of every walk that passes only through points below k.
use Rattle.std.specs.Prelude.{◌≡◌, refl, ◌⊎◌, List, [], ◌∷◌, ◌++◌, ℕ, zero, suc, ◌≤◌, ◌<◌, ℤ, pos, ◌+ℤ◌, length}
use Rattle.std.proofs.Common.{sym, ap, ◌∙◌, inl, inr, arith}
use Rattle.std.proofs.Math.Decide.{ℕ_discrete}
use Rattle.integers.specs.Integer.{◌⩽◌}
use Rattle.integers.proofs.Linear.{ints}
use Rattle.steps.specs.declared.Step.{Step}
use Rattle.steps.specs.Walk.{total, total_append}
use Rattle.theory_walks.specs.Row.{In, WithinPoints}
use Rattle.theory_walks.specs.Reach.{Walk, walk_rest}

-- all points between the first and the last are below k
abbrev pub Inner : ℕ → List Step → Type 0
Inner k [] = Unit {0}
Inner k (s ∷ []) = Unit {0}
Inner k (s ∷ t ∷ ss) = (s.to < k) × Inner k (t ∷ ss)

inner_all : (E : List Step) (N : ℕ) → WithinPoints N E → (i j : ℕ) (ss : List Step) → Walk E i ss j → Inner N ss
inner_all E N within i j [] w = tt
inner_all E N within i j (s ∷ []) w = tt
inner_all E N within i j (s ∷ t ∷ ss) w = ((within s w.steps.0).1, inner_all E N within s.to j (t ∷ ss) (walk_rest s (t ∷ ss) w))

-- a walk that passes through k: up to its first visit, and from there
record Visits (E : List Step) (k i j : ℕ) (ss : List Step) : Type 0 where
  first : Step
  firsts : List Step
  then : Step
  thens : List Step
  joined : ss ≡ (first ∷ firsts) ++ (then ∷ thens)
  fewer : length (then ∷ thens) < length ss
  walk_to : Walk E i (first ∷ firsts) k
  inner_to : Inner k (first ∷ firsts)
  walk_from : Walk E k (then ∷ thens) j
  inner_from : Inner (suc k) (then ∷ thens)

visit_sum : {E : List Step} {k i j : ℕ} {ss : List Step} (v : Visits E k i j ss) → total ss ≡ total (v.first ∷ v.firsts) +ℤ total (v.then ∷ v.thens)
visit_sum v = ap total v.joined ∙ total_append (v.first ∷ v.firsts) (v.then ∷ v.thens)

visits : (E : List Step) (k i j : ℕ) (s : Step) (ss : List Step) → Walk E i (s ∷ ss) j → Inner (suc k) (s ∷ ss) → Inner k (s ∷ ss) ⊎ Visits E k i j (s ∷ ss)
visits E k i j s [] w n = inl tt
visits E k i j s (t ∷ ss) w n = go (ℕ_discrete s.to k) (visits E k s.to j t ss (walk_rest s (t ∷ ss) w) n.1)
  where
    go : Dec (s.to ≡ k) → Inner k (t ∷ ss) ⊎ Visits E k s.to j (t ∷ ss) → Inner k (s ∷ t ∷ ss) ⊎ Visits E k i j (s ∷ t ∷ ss)
    go (yes e) later =
        inr
        (record {
          first = s;
          firsts = [];
          then = t;
          thens = ss;
          joined = refl;
          fewer = omega arith;
          walk_to = record { path = (w.path.0, e); steps = (w.steps.0, tt) };
          inner_to = tt;
          walk_from = rw e at (walk_rest s (t ∷ ss) w);
          inner_from = n.1;
        })
    go (no d) (inl m) = inl (omega (arith, d, n.0), m)
    go (no d) (inr v) =
        inr
        (record {
          first = s;
          firsts = v.first ∷ v.firsts;
          then = v.then;
          thens = v.thens;
          joined = ap (λ (l : List Step). s ∷ l) v.joined;
          fewer = omega (arith, v.fewer);
          walk_to = record { path = (w.path.0, v.walk_to.path); steps = (w.steps.0, v.walk_to.steps) };
          inner_to = (omega (arith, d, n.0), v.inner_to);
          walk_from = v.walk_from;
          inner_from = v.inner_from;
        })

-- an entry from each point to each, and a number of each point
module _ (E : List Step) (N : ℕ) (q : ℕ → ℤ) where
  -- twice the sum of a walk from i to j, and the number of i, less that of j, is no less than z
  abbrev pub Under : ℕ → ℕ → ℤ → List Step → Type 0
  Under i j z ss = z +ℤ q j ⩽ (total ss +ℤ total ss) +ℤ q i

  -- of every walk with a step that passes only through points below k
  abbrev pub Through : ℕ → (ℕ → ℕ → ℤ) → Type 0
  Through k T = (i j : ℕ) → i < N → j < N → (s : Step) (ss : List Step) → Walk E i (s ∷ ss) j → Inner k (s ∷ ss) → Under i j (T i j) (s ∷ ss)

  -- through no point: a walk of one step
  pub through_none : (T : ℕ → ℕ → ℤ) → ((s : Step) → In s E → Under s.from s.to (T s.from s.to) (s ∷ [])) → Through 0 T
  through_none T f i j hi hj s [] w n = rw (w.path.0, sym w.path.1) (f s w.steps.0)
  through_none T f i j hi hj s (t ∷ ss) w n = absurd (omega (arith, n.0))

  -- through k too
  module _ (k : ℕ) (k_lt : k < N) (T U : ℕ → ℕ → ℤ) (through : Through k T) (low : pos 0 ⩽ T k k)
      (no_more : (i j : ℕ) → i < N → j < N → U i j ⩽ T i j) (by_two : (i j : ℕ) → i < N → j < N → U i j ⩽ T i k +ℤ T k j) where
    -- from k on: parts that return to k are not negative
    from_there : (m : ℕ) (j : ℕ) → j < N → (s : Step) (ss : List Step) → length (s ∷ ss) ≤ m → Walk E k (s ∷ ss) j → Inner (suc k) (s ∷ ss) → Under k j (T k j) (s ∷ ss)
    from_there zero j hj s ss l w n = absurd (omega arith)
    from_there (suc m) j hj s ss l w n = go (visits E k k j s ss w n) (from_there m j hj)
      where
        go : Inner k (s ∷ ss) ⊎ Visits E k k j (s ∷ ss) → ((t : Step) (ts : List Step) → length (t ∷ ts) ≤ m → Walk E k (t ∷ ts) j → Inner (suc k) (t ∷ ts) → Under k j (T k j) (t ∷ ts)) → Under k j (T k j) (s ∷ ss)
        go (inl i) shorter = through k j k_lt hj s ss w i
        go (inr v) shorter =
            let a = through k k k_lt k_lt v.first v.firsts v.walk_to v.inner_to in
            let b = shorter v.then v.thens (omega (arith, v.fewer)) v.walk_from v.inner_from in
            skip (T k k) (T k j) (total (v.first ∷ v.firsts)) (total (v.then ∷ v.thens)) (total (s ∷ ss)) (q k) (q j) (visit_sum v) low a b
          where
            skip : (c z a b t x y : ℤ) → t ≡ a +ℤ b → pos 0 ⩽ c → c +ℤ x ⩽ (a +ℤ a) +ℤ x → z +ℤ y ⩽ (b +ℤ b) +ℤ x → z +ℤ y ⩽ (t +ℤ t) +ℤ x
            skip c z a b t x y = simp ints (omega arith)

    pub through_more : Through (suc k) U
    through_more i j hi hj s ss w n = go (visits E k i j s ss w n)
      where
        go : Inner k (s ∷ ss) ⊎ Visits E k i j (s ∷ ss) → Under i j (U i j) (s ∷ ss)
        go (inl m) = less (U i j) (T i j) (q j) ((total (s ∷ ss) +ℤ total (s ∷ ss)) +ℤ q i) (no_more i j hi hj) (through i j hi hj s ss w m)
          where
            less : (u t y r : ℤ) → u ⩽ t → t +ℤ y ⩽ r → u +ℤ y ⩽ r
            less u t y r = simp ints (omega arith)
        go (inr v) =
            let a = through i k hi k_lt v.first v.firsts v.walk_to v.inner_to in
            let b = from_there (length (v.then ∷ v.thens)) j hj v.then v.thens (omega arith) v.walk_from v.inner_from in
            both (U i j) (T i k) (T k j) (total (v.first ∷ v.firsts)) (total (v.then ∷ v.thens)) (total (s ∷ ss)) (q i) (q k) (q j) (visit_sum v) (by_two i j hi hj) a b
          where
            both : (u c d a b t x y z : ℤ) → t ≡ a +ℤ b → u ⩽ c +ℤ d → c +ℤ y ⩽ (a +ℤ a) +ℤ x → d +ℤ z ⩽ (b +ℤ b) +ℤ y → u +ℤ z ⩽ (t +ℤ t) +ℤ x
            both u c d a b t x y z = simp ints (omega arith)

  -- through all points: every walk, that of no step too where the diagonal is no more than 0
  pub through_all : WithinPoints N E → (T : ℕ → ℕ → ℤ) → Through N T → ((i : ℕ) → i < N → T i i ⩽ pos 0) → (i j : ℕ) → i < N → j < N → (ss : List Step) → Walk E i ss j → Under i j (T i j) ss
  through_all within T through diagonal i j hi hj [] w = rw (sym w.path) (none (T i i) (q i) (diagonal i hi))
    where
      none : (z x : ℤ) → z ⩽ pos 0 → z +ℤ x ⩽ (pos 0 +ℤ pos 0) +ℤ x
      none z x = simp ints (omega arith)
  through_all within T through diagonal i j hi hj (s ∷ ss) w = through i j hi hj s ss w (inner_all E N within i j (s ∷ ss) w)
