-- What the rows hold: entry v of row k of the source u is the least sum of the walks from u to v with at most k steps.
-- And the early stop: once a row is equal to its relaxed row, all later rows are equal to it.
use Rattle.std.specs.Prelude.{◌≡◌, refl, ◌⊎◌, List, [], ◌∷◌, ◌++◌, ℕ, zero, suc, ◌+◌, ◌-◌, ◌≤◌, ◌<◌, ℤ, pos, ◌+ℤ◌, length}
use Rattle.std.proofs.Common.{sym, ◌∙◌, ap, inl, inr, suc-le-suc, arith}
use Rattle.integers.proofs.Linear.{ints}
use Rattle.steps.specs.declared.Step.{Step}
use Rattle.steps.specs.Walk.{Path, total, path_append}
use Rattle.theory_walks.specs.Distance.{Distance, some, ◌⊑◌, ◌⊕◌, ⊑_refl, ⊑_trans, ⊑_of_eq, ⊕_mono, ⊕_assoc, ⊕_zero, ⊕_some}
use Rattle.theory_walks.specs.Row.{In, WithinPoints, at, relax_row, start_row_lem, rounds, row_at, Along, at_lt, relax_length, relax_le, relax_step_law, relax_one, rounds_add, start_length, start_self, start_some, row_length}

-- ---- walks
-- each of the steps ss is in E
abbrev pub Steps : List Step → List Step → Type 0
Steps E [] = Unit {0}
Steps E (s ∷ ss) = In s E × Steps E ss

-- from u by the steps ss, each of them in E, to v
pub record Walk (E : List Step) (u : ℕ) (ss : List Step) (v : ℕ) : Type 0 where
  pub path : Path u ss v
  pub steps : Steps E ss

pub walk_none : {E : List Step} (u : ℕ) → Walk E u [] u
walk_none u = record { path = refl; steps = tt }

pub walk_one : {E : List Step} (s : Step) → In s E → Walk E s.from (s ∷ []) s.to
walk_one s i = record { path = (refl, refl); steps = (i, tt) }

pub walk_rest : {E : List Step} {u v : ℕ} (s : Step) (ss : List Step) → Walk E u (s ∷ ss) v → Walk E s.to ss v
walk_rest s ss w = record { path = w.path.1; steps = w.steps.1 }

pub steps_append : (E ss ts : List Step) → Steps E ss → Steps E ts → Steps E (ss ++ ts)
steps_append E [] ts a b = b
steps_append E (s ∷ ss) ts a b = (a.0, steps_append E ss ts a.1 b)

pub walk_append : {E : List Step} {u v : ℕ} (m : ℕ) (ss ts : List Step) → Walk E u ss m → Walk E m ts v → Walk E u (ss ++ ts) v
walk_append {E} {u} {v} m ss ts a b = record {
  path = path_append u m v ss ts a.path b.path;
  steps = steps_append E ss ts a.steps b.steps;
}

-- a walk with a step begins at a point below N
pub walk_start : (E : List Step) (N : ℕ) → WithinPoints N E → (u v : ℕ) (ss : List Step) → Walk E u ss v → 0 < length ss → u < N
walk_start E N within u v [] w h = absurd (omega arith)
walk_start E N within u v (s ∷ ss) w h = rw w.path.0 (within s w.steps.0).0

-- there is a walk from u to v with at most k steps and of sum z
pub record Reaches (E : List Step) (u v k : ℕ) (z : ℤ) : Type 0 where
  pub steps : List Step
  pub walk : Walk E u steps v
  pub count : length steps ≤ k
  pub sum : total steps ≡ z

-- ---- rounds from any row
-- the value z at v comes from a number of the row, by a walk with at most k steps
pub record From (E : List Step) (row : List Distance) (k v : ℕ) (z : ℤ) : Type 0 where
  pub start : ℕ
  pub base : ℤ
  pub begins : at row start ≡ some base
  pub steps : List Step
  pub walk : Walk E start steps v
  pub count : length steps ≤ k
  pub sum : base +ℤ total steps ≡ z

plus_zero : (a : ℤ) → a +ℤ pos 0 ≡ a
plus_zero a = simp ints (omega arith)

zero_plus : (a : ℤ) → pos 0 +ℤ a ≡ a
zero_plus a = simp ints (omega arith)

pub rounds_attained : (E : List Step) (k : ℕ) (row : List Distance) (v : ℕ) (z : ℤ) → at (rounds E k row) v ≡ some z → From E row k v z
unfolding rounds
rounds_attained E zero row v z e = record { start = v; base = z; begins = e; steps = []; walk = walk_none v; count = omega arith; sum = plus_zero z }
rounds_attained E (suc k) row v z e = earlier (rounds_attained E k (relax_row E row) v z e)
  where
    regroup : (a w t b z : ℤ) → a +ℤ w ≡ b → b +ℤ t ≡ z → a +ℤ (w +ℤ t) ≡ z
    regroup a w t b z = simp ints (omega arith)

    go : (r : From E (relax_row E row) k v z) → (at (relax_row E row) r.start ≡ at row r.start) ⊎ Along E row r.start (at (relax_row E row) r.start) → From E row (suc k) v z
    go r (inl f) = record { start = r.start; base = r.base; begins = sym f ∙ r.begins; steps = r.steps; walk = r.walk; count = omega (arith, r.count); sum = r.sum }
    go r (inr a) =
        let x = ⊕_some (at row a.step.from) a.step.weight r.base (sym a.value ∙ r.begins) in
        record {
          start = a.step.from;
          base = x.0;
          begins = x.1;
          steps = a.step ∷ r.steps;
          walk = record { path = (refl, rw a.ends at r.walk.path); steps = (a.member, r.walk.steps) };
          count = suc-le-suc r.count;
          sum = regroup x.0 a.step.weight (total r.steps) r.base z x.2 r.sum;
        }

    earlier : From E (relax_row E row) k v z → From E row (suc k) v z
    earlier r = go r (relax_one E row r.start)

-- no entry ever grows
pub rounds_le : (E : List Step) (k : ℕ) (row : List Distance) (q : ℕ) → at (rounds E k row) q ⊑ at row q
unfolding rounds
rounds_le E zero row q = ⊑_refl _
rounds_le E (suc k) row q = ⊑_trans (rounds_le E k (relax_row E row) q) (relax_le E row q)

pub rounds_least : (E : List Step) (N : ℕ) → WithinPoints N E → (k : ℕ) (row : List Distance) → length row ≡ N
    → (u v : ℕ) (ss : List Step) → Walk E u ss v → length ss ≤ k → at (rounds E k row) v ⊑ at row u ⊕ total ss
unfolding rounds
rounds_least E N within k row l u v [] w h = rw (⊕_zero, w.path) (rounds_le E k row v)
rounds_least E N within zero row l u v (s ∷ ss) w h = absurd (omega arith)
rounds_least E N within (suc k) row l u v (s ∷ ss) w h =
    ⊑_trans (rounds_least E N within k (relax_row E row) (relax_length E row ∙ l) s.to v ss (walk_rest s ss w) (omega arith))
    (⊑_trans (⊕_mono (total ss) (relax_step_law E row s w.steps.0 (omega (arith, l, (within s w.steps.0).1))))
    (⊑_of_eq (rw w.path.0 (⊕_assoc (at row s.from) s.weight (total ss)))))

-- ---- the rows of a source: an entry is the sum of a walk
pub row_attained : (E : List Step) (N u k v : ℕ) (z : ℤ) → at (row_at E N u k) v ≡ some z → Reaches E u v k z
unfolding row_at
row_attained E N u k v z e =
    let r = rounds_attained E k (start_row_lem N u) v z e in
    let s = start_some N u r.start r.base r.begins in
    record {
      steps = r.steps;
      walk = rw s.0 at r.walk;
      count = r.count;
      sum = sym (zero_plus (total r.steps)) ∙ ap (λ (x : ℤ). x +ℤ total r.steps) (sym s.1) ∙ r.sum;
    }

-- an entry is at most the sum of every walk of so few steps
pub row_least : (E : List Step) (N : ℕ) → WithinPoints N E → (u k v : ℕ) → u < N → (ss : List Step) → Walk E u ss v → length ss ≤ k
    → at (row_at E N u k) v ⊑ some (total ss)
unfolding row_at
row_least E N within u k v h ss w c =
    ⊑_trans (rounds_least E N within k (start_row_lem N u) (start_length N u) u v ss w c)
    (⊑_of_eq (ap (λ (d : Distance). d ⊕ total ss) (start_self N u h) ∙ ap some (zero_plus (total ss))))

-- only the rows of points below N have entries, and only at points below N
row_source : (E : List Step) (N u k v : ℕ) (z : ℤ) → at (row_at E N u k) v ≡ some z → u < N
unfolding row_at
row_source E N u k v z e =
    let r = rounds_attained E k (start_row_lem N u) v z e in
    let s = start_some N u r.start r.base r.begins in
    rw (s.0, start_length N u) at (at_lt (start_row_lem N u) r.start r.base r.begins)

pub row_range : (E : List Step) (N u k v : ℕ) (z : ℤ) → at (row_at E N u k) v ≡ some z → (u < N) × (v < N)
row_range E N u k v z e = (row_source E N u k v z e, rw (row_length E N u k) at (at_lt (row_at E N u k) v z e))

-- ---- the early stop
pub row_add : (E : List Step) (N u k j : ℕ) → row_at E N u (k + j) ≡ rounds E j (row_at E N u k)
unfolding row_at
row_add E N u k j = rounds_add E k j (start_row_lem N u)

pub rounds_fixed : (E : List Step) (row : List Distance) → relax_row E row ≡ row → (j : ℕ) → rounds E j row ≡ row
unfolding rounds
rounds_fixed E row e zero = refl
rounds_fixed E row e (suc j) = ap (rounds E j) e ∙ rounds_fixed E row e j

pub row_fixed : (E : List Step) (N u k : ℕ) → relax_row E (row_at E N u k) ≡ row_at E N u k → (j : ℕ) → k ≤ j → row_at E N u j ≡ row_at E N u k
row_fixed E N u k e j h =
    let d : j ≡ k + (j - k) = omega arith in
    ap (row_at E N u) d ∙ row_add E N u k (j - k) ∙ rounds_fixed E (row_at E N u k) e (j - k)
