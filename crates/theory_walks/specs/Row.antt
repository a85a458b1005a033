-- Rows of least sums: a row holds a distance for each point. To relax a row is to go through all steps once (the field's term: a round of
-- Bellman and Ford); rounds of that, from the start row of a source, give the least sums of ever longer walks.
use Rattle.std.specs.Prelude.{◌≡◌, refl, ◌⊎◌, ℕ, zero, suc, ◌+◌, ◌≤◌, ◌<◌, ℤ, pos, length, get_or, set, replicate}
use Rattle.std.proofs.Common.{sym, ◌∙◌, ap, inl, inr, arith, suc-add, zero-add, length-set, get_or-set_same}
use mathlib.Core.List.{List, [], ◌∷◌, foldl}
use Rattle.std.proofs.Math.Decide.{dec_lt}
use Rattle.std.proofs.lemmas.List.{length-replicate}
use Rattle.std.proofs.Math.ListN.{get_or-eq_default}
use Rattle.integers.specs.Laws.{never}
use Rattle.steps.specs.declared.Step.{Step}
use Rattle.theory_walks.specs.Distance.{Distance, none, some, ◌⊑◌, min_d, ◌⊕◌, ⊑_refl, ⊑_trans, ⊑_of_eq, min_left, min_right, min_one}

-- a step is in a list of steps
abbrev pub In : Step → List Step → Type 0
In s [] = ⊥
In s (t ∷ ts) = (s ≡ t) ⊎ In s ts

-- both ends of every step are below N
abbrev pub WithinPoints : ℕ → List Step → Type 0
WithinPoints N E = (s : Step) → In s E → (s.from < N) × (s.to < N)

-- a row's entry; there is none beyond its end
abbrev pub at : List Distance → ℕ → Distance
at row p = get_or row p none

-- one step: the entry of its end in the new row gets no more than the entry of its start in the old row and the weight
abbrev pub relax_step : List Distance → List Distance → Step → List Distance
relax_step old new s = set new s.to (min_d (at new s.to) (at old s.from ⊕ s.weight))

abbrev pub relax_from : List Distance → List Distance → List Step → List Distance
relax_from old new E = foldl (relax_step old) new E

unfoldable pub relax_row : List Step → List Distance → List Distance
relax_row E row = relax_from row row E

-- 0 at the source u, none elsewhere
unfoldable pub start_row_lem : ℕ → ℕ → List Distance
start_row_lem N u = set (replicate N none) u (some (pos 0))

-- k rounds, the first one innermost
unfoldable pub rounds : List Step → ℕ → List Distance → List Distance
rounds E zero row = row
rounds E (suc k) row = rounds E k (relax_row E row)

-- row k of the source u
unfoldable pub row_at : List Step → ℕ → ℕ → ℕ → List Distance
row_at E N u k = rounds E k (start_row_lem N u)

-- the distance from u to v: as many rounds as there are points
unfoldable pub best : List Step → ℕ → ℕ → ℕ → Distance
best E N u v = at (row_at E N u N) v

-- ---- entries
pub some_is : {a b : ℤ} → some a ≡ some b → a ≡ b
some_is e = cc

-- an entry that is a number lies in the row
pub at_lt : (row : List Distance) (p : ℕ) (z : ℤ) → at row p ≡ some z → p < length row
at_lt row p z e = go (dec_lt p (length row))
  where
    beyond : length row ≤ p → none ≡ some z
    beyond h = sym (get_or-eq_default row none h) ∙ e

    go : Dec (p < length row) → p < length row
    go (yes h) = h
    go (no h) = let clash = beyond (omega arith) in never (cc)

-- after a store, an entry is as before or it is what was stored
Stored : List Distance → ℕ → Distance → ℕ → Type 0
Stored l i a q = (at (set l i a) q ≡ at l q) ⊎ ((q ≡ i) × (at (set l i a) q ≡ a))

stored : (l : List Distance) (i : ℕ) (a : Distance) (q : ℕ) → Stored l i a q
unfolding Stored
stored [] i a q = inl refl
stored (x ∷ xs) zero a zero = inr (refl, refl)
stored (x ∷ xs) zero a (suc q) = inl refl
stored (x ∷ xs) (suc i) a zero = inl refl
stored (x ∷ xs) (suc i) a (suc q) = next (stored xs i a q)
  where
    next : Stored xs i a q → Stored (x ∷ xs) (suc i) a (suc q)
    next (inl e) = inl e
    next (inr e) = inr (ap suc e.0, e.1)

-- ---- one step
module _ (old new : List Distance) (s : Step) where
  step_length : length (relax_step old new s) ≡ length new
  step_length = length-set new _ _

  step_le : (q : ℕ) → at (relax_step old new s) q ⊑ at new q
  unfolding Stored
  step_le q = go (stored new s.to _ q)
    where
      go : Stored new s.to (min_d (at new s.to) (at old s.from ⊕ s.weight)) q → at (relax_step old new s) q ⊑ at new q
      go (inl e) = ⊑_of_eq e
      go (inr e) = rw (e.1, e.0) (min_left _ _)

  step_step : s.to < length new → at (relax_step old new s) s.to ⊑ at old s.from ⊕ s.weight
  step_step h = rw (get_or-set_same new s.to _ none h) (min_right (at new s.to) (at old s.from ⊕ s.weight))

  step_one : (q : ℕ) → (at (relax_step old new s) q ≡ at new q) ⊎ ((q ≡ s.to) × (at (relax_step old new s) q ≡ at old s.from ⊕ s.weight))
  unfolding Stored
  step_one q = go (stored new s.to least q) (min_one _ _)
    where
      along : Distance
      along = at old s.from ⊕ s.weight

      least : Distance
      least = min_d (at new s.to) along

      go : Stored new s.to least q → (least ≡ at new s.to) ⊎ (least ≡ along)
          → (at (relax_step old new s) q ≡ at new q) ⊎ ((q ≡ s.to) × (at (relax_step old new s) q ≡ along))
      go (inl e) m = inl e
      go (inr e) (inl m) = inl (e.1 ∙ m ∙ ap (at new) (sym e.0))
      go (inr e) (inr m) = inr (e.0, e.1 ∙ m)

-- ---- all steps, from any row into any row
pub from_length : (old new : List Distance) (E : List Step) → length (relax_from old new E) ≡ length new
from_length old new [] = refl
from_length old new (s ∷ E) = from_length old (relax_step old new s) E ∙ step_length old new s

from_le : (old new : List Distance) (E : List Step) (q : ℕ) → at (relax_from old new E) q ⊑ at new q
from_le old new [] q = ⊑_refl _
from_le old new (s ∷ E) q = ⊑_trans (from_le old (relax_step old new s) E q) (step_le old new s q)

from_step : (old new : List Distance) (E : List Step) (s : Step) → In s E → s.to < length new → at (relax_from old new E) s.to ⊑ at old s.from ⊕ s.weight
from_step old new [] s i h = absurd i
from_step old new (t ∷ E) s (inl e) h = rw e (⊑_trans (from_le old (relax_step old new t) E t.to) (step_step old new t (rw e at h)))
from_step old new (t ∷ E) s (inr i) h = from_step old (relax_step old new t) E s i (rw (step_length old new t) h)

-- the value at q comes along a step of E
pub record Along (E : List Step) (old : List Distance) (q : ℕ) (d : Distance) : Type 0 where
  pub step : Step
  pub member : In step E
  pub ends : q ≡ step.to
  pub value : d ≡ at old step.from ⊕ step.weight

along_more : {E : List Step} {old : List Distance} {q : ℕ} {d : Distance} (t : Step) → Along E old q d → Along (t ∷ E) old q d
along_more t a = record { step = a.step; member = inr a.member; ends = a.ends; value = a.value }

from_one : (old new : List Distance) (E : List Step) (q : ℕ) → (at (relax_from old new E) q ≡ at new q) ⊎ Along E old q (at (relax_from old new E) q)
from_one old new [] q = inl refl
from_one old new (t ∷ E) q = go (from_one old (relax_step old new t) E q) (step_one old new t q)
  where
    v : Distance
    v = at (relax_from old (relax_step old new t) E) q

    go : (v ≡ at (relax_step old new t) q) ⊎ Along E old q v
        → (at (relax_step old new t) q ≡ at new q) ⊎ ((q ≡ t.to) × (at (relax_step old new t) q ≡ at old t.from ⊕ t.weight))
        → (v ≡ at new q) ⊎ Along (t ∷ E) old q v
    go (inl e) (inl f) = inl (e ∙ f)
    go (inl e) (inr f) = inr (record { step = t; member = inl refl; ends = f.0; value = e ∙ f.1 })
    go (inr a) _ = inr (along_more t a)

-- ---- a relaxed row: no entry is larger, every step is obeyed, and an entry that changed comes along a step
module _ (E : List Step) (row : List Distance) where
  pub relax_length : length (relax_row E row) ≡ length row
  unfolding relax_row
  relax_length = from_length row row E

  pub relax_le : (q : ℕ) → at (relax_row E row) q ⊑ at row q
  unfolding relax_row
  relax_le q = from_le row row E q

  pub relax_step_law : (s : Step) → In s E → s.to < length row → at (relax_row E row) s.to ⊑ at row s.from ⊕ s.weight
  unfolding relax_row
  relax_step_law s i h = from_step row row E s i h

  pub relax_one : (q : ℕ) → (at (relax_row E row) q ≡ at row q) ⊎ Along E row q (at (relax_row E row) q)
  unfolding relax_row
  relax_one q = from_one row row E q

-- ---- rounds
pub rounds_length : (E : List Step) (k : ℕ) (row : List Distance) → length (rounds E k row) ≡ length row
unfolding rounds
rounds_length E zero row = refl
rounds_length E (suc k) row = rounds_length E k (relax_row E row) ∙ relax_length E row

pub rounds_suc : (E : List Step) (k : ℕ) (row : List Distance) → rounds E (suc k) row ≡ relax_row E (rounds E k row)
unfolding rounds
rounds_suc E zero row = refl
rounds_suc E (suc k) row = rounds_suc E k (relax_row E row)

pub rounds_add : (E : List Step) (k j : ℕ) (row : List Distance) → rounds E (k + j) row ≡ rounds E j (rounds E k row)
unfolding rounds
rounds_add E zero j row = ap (λ (m : ℕ). rounds E m row) (zero-add j)
rounds_add E (suc k) j row = ap (λ (m : ℕ). rounds E m row) (suc-add k j) ∙ rounds_add E k j (relax_row E row)

-- ---- the start row
pub start_length : (N u : ℕ) → length (start_row_lem N u) ≡ N
unfolding start_row_lem
start_length N u = length-set (replicate N none) u _ ∙ length-replicate N none

pub start_self : (N u : ℕ) → u < N → at (start_row_lem N u) u ≡ some (pos 0)
unfolding start_row_lem
start_self N u h = get_or-set_same (replicate N none) u _ none (rw length-replicate h)

pub start_some : (N u p : ℕ) (z : ℤ) → at (start_row_lem N u) p ≡ some z → (p ≡ u) × (z ≡ pos 0)
unfolding start_row_lem Stored
start_some N u p z e = go (stored (replicate N none) u (some (pos 0)) p)
  where
    all_none : (N q : ℕ) → at (replicate N none) q ≡ none
    all_none zero q = refl
    all_none (suc N) zero = refl
    all_none (suc N) (suc q) = all_none N q

    go : Stored (replicate N none) u (some (pos 0)) p → (p ≡ u) × (z ≡ pos 0)
    go (inl f) = let clash = sym (all_none N p) ∙ sym f ∙ e in never (cc)
    go (inr f) = (f.0, some_is (sym e ∙ f.1))

-- ---- the rows of a source
pub row_length : (E : List Step) (N u k : ℕ) → length (row_at E N u k) ≡ N
unfolding row_at
row_length E N u k = rounds_length E k (start_row_lem N u) ∙ start_length N u

pub row_zero : (E : List Step) (N u : ℕ) → row_at E N u 0 ≡ start_row_lem N u
unfolding row_at rounds
row_zero E N u = refl

pub row_suc : (E : List Step) (N u k : ℕ) → row_at E N u (suc k) ≡ relax_row E (row_at E N u k)
unfolding row_at
row_suc E N u k = rounds_suc E k (start_row_lem N u)
