-- A line's two steps, each of which may be there or not, put into the table one after the other. Where the first closes no walk of negative sum and
-- neither does the second, the table holds the distances of the steps with both; and else these have a closed walk of negative sum.
use Rattle.std.specs.Prelude.{◌≡◌, refl, Bool, true, false, ◌&&◌, List, ◌++◌, ℕ, ◌<◌, None, Option, Some}
use Rattle.std.proofs.Common.{ap, ap₂, ◌∙◌, inl, inr, ⊎_elim, append-nil}
use Rattle.integers.specs.Laws.{and_true}
use Rattle.steps.specs.declared.Step.{Step}
use Rattle.steps.specs.Step.{named}
use Rattle.theory_walks.specs.Distance.{Distance, min_d, ◌⊕◌, ◌⊞◌}
use Rattle.theory_walks.specs.Row.{WithinPoints, best}
use Rattle.theory_walks.specs.Least.{NoneNegative}
use Rattle.theory_walks.specs.Negative.{not_below0, no_negative, no_negative_true, no_negative_yes, negative_point, negative_walk, no_negative_found}
use Rattle.theory_bounds.specs.Tight.{Table}
use Rattle.theory_walks.specs.Graph.{in_left}
use Rattle.theory_bounds.specs.Agree.{Agree}
use Rattle.theory_inserting.specs.Members.{Among, in_either, walk_among}
use Rattle.theory_inserting.specs.Insert.{inserted, closing, insert_best, insert_test}

-- ---- definitions: a step that may be there
abbrev pub insert_named : Table → Option Step → Table
insert_named D (Some s) = inserted D s
insert_named D None = D

-- whether no closed walk through the step is negative
abbrev pub stays : Table → Option Step → Bool
stays D (Some s) = not_below0 (closing D s)
stays D None = true

-- both ends of a step that may be there are below N
abbrev pub EndsBelow : ℕ → Option Step → Type 0
EndsBelow N (Some s) = (s.from < N) × (s.to < N)
EndsBelow N None = Unit {0}

-- ---- tables that agree below N
module _ (N : ℕ) (D D' : Table) (same : Agree N D D') where
  pub closing_same : (s : Step) → s.from < N → s.to < N → closing D s ≡ closing D' s
  closing_same s h k = ap (λ (d : Distance). d ⊕ s.weight) (same s.to s.from k h)

  pub inserted_same : (s : Step) → s.from < N → s.to < N → Agree N (inserted D s) (inserted D' s)
  inserted_same s h k i j hi hj =
      ap₂ min_d (same i j hi hj) (ap₂ (λ (a b : Distance). a ⊕ s.weight ⊞ b) (same i s.from hi h) (same s.to j k hj))

  pub stays_same : (x : Option Step) → EndsBelow N x → stays D x ≡ stays D' x
  stays_same (Some s) e = ap not_below0 (closing_same s e.0 e.1)
  stays_same None e = refl

  pub named_same : (x : Option Step) → EndsBelow N x → Agree N (insert_named D x) (insert_named D' x)
  named_same (Some s) e = inserted_same s e.0 e.1
  named_same None e = same

-- ---- a closed walk of negative sum stays
pub negative_among : (E F : List Step) (N : ℕ) → WithinPoints N F → Among E F → no_negative E N ≡ false → no_negative F N ≡ false
negative_among E F N within a t =
    let w = negative_walk E N (negative_point E N t) in
    no_negative_found F N within w.point w.steps (walk_among a w.steps w.walk) w.negative

-- ---- a step that may be there
pub named_within : (E : List Step) (N : ℕ) → WithinPoints N E → (x : Option Step) → EndsBelow N x → WithinPoints N (E ++ named x)
named_within E N within x e t i = ⊎_elim (λ j. within t j) (λ j. own x e t j) (in_either E (named x) t i)
  where
    own : (x : Option Step) → EndsBelow N x → WithinPoints N (named x)
    own (Some s) e t (inl q) = rw q e
    own (Some s) e t (inr j) = absurd j
    own None e t j = absurd j

module _ (E : List Step) (N : ℕ) (within : WithinPoints N E) (nonneg : NoneNegative E N) (x : Option Step) (ends : EndsBelow N x) where
  pub named_test : no_negative (E ++ named x) N ≡ stays (best E N) x
  named_test = go x ends
    where
      go : (x : Option Step) → EndsBelow N x → no_negative (E ++ named x) N ≡ stays (best E N) x
      go (Some s) e = insert_test E N within nonneg s e.0 e.1
      go None e = ap (λ (F : List Step). no_negative F N) (append-nil E) ∙ no_negative_true E N nonneg

  pub named_best : stays (best E N) x ≡ true → (i j : ℕ) → best (E ++ named x) N i j ≡ insert_named (best E N) x i j
  named_best = go x ends
    where
      go : (x : Option Step) → EndsBelow N x → stays (best E N) x ≡ true → (i j : ℕ) → best (E ++ named x) N i j ≡ insert_named (best E N) x i j
      go (Some s) e t i j = insert_best E N within nonneg s e.0 e.1 t i j
      go None e t i j = ap (λ (F : List Step). best F N i j) (append-nil E)

  pub named_nonneg : stays (best E N) x ≡ true → NoneNegative (E ++ named x) N
  named_nonneg t = no_negative_yes (E ++ named x) N (named_test ∙ t)

-- ---- two of them
module _ (E : List Step) (N : ℕ) (within : WithinPoints N E) (nonneg : NoneNegative E N) (x y : Option Step) (ex : EndsBelow N x) (ey : EndsBelow N y) where
  -- E with the first
  abbrev F : List Step
  F = E ++ named x

  within_first : WithinPoints N F
  within_first = named_within E N within x ex

  first_same : stays (best E N) x ≡ true → Agree N (best F N) (insert_named (best E N) x)
  first_same t i j hi hj = named_best E N within nonneg x ex t i j

  second_same : stays (best E N) x ≡ true → stays (best F N) y ≡ stays (insert_named (best E N) x) y
  second_same t = stays_same N (best F N) (insert_named (best E N) x) (first_same t) y ey

  pub two_test : no_negative (F ++ named y) N ≡ (stays (best E N) x && stays (insert_named (best E N) x) y)
  two_test = go (stays (best E N) x) refl
    where
      go : (b : Bool) → stays (best E N) x ≡ b → no_negative (F ++ named y) N ≡ (b && stays (insert_named (best E N) x) y)
      go false t =
          negative_among F (F ++ named y) N (named_within F N within_first y ey) (λ t. in_left t F (named y)) (named_test E N within nonneg x ex ∙ t)
      go true t = named_test F N within_first (named_nonneg E N within nonneg x ex t) y ey ∙ second_same t

  pub two_best : (stays (best E N) x && stays (insert_named (best E N) x) y) ≡ true → Agree N (best (F ++ named y) N) (insert_named (insert_named (best E N) x) y)
  two_best t i j hi hj =
      let a = and_true (stays (best E N) x) (stays (insert_named (best E N) x) y) t in
      named_best F N within_first (named_nonneg E N within nonneg x ex a.0) y ey (second_same a.0 ∙ a.1) i j
      ∙ named_same N (best F N) (insert_named (best E N) x) (first_same a.0) y ey i j hi hj
