-- Only the members of a list of steps matter, not their order nor how often each stands there: with more members there are more walks.
use Rattle.std.specs.Prelude.{◌⊎◌, List, [], ◌∷◌, ◌++◌, ℕ}
use Rattle.std.proofs.Common.{inl, inr, ⊎_elim}
use Rattle.steps.specs.declared.Step.{Step}
use Rattle.theory_walks.specs.Row.{In}
use Rattle.theory_walks.specs.Reach.{Steps, Walk}

-- each step of E is in F
abbrev pub Among : List Step → List Step → Type 0
Among E F = (t : Step) → In t E → In t F

-- a step of two lists, one behind the other
pub in_either : (E F : List Step) (t : Step) → In t (E ++ F) → In t E ⊎ In t F
in_either [] F t i = inr i
in_either (s ∷ E) F t (inl e) = inl (inl e)
in_either (s ∷ E) F t (inr i) = ⊎_elim (λ j. inl (inr j)) (λ j. inr j) (in_either E F t i)

-- ---- walks
steps_among : (E F : List Step) → Among E F → (ss : List Step) → Steps E ss → Steps F ss
steps_among E F a [] m = tt
steps_among E F a (s ∷ ss) m = (a s m.0, steps_among E F a ss m.1)

pub walk_among : {E F : List Step} {u v : ℕ} → Among E F → (ss : List Step) → Walk E u ss v → Walk F u ss v
walk_among {E} {F} a ss w = record { path = w.path; steps = steps_among E F a ss w.steps }
