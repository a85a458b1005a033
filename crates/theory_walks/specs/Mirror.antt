-- Where with each step its mirror image is there, the distance from i to j is that from the opposite of j to the opposite of i.
use Rattle.std.specs.Prelude.{◌≡◌, refl, List, [], ◌∷◌, ◌++◌, ℕ, ◌%◌, ◌<◌, ℤ, pos, ◌+ℤ◌, length}
use Rattle.std.proofs.Common.{sym, ◌∙◌, ap, arith, length-append}
use Rattle.integers.proofs.Linear.{ints}
use Rattle.steps.specs.declared.Step.{Step}
use Rattle.steps.specs.Point.{opposite, opposite_twice}
use Rattle.steps.specs.Walk.{Path, total, total_append, path_append}
use Rattle.theory_walks.specs.Distance.{Distance, none, some, ◌⊑◌, ⊑_trans, ⊑_of_eq, ⊑_anti, le_none}
use Rattle.theory_walks.specs.Row.{In, WithinPoints, best}
use Rattle.theory_walks.specs.Reach.{Steps, Walk, steps_append}
use Rattle.theory_walks.specs.Least.{best_attained, best_short, best_range}

-- the mirror image of p → q is opposite q → opposite p, of the same weight: both say the same
abbrev pub mirror : Step → Step
mirror s = record { from = opposite s.to; to = opposite s.from; weight = s.weight }

-- with each step its mirror image is in E
abbrev pub Mirrored : List Step → Type 0
Mirrored E = (s : Step) → In s E → In (mirror s) E

-- a walk, mirrored: the mirror images from the last to the first
abbrev pub mirror_steps : List Step → List Step
mirror_steps [] = []
mirror_steps (s ∷ ss) = mirror_steps ss ++ mirror s ∷ []

pub mirror_length : (ss : List Step) → length (mirror_steps ss) ≡ length ss
mirror_length [] = refl
mirror_length (s ∷ ss) = omega (arith, length-append (mirror_steps ss) (mirror s ∷ []), mirror_length ss)

pub mirror_total : (ss : List Step) → total (mirror_steps ss) ≡ total ss
mirror_total [] = refl
mirror_total (s ∷ ss) = total_append (mirror_steps ss) (mirror s ∷ []) ∙ swap (total (mirror_steps ss)) (total ss) s.weight (mirror_total ss)
  where
    swap : (a b w : ℤ) → a ≡ b → a +ℤ (w +ℤ pos 0) ≡ w +ℤ b
    swap a b w = simp ints (omega arith)

pub mirror_path : (u v : ℕ) (ss : List Step) → Path u ss v → Path (opposite v) (mirror_steps ss) (opposite u)
mirror_path u v [] p = ap opposite (sym p)
mirror_path u v (s ∷ ss) p =
    path_append (opposite v) (opposite s.to) (opposite u) (mirror_steps ss) (mirror s ∷ []) (mirror_path s.to v ss p.1) (refl, ap opposite (sym p.0))

mirror_steps_law : (E : List Step) → Mirrored E → (ss : List Step) → Steps E ss → Steps E (mirror_steps ss)
mirror_steps_law E m [] a = tt
mirror_steps_law E m (s ∷ ss) a = steps_append E (mirror_steps ss) (mirror s ∷ []) (mirror_steps_law E m ss a.1) (m s a.0, tt)

pub mirror_walk : {E : List Step} {u v : ℕ} → Mirrored E → (ss : List Step) → Walk E u ss v → Walk E (opposite v) (mirror_steps ss) (opposite u)
mirror_walk {E} {u} {v} m ss w = record { path = mirror_path u v ss w.path; steps = mirror_steps_law E m ss w.steps }

-- the points below an even number are pairs of opposites
pub opposite_lt : (N p : ℕ) → N % 2 ≡ 0 → p < N → opposite p < N
unfolding opposite
opposite_lt N p even h = omega arith

module _ (E : List Step) (N : ℕ) (within : WithinPoints N E) (mirrors : Mirrored E) (even : N % 2 ≡ 0) where
  mirror_le : (i j : ℕ) → best E N (opposite j) (opposite i) ⊑ best E N i j
  mirror_le i j = go (best E N i j) refl
    where
      go : (d : Distance) → best E N i j ≡ d → best E N (opposite j) (opposite i) ⊑ d
      go none e = le_none _
      go (some z) e =
          let r = best_attained E N i j z e in
          let h = opposite_lt N j even (best_range E N i j z e).1 in
          ⊑_trans (best_short E N within (opposite j) (opposite i) h (mirror_steps r.steps) (mirror_walk mirrors r.steps r.walk) (omega (arith, mirror_length r.steps, r.count)))
          (⊑_of_eq (ap some (mirror_total r.steps ∙ r.sum)))

  -- at all numbers: beyond N there is no distance
  pub best_mirror : (i j : ℕ) → best E N i j ≡ best E N (opposite j) (opposite i)
  best_mirror i j = ⊑_anti (rw (opposite_twice i, opposite_twice j) at (mirror_le (opposite j) (opposite i))) (mirror_le i j)
