-- Steps that stand for others under a renaming of points: the distances of the ones are those of the others. Two cases: of the steps between the
-- same two points only the lightest is kept, and every step has its ends renamed.
use Rattle.std.specs.Prelude.{◌≡◌, refl, true, List, [], ◌∷◌, map, ℕ, suc, ◌<◌, ℤ, pos, ◌+ℤ◌, length}
use Rattle.std.proofs.Common.{sym, ◌∙◌, ap, inl, inr, arith}
use Rattle.integers.specs.Integer.{◌⩽◌}
use Rattle.integers.proofs.Linear.{ints}
use Rattle.steps.specs.declared.Step.{Step}
use Rattle.steps.specs.Point.{opposite, opposite_twice}
use Rattle.steps.specs.Walk.{total}
use Rattle.theory_walks.specs.Distance.{Distance, none, some, ◌⊑◌, ⊑_trans, ⊑_of_eq, ⊑_anti, some_le, le_none, le_refl, le_antisym}
use Rattle.theory_walks.specs.Row.{In, WithinPoints, best}
use Rattle.theory_walks.specs.Reach.{Walk, walk_rest}
use Rattle.theory_walks.specs.Least.{best_attained, best_short}
use Rattle.theory_walks.specs.Negative.{no_negative, no_negative_yes, no_negative_true}
use Rattle.theory_walks.specs.Mirror.{mirror, Mirrored}

-- a step of F between the renamed ends of s, no heavier
pub record Lighter (ρ : ℕ → ℕ) (F : List Step) (s : Step) : Type 0 where
  pub step : Step
  pub member : In step F
  pub from_same : step.from ≡ ρ s.from
  pub to_same : step.to ≡ ρ s.to
  pub light : step.weight ⩽ s.weight

-- every step of E has such a step in F
abbrev pub Covers : (ℕ → ℕ) → List Step → List Step → Type 0
Covers ρ F E = (s : Step) → In s E → Lighter ρ F s

-- a walk of as many steps between the renamed ends, of a sum that is no larger
record LightWalk (ρ : ℕ → ℕ) (F : List Step) (u v : ℕ) (ss : List Step) : Type 0 where
  steps : List Step
  walk : Walk F (ρ u) steps (ρ v)
  count : length steps ≡ length ss
  less : total steps ⩽ total ss

light_walk : (ρ : ℕ → ℕ) (E F : List Step) → Covers ρ F E → (u v : ℕ) (ss : List Step) → Walk E u ss v → LightWalk ρ F u v ss
light_walk ρ E F c u v [] w = record { steps = []; walk = record { path = ap ρ w.path; steps = tt }; count = refl; less = le_refl _ }
light_walk ρ E F c u v (s ∷ ss) w =
    let t = c s w.steps.0 in
    let r = light_walk ρ E F c s.to v ss (walk_rest s ss w) in
    record {
      steps = t.step ∷ r.steps;
      walk = record { path = (ap ρ w.path.0 ∙ sym t.from_same, rw t.to_same r.walk.path); steps = (t.member, r.walk.steps) };
      count = ap suc r.count;
      less = both t.step.weight s.weight (total r.steps) (total ss) t.light r.less;
    }
  where
    both : (a b x y : ℤ) → a ⩽ b → x ⩽ y → a +ℤ x ⩽ b +ℤ y
    both a b x y = simp ints (omega arith)

-- where F covers E, no distance of F is larger: a walk over E of at most N steps has one over F of as many
pub covers_best : (ρ : ℕ → ℕ) (E F : List Step) (N : ℕ) → WithinPoints N F → Covers ρ F E → (u v : ℕ) → ρ u < N → best F N (ρ u) (ρ v) ⊑ best E N u v
covers_best ρ E F N within c u v h = go (best E N u v) refl
  where
    go : (d : Distance) → best E N u v ≡ d → best F N (ρ u) (ρ v) ⊑ d
    go none e = le_none _
    go (some z) e =
        let r = best_attained E N u v z e in
        let q = light_walk ρ E F c u v r.steps r.walk in
        ⊑_trans (best_short F N within (ρ u) (ρ v) h q.steps q.walk (omega (arith, q.count, r.count))) (some_le (rw r.sum at q.less))

-- ---- points renamed one to one
-- ρ renames the points below N, and back undoes it
pub record Renaming (N : ℕ) (ρ back : ℕ → ℕ) : Type 0 where
  pub low : (p : ℕ) → p < N → ρ p < N
  pub back_low : (p : ℕ) → p < N → back p < N
  pub undone : (p : ℕ) → p < N → back (ρ p) ≡ p
  pub redone : (p : ℕ) → p < N → ρ (back p) ≡ p

module _ (N : ℕ) (ρ back : ℕ → ℕ) (r : Renaming N ρ back) (E F : List Step) (within : WithinPoints N E) (within-renamed : WithinPoints N F) (covers : Covers ρ F E) (covers-back : Covers back E F) where
  pub renamed_best : (u v : ℕ) → u < N → v < N → best F N (ρ u) (ρ v) ≡ best E N u v
  renamed_best u v h k = ⊑_anti (covers_best ρ E F N within-renamed covers u v (r.low u h)) (rw (r.undone u h, r.undone v k) at again)
    where
      again : best E N (back (ρ u)) (back (ρ v)) ⊑ best F N (ρ u) (ρ v)
      again = covers_best back F E N within covers-back (ρ u) (ρ v) (r.back_low (ρ u) (r.low u h))

  pub renamed_clear : no_negative F N ≡ true → no_negative E N ≡ true
  renamed_clear t = no_negative_true E N (λ u h. ⊑_trans (no_negative_yes F N t (ρ u) (r.low u h)) (⊑_of_eq (renamed_best u u h h)))

  -- a point is the new name of another
  pub renamed_clear_back : no_negative E N ≡ true → no_negative F N ≡ true
  renamed_clear_back t = no_negative_true F N each
    where
      each : (p : ℕ) → p < N → some (pos 0) ⊑ best F N p p
      each p h =
          let l = r.back_low p h in
          rw (r.redone p h) at (⊑_trans (no_negative_yes E N t (back p) l) (⊑_of_eq (sym (renamed_best (back p) (back p) l l))))

-- ---- no renaming: F keeps steps of E only, and for each step of E one that is no heavier
pub record Merged (E F : List Step) : Type 0 where
  pub kept : (s : Step) → In s F → In s E
  pub covers : Covers (λ p. p) F E

-- a list of steps covers any part of it
covers_part : (E F : List Step) → ((s : Step) → In s F → In s E) → Covers (λ p. p) E F
covers_part E F f s i = record { step = s; member = f s i; from_same = refl; to_same = refl; light = le_refl _ }

no_renaming : (N : ℕ) → Renaming N (λ p. p) (λ p. p)
no_renaming N = record { low = λ p h. h; back_low = λ p h. h; undone = λ p h. refl; redone = λ p h. refl }

pub merged_same : (E : List Step) → Merged E E
merged_same E = record { kept = λ s i. i; covers = covers_part E E (λ s i. i) }

module _ (E F : List Step) (m : Merged E F) where
  pub merged_within : (N : ℕ) → WithinPoints N E → WithinPoints N F
  merged_within N within s i = within s (m.kept s i)

  pub merged_best : (N : ℕ) → WithinPoints N E → (u v : ℕ) → u < N → v < N → best F N u v ≡ best E N u v
  merged_best N within = renamed_best N (λ p. p) (λ p. p) (no_renaming N) E F within (merged_within N within) m.covers (covers_part E F m.kept)

  pub merged_clear : (N : ℕ) → WithinPoints N E → no_negative F N ≡ true → no_negative E N ≡ true
  merged_clear N within = renamed_clear N (λ p. p) (λ p. p) (no_renaming N) E F within (merged_within N within) m.covers (covers_part E F m.kept)

  -- Only the lightest steps are kept: then with each its mirror image is. The step t of F that covers the mirror image of s is no heavier than s, and
  -- the mirror image of t, in E with the ends of s, is no lighter: t is the mirror image of s.
  pub least_mirrored : Mirrored E → ((s t : Step) → In s F → In t E → s.from ≡ t.from → s.to ≡ t.to → s.weight ⩽ t.weight) → Mirrored F
  least_mirrored mirrors least s i =
      let t = m.covers (mirror s) (mirrors s (m.kept s i)) in
      let j = mirrors t.step (m.kept t.step t.member) in
      let h = least s (mirror t.step) i j (turn s.from t.step.to t.to_same) (turn s.to t.step.from t.from_same) in
      same t.step t.member t.from_same t.to_same (le_antisym t.light h)
    where
      turn : (p q : ℕ) → q ≡ opposite p → p ≡ opposite q
      turn p q e = sym (ap opposite e ∙ opposite_twice p)

      same : (t : Step) → In t F → t.from ≡ opposite s.to → t.to ≡ opposite s.from → t.weight ≡ s.weight → In (mirror s) F
      same t k e f g = rw (sym e, sym f, sym g) k

-- ---- every step with its ends renamed
abbrev pub renamed_step : (ℕ → ℕ) → Step → Step
renamed_step ρ s = record { from = ρ s.from; to = ρ s.to; weight = s.weight }

-- s is a step of E, renamed
record Renamed (ρ : ℕ → ℕ) (E : List Step) (s : Step) : Type 0 where
  step : Step
  member : In step E
  same : s ≡ renamed_step ρ step

to_renamed : (ρ : ℕ → ℕ) (E : List Step) (s : Step) → In s E → In (renamed_step ρ s) (map (renamed_step ρ) E)
to_renamed ρ [] s i = absurd i
to_renamed ρ (t ∷ E) s (inl e) = inl (ap (renamed_step ρ) e)
to_renamed ρ (t ∷ E) s (inr i) = inr (to_renamed ρ E s i)

of_renamed : (ρ : ℕ → ℕ) (E : List Step) (s : Step) → In s (map (renamed_step ρ) E) → Renamed ρ E s
of_renamed ρ [] s i = absurd i
of_renamed ρ (t ∷ E) s (inl e) = record { step = t; member = inl refl; same = e }
of_renamed ρ (t ∷ E) s (inr i) = let r = of_renamed ρ E s i in record { step = r.step; member = inr r.member; same = r.same }

pub renamed_mirrored : (N : ℕ) (ρ : ℕ → ℕ) (E : List Step) → WithinPoints N E → ((p : ℕ) → p < N → ρ (opposite p) ≡ opposite (ρ p)) → Mirrored E → Mirrored (map (renamed_step ρ) E)
renamed_mirrored N ρ E within f mirrors s i =
    let r = of_renamed ρ E s i in
    let t = r.step in
    let h = within t r.member in
    rw r.same (rw (f t.to h.1, f t.from h.0) at (to_renamed ρ E (mirror t) (mirrors t r.member)))

module _ (N : ℕ) (ρ back : ℕ → ℕ) (r : Renaming N ρ back) (E : List Step) (within : WithinPoints N E) where
  pub renamed_within : WithinPoints N (map (renamed_step ρ) E)
  renamed_within s i =
      let t = of_renamed ρ E s i in
      let h = within t.step t.member in
      rw t.same (r.low t.step.from h.0, r.low t.step.to h.1)

  covers_renamed : Covers ρ (map (renamed_step ρ) E) E
  covers_renamed s i = record { step = renamed_step ρ s; member = to_renamed ρ E s i; from_same = refl; to_same = refl; light = le_refl _ }

  renamed_covers : Covers back E (map (renamed_step ρ) E)
  renamed_covers s i = let t = of_renamed ρ E s i in rw t.same (one t.step t.member)
    where
      one : (t : Step) → In t E → Lighter back E (renamed_step ρ t)
      one t j =
          let h = within t j in
          record { step = t; member = j; from_same = sym (r.undone t.from h.0); to_same = sym (r.undone t.to h.1); light = le_refl _ }

  pub renamed_steps_best : (u v : ℕ) → u < N → v < N → best (map (renamed_step ρ) E) N (ρ u) (ρ v) ≡ best E N u v
  renamed_steps_best = renamed_best N ρ back r E (map (renamed_step ρ) E) within renamed_within covers_renamed renamed_covers

  pub renamed_steps_clear_back : no_negative E N ≡ true → no_negative (map (renamed_step ρ) E) N ≡ true
  renamed_steps_clear_back = renamed_clear_back N ρ back r E (map (renamed_step ρ) E) within renamed_within covers_renamed renamed_covers
