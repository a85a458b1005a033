-- Walks over a list of differences: one from a plus point stays on plus points and is the copy of a walk over plain steps, of the same length and sum;
-- the copy of every plain walk is a walk; and none leads from a plus point to a minus point, or back.
use Rattle.std.specs.Prelude.{◌≡◌, refl, List, [], ◌∷◌, ℕ, suc, ◌%◌, ℤ, ◌+ℤ◌, length}
use Rattle.std.proofs.Common.{sym, ap, ap₂, subst, ◌∙◌, inl, inr, arith}
use Rattle.lines.specs.declared.Line.{Line}
use Rattle.steps.specs.declared.Step.{Step}
use Rattle.steps.specs.Point.{point}
use Rattle.steps.specs.Step.{steps_of}
use Rattle.steps.specs.Walk.{Path, total}
use Rattle.theory_walks.specs.Row.{In}
use Rattle.theory_walks.specs.Reach.{Steps, Walk, walk_none, walk_rest}
use Rattle.theory_differences.specs.Plain.{Differences, plain_steps, plus, Copy, step_copy, plus_in}

-- ---- a plain walk, copied
abbrev pub copy_steps : List Step → List Step
copy_steps [] = []
copy_steps (p ∷ ps) = plus p ∷ copy_steps ps

pub copy_length : (ps : List Step) → length (copy_steps ps) ≡ length ps
copy_length [] = refl
copy_length (p ∷ ps) = ap suc (copy_length ps)

pub copy_total : (ps : List Step) → total (copy_steps ps) ≡ total ps
copy_total [] = refl
copy_total (p ∷ ps) = ap (λ (z : ℤ). p.weight +ℤ z) (copy_total ps)

pub copy_path : (x y : ℕ) (ps : List Step) → Path x ps y → Path (point x 0) (copy_steps ps) (point y 0)
copy_path x y [] w = ap (λ (k : ℕ). point k 0) w
copy_path x y (p ∷ ps) w = (ap (λ (k : ℕ). point k 0) w.0, copy_path p.to y ps w.1)

-- a walk from a plus point, read back
pub record PlainWalk (ls : List Line) (x : ℕ) (ts : List Step) (v : ℕ) : Type 0 where
  pub end : ℕ
  pub at_end : v ≡ point end 0
  pub steps : List Step
  pub walk : Walk (plain_steps ls) x steps end
  pub copied : copy_steps steps ≡ ts
  pub count : length steps ≡ length ts
  pub sum : total steps ≡ total ts

module _ (ls : List Line) (ds : Differences ls) where
  copy_steps_law : (ps : List Step) → Steps (plain_steps ls) ps → Steps (steps_of ls) (copy_steps ps)
  copy_steps_law [] a = tt
  copy_steps_law (p ∷ ps) a = (plus_in ls ds p a.0, copy_steps_law ps a.1)

  pub copy_walk : (x y : ℕ) (ps : List Step) → Walk (plain_steps ls) x ps y → Walk (steps_of ls) (point x 0) (copy_steps ps) (point y 0)
  copy_walk x y ps w = record { path = copy_path x y ps w.path; steps = copy_steps_law ps w.steps }

  pub plain_walk : (x v : ℕ) (ts : List Step) → Walk (steps_of ls) (point x 0) ts v → PlainWalk ls x ts v
  plain_walk x v [] w = record { end = x; at_end = sym w.path; steps = []; walk = walk_none x; copied = refl; count = refl; sum = refl }
  plain_walk x v (t ∷ ts) w = go (step_copy ls ds t w.steps.0) (λ y. plain_walk y v ts)
    where
      go : ((p : Step) × In p (plain_steps ls) × Copy p t) → ((y : ℕ) → Walk (steps_of ls) (point y 0) ts v → PlainWalk ls y ts v) → PlainWalk ls x (t ∷ ts) v
      go (p, i, inl e) rest =
          let from : t.from ≡ point p.from 0 = ap (λ (s : Step). s.from) e in
          let to : t.to ≡ point p.to 0 = ap (λ (s : Step). s.to) e in
          let here : x ≡ p.from = omega (arith, from, w.path.0) in
          let r = rest p.to (subst (λ (k : ℕ). Walk (steps_of ls) k ts v) to (walk_rest t ts w)) in
          record {
            end = r.end;
            at_end = r.at_end;
            steps = p ∷ r.steps;
            walk = record { path = (here, r.walk.path); steps = (i, r.walk.steps) };
            copied = ap₂ (λ (s : Step) (ss : List Step). s ∷ ss) (sym e) r.copied;
            count = ap suc r.count;
            sum = ap₂ (λ (a b : ℤ). a +ℤ b) (sym (ap (λ (s : Step). s.weight) e)) r.sum;
          }
      go (p, i, inr e) rest =
          let from : t.from ≡ point p.to 1 = ap (λ (s : Step). s.from) e in
          absurd (omega (arith, from, w.path.0))

  -- both ends of a step, and so of a walk, have the same sign
  step_sign : (t : Step) → In t (steps_of ls) → t.from % 2 ≡ t.to % 2
  step_sign t i = go (step_copy ls ds t i)
    where
      go : ((p : Step) × In p (plain_steps ls) × Copy p t) → t.from % 2 ≡ t.to % 2
      go (p, i, inl e) =
          let from : t.from ≡ point p.from 0 = ap (λ (s : Step). s.from) e in
          let to : t.to ≡ point p.to 0 = ap (λ (s : Step). s.to) e in
          omega arith
      go (p, i, inr e) =
          let from : t.from ≡ point p.to 1 = ap (λ (s : Step). s.from) e in
          let to : t.to ≡ point p.from 1 = ap (λ (s : Step). s.to) e in
          omega arith

  pub same_sign : (u v : ℕ) (ts : List Step) → Walk (steps_of ls) u ts v → u % 2 ≡ v % 2
  same_sign u v [] w = ap (λ (k : ℕ). k % 2) w.path
  same_sign u v (t ∷ ts) w = ap (λ (k : ℕ). k % 2) w.path.0 ∙ step_sign t w.steps.0 ∙ same_sign t.to v ts (walk_rest t ts w)
