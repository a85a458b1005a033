-- A refutation against one list is one against another that names the same steps by the same numbers, as far as its own numbers go.
use Rattle.std.specs.Prelude.{◌≡◌, List, [], ◌∷◌, ◌++◌, ℕ, ℤ, drop, Some}
use Rattle.std.proofs.Math.Path.{subst}
use Rattle.steps.specs.declared.Step.{Step}
use Rattle.steps.specs.Step.{step_numbered_lem}
use Rattle.steps.specs.Walk.{Names}
use Rattle.check_refutation.specs.Progress.{head_size}
use Rattle.check_soundness.specs.Refutes.{Walk, FalseStep, Refutes, kind_1, kind_2, kind_3}

-- what holds of each of these numbers
abbrev pub Each : (ℕ → Type 0) → List ℕ → Type 0
Each P [] = Unit {0}
Each P (k ∷ ks) = P k × Each P ks

-- of each step number of a refutation
abbrev pub EachStep : (ℕ → Type 0) → List ℕ → Type 0
EachStep P R = Each P (drop head_size R)

pub each_always : {P : ℕ → Type 0} → ((k : ℕ) → P k) → (ks : List ℕ) → Each P ks
each_always h [] = tt
each_always h (k ∷ ks) = (h k, each_always h ks)

each_split : (P : ℕ → Type 0) (ks ls : List ℕ) → Each P (ks ++ ls) → Each P ks × Each P ls
each_split P [] ls h = (tt, h)
each_split P (k ∷ ks) ls h = let r = each_split P ks ls h.1 in ((h.0, r.0), r.1)

each_both : (P : ℕ → Type 0) (ks ls : List ℕ) → Each P ks → Each P ls → Each P (ks ++ ls)
each_both P [] ls h i = i
each_both P (k ∷ ks) ls h i = (h.0, each_both P ks ls h.1 i)

-- from L to K, of which the numbers with P name the same
module _ (L K : List ℤ) (P : ℕ → Type 0) (found : (k : ℕ) (t : Step) → P k → step_numbered_lem L k ≡ Some t → step_numbered_lem K k ≡ Some t)
    (false_step : (k : ℕ) → P k → FalseStep L k → FalseStep K k) where
  names_carried : (ks : List ℕ) (ts : List Step) → Each P ks → Names L ks ts → Names K ks ts
  names_carried [] [] p h = tt
  names_carried [] (t ∷ ts) p h = absurd h
  names_carried (k ∷ ks) [] p h = absurd h
  names_carried (k ∷ ks) (t ∷ ts) p h = (found k t p.0 h.0, names_carried ks ts p.1 h.1)

  walk_carried : {u v : ℕ} {ks : List ℕ} → Each P ks → Walk L u ks v → Walk K u ks v
  walk_carried {ks = ks} p w = record { steps = w.steps; some = w.some; named = names_carried ks w.steps p w.named; path = w.path }

  pub refutes_carried : (R : List ℕ) → EachStep P R → Refutes L R → Refutes K R
  unfolding walk_carried
  refutes_carried R p (kind_1 c) =
      let steps = subst (EachStep P) c.is p in
      kind_1 (record { numbers = c.numbers; point = c.point; is = c.is; walk = walk_carried steps c.walk; low = c.low })
  refutes_carried R p (kind_2 c) =
      let steps = each_split P c.numbers c.more (subst (EachStep P) c.is p) in
      kind_2
      (record {
        numbers = c.numbers;
        more = c.more;
        point = c.point;
        is = c.is;
        there = walk_carried steps.0 c.there;
        back = walk_carried steps.1 c.back;
        low = c.low;
      })
  refutes_carried R p (kind_3 c) =
      let steps = subst (EachStep P) c.is p in
      kind_3 (record { number = c.number; is = c.is; false_step = false_step c.number steps.0 c.false_step })

-- what holds of each number that names a step, and of each of a false line, holds of each step number of a refutation
module _ (L : List ℤ) (P : ℕ → Type 0) (found : (k : ℕ) (t : Step) → step_numbered_lem L k ≡ Some t → P k) (false_step : (k : ℕ) → FalseStep L k → P k) where
  names_each : (ks : List ℕ) (ts : List Step) → Names L ks ts → Each P ks
  names_each [] ts h = tt
  names_each (k ∷ ks) [] h = absurd h
  names_each (k ∷ ks) (t ∷ ts) h = (found k t h.0, names_each ks ts h.1)

  pub refutes_each : (R : List ℕ) → Refutes L R → EachStep P R
  refutes_each R (kind_1 c) = rw c.is (names_each c.numbers c.walk.steps c.walk.named)
  refutes_each R (kind_2 c) =
      rw c.is
      (each_both P c.numbers c.more (names_each c.numbers c.there.steps c.there.named) (names_each c.more c.back.steps c.back.named))
  refutes_each R (kind_3 c) = rw c.is (false_step c.number c.false_step, tt)
