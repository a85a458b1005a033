-- The answer to the first question, by the choice that was found: yes exactly if it is one of the tree's.
use Rattle.std.specs.Prelude.{◌≡◌, refl, Bool, true, false, cond, ℕ, ◌<◌, ◌≤◌, ltb, None, Ok, Option, Result, Some}
use Rattle.std.proofs.Common.{ap, ltb-true, ltb-false, lt-ltb, le-ltb}
use Rattle.integers.specs.Laws.{never}
use Rattle.tree_deciding.specs.declared.ConditionRefusal.{ConditionRefusal}
use Rattle.tree_deciding.specs.Answer.{first_found_lem}

pub found_yes : (total k : ℕ) → k < total → first_found_lem total k ≡ Ok (Some k)
found_yes total k h = ap (λ (t : Bool). cond t (Ok (Some k)) (Ok None)) (lt-ltb k total h)

pub found_no : (total k : ℕ) → total ≤ k → first_found_lem total k ≡ Ok None
found_no total k h = ap (λ (t : Bool). cond t (Ok (Some k)) (Ok None)) (le-ltb k total h)

pub yes_found : (total k j : ℕ) → first_found_lem total k ≡ Ok (Some j) → (k < total) × (k ≡ j)
yes_found total k j = go (ltb k total) refl
  where
    go : (t : Bool) → ltb k total ≡ t → ◌≡◌ {A = Result (Option ℕ) ConditionRefusal} (cond t (Ok (Some k)) (Ok None)) (Ok (Some j)) → (k < total) × (k ≡ j)
    go true p e = let same : k ≡ j = cc in (ltb-true k total p, same)
    go false p e = never (cc)

pub no_found : (total k : ℕ) → first_found_lem total k ≡ Ok None → total ≤ k
no_found total k = go (ltb k total) refl
  where
    go : (t : Bool) → ltb k total ≡ t → ◌≡◌ {A = Result (Option ℕ) ConditionRefusal} (cond t (Ok (Some k)) (Ok None)) (Ok None) → total ≤ k
    go true p e = never (cc)
    go false p e = ltb-false k total p
