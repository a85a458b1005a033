-- The number and the place that the specification gives each refusal of a tree, by which it is known.
use Rattle.std.specs.Prelude.{◌≡◌, refl, cond, List, [], ◌∷◌, ℕ, eqb}
use Rattle.std.proofs.Common.{sym, ap₂, ◌∙◌}
use Rattle.lines.specs.declared.Numbered.{Numbered}
use Rattle.lines.specs.Refusal.{numbered_at}
use Rattle.tree_reading.specs.declared.TreeRefusal.{TreeRefusal}
use Rattle.tree_reading.specs.declared.TreeRefusal.TheVariants.{TooManyChoices, Malformed, TooDeep, NoSuchChoice}

-- the place is the index of the number at fault
abbrev pub tree_number_and_place : TreeRefusal → Numbered
tree_number_and_place (TooManyChoices k) = numbered_at 40 k
tree_number_and_place (Malformed k) = numbered_at 41 k
tree_number_and_place (TooDeep k) = numbered_at 42 k
tree_number_and_place NoSuchChoice = numbered_at 43 0

abbrev pub tree_number : TreeRefusal → ℕ
tree_number r = (tree_number_and_place r).number

abbrev pub tree_place : TreeRefusal → ℕ
tree_place r = (tree_number_and_place r).place

-- ---- a refusal is known by its number and its place
-- all but the last, at place k
abbrev all_at : ℕ → List TreeRefusal
all_at k = TooManyChoices k ∷ Malformed k ∷ TooDeep k ∷ []

-- the first of some that has this number, or the last of all
abbrev with_number : ℕ → List TreeRefusal → TreeRefusal
with_number n [] = NoSuchChoice
with_number n (r ∷ rs) = cond (eqb (tree_number r) n) r (with_number n rs)

abbrev refusal_of : ℕ → ℕ → TreeRefusal
refusal_of n k = with_number n (all_at k)

known : (r : TreeRefusal) → refusal_of (tree_number r) (tree_place r) ≡ r
known (TooManyChoices k) = refl
known (Malformed k) = refl
known (TooDeep k) = refl
known NoSuchChoice = refl

pub one_refusal : (r s : TreeRefusal) → tree_number r ≡ tree_number s → tree_place r ≡ tree_place s → r ≡ s
one_refusal r s e f = sym (known r) ∙ ap₂ refusal_of e f ∙ known s
