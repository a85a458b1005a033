-- A refusal is known by its number and its place, and its number is small and not 0.
use Rattle.std.specs.Prelude.{◌≡◌, refl, Bool, true, cond, ◌&&◌, List, [], ◌∷◌, ℕ, ◌<◌, eqb, ltb}
use Rattle.std.proofs.Common.{sym, ap₂, ◌∙◌, ltb-true}
use Rattle.integers.specs.Laws.{and_true}
use Rattle.lines.specs.declared.Refusal.{Refusal}
use Rattle.lines.specs.declared.Refusal.TheVariants.{TooManyVariables, BrokenLength, TooManyLines, BadCoefficient, BadVariable, BadConstant, ShortOutput, ShortWorkArea, WrongModelLength, BadValue, LongRefutation, MisplacedCoefficient, BadIdentifier, AfterNo, NoLines, NotDifference}
use Rattle.lines.specs.Refusal.{number_of, place_of}

-- every refusal, at place k
abbrev all_at : ℕ → List Refusal
all_at k =
    TooManyVariables
    ∷ BrokenLength
    ∷ TooManyLines
    ∷ BadCoefficient k
    ∷ BadVariable k
    ∷ BadConstant k
    ∷ ShortOutput k
    ∷ ShortWorkArea
    ∷ WrongModelLength
    ∷ BadValue k
    ∷ LongRefutation
    ∷ MisplacedCoefficient k
    ∷ BadIdentifier k
    ∷ AfterNo
    ∷ NoLines
    ∷ NotDifference k
    ∷ []

-- the first of some that has this number
abbrev with_number : ℕ → List Refusal → Refusal
with_number n [] = TooManyVariables
with_number n (r ∷ rs) = cond (eqb (number_of r) n) r (with_number n rs)

abbrev refusal_of : ℕ → ℕ → Refusal
refusal_of n k = with_number n (all_at k)

-- from 1 to 99
abbrev number_ok : Refusal → Bool
number_ok r = ltb 0 (number_of r) && ltb (number_of r) 100

known : (r : Refusal) → (refusal_of (number_of r) (place_of r) ≡ r) × (number_ok r ≡ true)
known TooManyVariables = (refl, refl)
known BrokenLength = (refl, refl)
known TooManyLines = (refl, refl)
known (BadCoefficient k) = (refl, refl)
known (BadVariable k) = (refl, refl)
known (BadConstant k) = (refl, refl)
known (ShortOutput k) = (refl, refl)
known ShortWorkArea = (refl, refl)
known WrongModelLength = (refl, refl)
known (BadValue k) = (refl, refl)
known LongRefutation = (refl, refl)
known (MisplacedCoefficient k) = (refl, refl)
known (BadIdentifier k) = (refl, refl)
known AfterNo = (refl, refl)
known NoLines = (refl, refl)
known (NotDifference k) = (refl, refl)

pub number_some : (r : Refusal) → 0 < number_of r
number_some r = ltb-true _ _ (and_true (ltb 0 (number_of r)) (ltb (number_of r) 100) (known r).1).0

pub number_small : (r : Refusal) → number_of r < 100
number_small r = ltb-true _ _ (and_true (ltb 0 (number_of r)) (ltb (number_of r) 100) (known r).1).1

pub one_refusal : (r s : Refusal) → number_of r ≡ number_of s → place_of r ≡ place_of s → r ≡ s
one_refusal r s n p = sym (known r).0 ∙ ap₂ refusal_of n p ∙ (known s).0
