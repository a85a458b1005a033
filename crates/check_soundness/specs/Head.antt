-- The head of a refutation: its kind, and how many steps its two walks have.
use Rattle.std.specs.Prelude.{◌≡◌, List, [], ◌∷◌, ℕ, ◌+◌, ◌<◌, ◌≤◌, length, get_or, take}
use Rattle.std.proofs.Common.{arith}
use Rattle.check_refutation.specs.Progress.{head_size}

-- the kind, and the two counts p and q, that a refutation states
abbrev pub kind_of : List ℕ → ℕ
kind_of R = get_or R 0 0

abbrev pub first_count : List ℕ → ℕ
first_count R = get_or R 1 0

abbrev pub second_count : List ℕ → ℕ
second_count R = get_or R 2 0

-- the steps in all
abbrev pub steps_in : List ℕ → ℕ
steps_in R = first_count R + second_count R

-- the refutation at the front of a buffer or a lent slice: the first 3 + p + q numbers, by the counts that stand there
abbrev pub stated_length : List ℕ → ℕ
stated_length R = head_size + steps_in R

abbrev pub stated : List ℕ → List ℕ
stated R = take (stated_length R) R

-- 1, 2 or 3
abbrev pub IsKind : ℕ → Type 0
IsKind k = (1 ≤ k) × (k ≤ 3)

-- counts that suit a kind: one walk, two walks, or the number of one line
pub data Suits (k p q : ℕ) : Type 0 where
  one_walk : k ≡ 1 → 0 < p → q ≡ 0 → Suits k p q
  two_walks : k ≡ 2 → 0 < p → 0 < q → Suits k p q
  one_line : k ≡ 3 → p ≡ 1 → q ≡ 0 → Suits k p q

pub suits_kind : {k p q : ℕ} → Suits k p q → IsKind k
suits_kind (one_walk a b c) = (omega arith, omega arith)
suits_kind (two_walks a b c) = (omega arith, omega arith)
suits_kind (one_line a b c) = (omega arith, omega arith)

pub suits_some : {k p q : ℕ} → Suits k p q → 0 < p
suits_some (one_walk a b c) = b
suits_some (two_walks a b c) = b
suits_some (one_line a b c) = omega arith

pub suits_line : {k p q : ℕ} → Suits k p q → k ≡ 3 → p + q ≡ 1
suits_line (one_walk a b c) e = absurd (omega arith)
suits_line (two_walks a b c) e = absurd (omega arith)
suits_line (one_line a b c) e = omega arith

-- numbers with a whole head or without
pub data Shape : List ℕ → Type 0 where
  cut : {R : List ℕ} → length R < head_size → Shape R
  whole : (k p q : ℕ) (S : List ℕ) → Shape (k ∷ p ∷ q ∷ S)

pub shape : (R : List ℕ) → Shape R
shape [] = cut {R = []} (omega arith)
shape (k ∷ []) = cut {R = k ∷ []} (omega arith)
shape (k ∷ p ∷ []) = cut {R = k ∷ p ∷ []} (omega arith)
shape (k ∷ p ∷ q ∷ S) = whole k p q S
