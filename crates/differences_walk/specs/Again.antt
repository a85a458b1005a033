-- Two places of a list at which one number stands.
use Rattle.std.specs.Prelude.{◌≡◌, List, ℕ, ◌+◌, ◌<◌, ◌≤◌, ℤ, length}
use Rattle.std.proofs.Common.{arith}
use Rattle.std.proofs.Math.Decide.{ℕ_discrete}
use Rattle.lines.specs.Line.{number}
use Rattle.differences_walk.specs.declared.Part.{Part}

-- none of the places from i + 1 to j - 1 has the number of i
abbrev pub NoneBetween : List ℤ → ℕ → ℕ → Type 0
NoneBetween l i j = (k : ℕ) → i < k → k < j → number l k ≡ number l i → ⊥

pub record NextSame (l : List ℤ) (i r : ℕ) : Type 0 where
  pub behind : i < r
  pub at_most : r ≤ length l
  pub same : r < length l → number l r ≡ number l i
  pub none : NoneBetween l i r

pub between_start : (l : List ℤ) (i : ℕ) → NoneBetween l i (i + 1)
between_start l i k h m = absurd (omega arith)

pub between_more : (l : List ℤ) (i j : ℕ) → NoneBetween l i j → (number l j ≡ number l i → ⊥) → NoneBetween l i (j + 1)
between_more l i j f n k h m = go (ℕ_discrete k j)
  where
    go : Dec (k ≡ j) → number l k ≡ number l i → ⊥
    go (yes e) = rw e n
    go (no d) = f k h (omega arith)

-- no two of them, the first before i
abbrev pub NoneTwice : List ℤ → ℕ → Type 0
NoneTwice l i = (h : ℕ) → h < i → NoneBetween l h (length l)

pub record MetAgain (l : List ℤ) (r : Part) : Type 0 where
  pub found : r.last < length l → (r.first < r.last) × (number l r.last ≡ number l r.first)
  pub none : length l ≤ r.last → NoneTwice l (length l)

pub twice_more : (l : List ℤ) (i r : ℕ) → NoneTwice l i → NextSame l i r → length l ≤ r → NoneTwice l (i + 1)
twice_more l i r f s e h m = go (ℕ_discrete h i)
  where
    go : Dec (h ≡ i) → NoneBetween l h (length l)
    go (yes q) = rw q (λ k a b. s.none k a (omega (arith, s.at_most)))
    go (no d) = f h (omega arith)
