-- Halving, minimum, maximum and the number nearest zero, over ℤ. Each goes by clauses on `pos` and `negsuc`: it computes at literals, and is a
-- call that laws can match elsewhere.
use Rattle.std.specs.Prelude.{Bool, false, ◌&&◌, ℕ, ◌/◌, min, max, eqb, ℤ, pos, negsuc, neg_ℤ, ◌≤ℤ◌, ◌<ℤ◌}
use Rattle.std.specs.Int.Signed.{le_z}

-- the order, as operators that bind weaker than +ℤ (the library's bind tighter)
infix 4 ◌⩽◌ ◌⋖◌
abbrev pub ◌⩽◌ : ℤ → ℤ → Type 0
a ⩽ b = a ≤ℤ b

abbrev pub ◌⋖◌ : ℤ → ℤ → Type 0
a ⋖ b = a <ℤ b

-- halved, rounded toward minus infinity
abbrev pub half : ℤ → ℤ
half (pos n) = pos (n / 2)
half (negsuc n) = negsuc (n / 2)

abbrev pub min_z : ℤ → ℤ → ℤ
min_z (pos a) (pos b) = pos (min a b)
min_z (pos a) (negsuc b) = negsuc b
min_z (negsuc a) (pos b) = negsuc a
min_z (negsuc a) (negsuc b) = negsuc (max a b)

abbrev pub max_z : ℤ → ℤ → ℤ
max_z (pos a) (pos b) = pos (max a b)
max_z (pos a) (negsuc b) = pos a
max_z (negsuc a) (pos b) = pos b
max_z (negsuc a) (negsuc b) = negsuc (min a b)

-- of the numbers from lo to hi, the one nearest zero
abbrev pub nearest_zero : ℤ → ℤ → ℤ
nearest_zero lo hi = max_z lo (min_z hi (pos 0))

abbrev pub eq_z : ℤ → ℤ → Bool
eq_z (pos a) (pos b) = eqb a b
eq_z (pos a) (negsuc b) = false
eq_z (negsuc a) (pos b) = false
eq_z (negsuc a) (negsuc b) = eqb a b

-- low ≤ z ≤ high, as a test
abbrev pub is_between : ℤ → ℤ → ℤ → Bool
is_between low high z = le_z low z && le_z z high

-- -m ≤ z ≤ m, as a test
abbrev pub is_within_lem : ℕ → ℤ → Bool
is_within_lem m z = is_between (neg_ℤ (pos m)) (pos m) z

-- -m ≤ z ≤ m
pub record Within (m : ℕ) (z : ℤ) : Type 0 where
  pub low : neg_ℤ (pos m) ⩽ z
  pub high : z ⩽ pos m
