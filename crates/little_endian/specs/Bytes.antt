-- What bytes say as little-endian numbers, one at a place and as many as there are, with the laws for writing them one by one.
use Rattle.std.specs.Prelude.{◌≡◌, List, [], ◌∷◌, ◌++◌, ℕ, ◌+◌, ◌*◌, ◌/◌, ◌<◌, ℤ, length, get_or, set, drop}
use Rattle.std.proofs.Math.Path.{sym, ap}
use Rattle.std.proofs.Common.{◌∙◌, add-zero, to_z}
use Rattle.std.specs.Int.{w32, w64}
use Rattle.integers.specs.Sequence.{tabulate, length_tabulate, tabulate_add, grow}

-- each is a byte
abbrev pub AreBytes : List ℕ → Type 0
AreBytes b = (i : ℕ) → get_or b i 0 < 256

-- the four bytes from `at`, the first the lowest
abbrev pub le32 : List ℕ → ℕ → ℕ
le32 b at = get_or b at 0 + get_or b (at + 1) 0 * 256 + get_or b (at + 2) 0 * 65536 + get_or b (at + 3) 0 * 16777216

-- the eight bytes from `at`, the low half first
abbrev pub le64 : List ℕ → ℕ → ℕ
le64 b at = le32 b at + le32 b (at + 4) * 4294967296

-- the same, signed
abbrev pub int32 : List ℕ → ℕ → ℤ
int32 b at = to_z w32 (le32 b at)

abbrev pub int64 : List ℕ → ℕ → ℤ
int64 b at = to_z w64 (le64 b at)

module _ {A : Type 0} (size : ℕ) (read : List ℕ → ℕ → A) where
  -- the first n numbers of b, each of `size` bytes
  unfoldable pub first_of : List ℕ → ℕ → List A
  first_of b n = tabulate n (λ k. read b (size * k))

  -- all whole numbers of b
  abbrev pub numbers_of : List ℕ → List A
  numbers_of b = first_of b (length b / size)

  -- at n = length b / size: the length of all whole numbers
  pub length_first_of : (b : List ℕ) (n : ℕ) → length (first_of b n) ≡ n
  unfolding first_of
  length_first_of b n = length_tabulate n _

  -- number n comes behind the first n
  pub next : (b : List ℕ) (n : ℕ) → first_of b n ++ read b (size * n) ∷ [] ≡ first_of b (n + 1)
  unfolding first_of
  next b n = sym (tabulate_add n 1 (λ k. read b (size * k)) ∙ ap (λ (m : ℕ). first_of b n ++ read b (size * m) ∷ []) (add-zero n))

  -- the first n numbers stand before what d has from n on; number n is stored at n
  pub one_more : (b : List ℕ) (n : ℕ) (d : List A) {out : List A} {v : A} → n < length d → out ≡ first_of b n ++ drop n d → v ≡ read b (size * n) → set out n v ≡ first_of b (n + 1) ++ drop (n + 1) d
  one_more b n d h e f = rw (e, f, ← next b n) (grow (first_of b n) n _ (read b (size * n)) d (length_first_of b n) h)

-- the three kinds of numbers
abbrev pub int32s : List ℕ → List ℤ
int32s = numbers_of 4 int32

abbrev pub nat32s : List ℕ → List ℕ
nat32s = numbers_of 4 le32

abbrev pub int64s : List ℕ → List ℤ
int64s = numbers_of 8 int64
