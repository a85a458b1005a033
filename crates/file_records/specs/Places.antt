-- The kinds of the table by their numbers, those of lines among them, and the places of records: the first line's, the next one's, and how far they can lie.
use Rattle.std.specs.Prelude.{◌≡◌, true, false, List, ℕ, zero, suc, ◌+◌, ◌*◌, eqb, ◌<◌, ◌≤◌, None, Option, Some}
use Rattle.std.proofs.Math.Path.{refl}
use Rattle.std.proofs.Common.{add-one, arith}
use Rattle.lines.specs.Limits.{line_size}
use Rattle.file_records.specs.declared.Kind.{Kind}
use Rattle.file_records.specs.declared.Kind.TheVariants.{Variables, Line, End, Identified}
use Rattle.file_records.specs.Table.{header_size, number_of_kind, is_line, kind_numbered, size_of, record_size_lem, kind_number_at_lem, numbered_size_lem, record_size_at_lem, record_place}

-- ---- kinds
-- each number is one kind's
pub numbered_kind : (kind : Kind) → kind_numbered (number_of_kind kind) ≡ Some kind
unfolding kind_numbered
numbered_kind Variables = refl
numbered_kind Line = refl
numbered_kind End = refl
numbered_kind Identified = refl

pub numbered_is : (number : ℕ) (kind : Kind) → kind_numbered number ≡ Some kind → number ≡ number_of_kind kind
unfolding kind_numbered
numbered_is number kind e = grind (arith, e)

pub number_small : (kind : Kind) → number_of_kind kind < 65536
number_small Variables = omega arith
number_small _ = omega arith

-- the two of a line
pub data LineKind : Kind → Type 0 where
  bare : LineKind Line
  identified : LineKind Identified

-- ---- records, by the table
-- a line's is no record of n, and has more bytes than a line has numbers
pub line_is : {kind : Kind} → LineKind kind → (eqb (number_of_kind kind) (number_of_kind Variables) ≡ false) × (is_line kind ≡ true) × (line_size ≤ record_size_lem kind)
line_is bare = (refl, refl, omega arith)
line_is identified = (refl, refl, omega arith)

-- none is longer than that of a line with its identifier: of a kind, and of any number
pub longest : (kind : Kind) → record_size_lem kind ≤ header_size + 4 * line_size
longest Variables = omega arith
longest _ = omega arith

pub known_most : (number : ℕ) → numbered_size_lem number ≤ header_size + 4 * line_size
known_most number = go (kind_numbered number)
  where
    go : (k : Option Kind) → header_size + size_of k ≤ header_size + 4 * line_size
    go None = omega arith
    go (Some kind) = longest kind

-- ---- places
module _ (b : List ℕ) where
  pub longest_at : (at : ℕ) → record_size_at_lem b at ≤ header_size + 4 * line_size
  longest_at at = known_most (kind_number_at_lem b at)

  pub place_first : record_place b 0 ≡ header_size + 4
  unfolding record_place
  place_first = refl

  pub place_suc : (k : ℕ) → record_place b (suc k) ≡ record_place b k + record_size_at_lem b (record_place b k)
  unfolding record_place
  place_suc k = refl

  pub place_next : (k : ℕ) → record_place b (k + 1) ≡ record_place b k + record_size_at_lem b (record_place b k)
  place_next k = rw (add-one k) (place_suc k)

  -- as if each record were the longest
  pub place_most : (k : ℕ) → record_place b k ≤ header_size + 4 + (header_size + 4 * line_size) * k
  place_most zero = omega (arith, place_first)
  place_most (suc k) = omega (arith, place_suc k, longest_at (record_place b k), place_most k)
