-- A list in bytes: the refusal that it gets, the numbers that were decoded, and what the code uses of both.
use Rattle.lines.specs.declared.Refusal.{Refusal}
use Rattle.std.specs.Prelude.{◌≡◌, not, List, ℕ, ◌*◌, ◌/◌, ◌%◌, ◌<◌, ◌≤◌, eqb, ltb, ℤ, take, Err, Ok, Result}
use Rattle.std.proofs.Math.Path.{sym}
use Rattle.std.proofs.Common.{◌∙◌}
use native.Mathlib.Omega.{arith}
use borrow.Author.Tests.{lt-ltb, le-ltb, eq-eqb}
use Rattle.std.proofs.Math.ListN.{length}
use Rattle.lines.specs.declared.Refusal.TheVariants.{TooManyVariables, BrokenLength, TooManyLines}
use Rattle.lines.specs.Limits.{line_size, max_variables, max_lines}
use Rattle.lines.specs.Refusal.{◌or_else◌, refuse_if, validity_of}
use Rattle.lines.specs.Places.{Placed, placed_or, placed_if, placed_list}
use Rattle.lines.specs.Valid.{valid_list, or_valid}
use Rattle.little_endian.specs.Bytes.{int32, int32s, length_first_of}
use Rattle.c_codes.specs.Codes.{refusal_unit}

-- the bytes of a number of a list or of a refutation
abbrev pub number_bytes : ℕ
number_bytes = 4

-- list bytes that are no multiple of a line's give 2, in its turn
unfoldable pub bytes_validity : ℕ → List ℕ → Result Unit Refusal
bytes_validity n b =
    refuse_if (ltb max_variables n) TooManyVariables
    or_else refuse_if (not (eqb (length b % (number_bytes * line_size)) 0)) BrokenLength
    or_else validity_of n (int32s b)

-- the answer on a list in bytes, and its numbers where it is valid
pub record Decoded (n : ℕ) (b : List ℕ) (out : List ℤ) (r : Result Unit Refusal) : Type 0 where
  pub answer : r ≡ bytes_validity n b
  pub numbers : r ≡ Ok tt → take (length b / number_bytes) out ≡ int32s b

-- ---- a list in bytes whose n and length are right is refused as its numbers are
module _ (n : ℕ) (b : List ℕ) (few : n ≤ max_variables) (whole : length b % (number_bytes * line_size) ≡ 0) where
  pub bytes_as_numbers : bytes_validity n b ≡ validity_of n (int32s b)
  unfolding bytes_validity
  bytes_as_numbers = rw (le-ltb max_variables n few, eq-eqb _ _ whole)

  pub too_many_lines : max_lines < length b / (number_bytes * line_size) → Err TooManyLines ≡ bytes_validity n b
  unfolding validity_of
  too_many_lines h =
      let e : length (int32s b) ≡ length b / number_bytes = length_first_of number_bytes int32 b _ in
      let even : length (int32s b) % line_size ≡ 0 = omega arith in
      let many : max_lines < length (int32s b) / line_size = omega arith in
      sym (bytes_as_numbers ∙ rw (le-ltb max_variables n few, eq-eqb _ _ even, lt-ltb _ _ many))

-- a valid list in bytes has few variables, and its numbers are valid and find room
pub record BytesOk (n : ℕ) (b : List ℕ) : Type 0 where
  pub variables : n ≤ max_variables
  pub numbers : validity_of n (int32s b) ≡ Ok tt
  pub room : length b / number_bytes ≤ line_size * max_lines

pub valid_bytes : (n : ℕ) (b : List ℕ) → bytes_validity n b ≡ Ok tt → BytesOk n b
unfolding bytes_validity
valid_bytes n b e =
    let p = or_valid (refuse_if (ltb max_variables n) TooManyVariables) _ e in
    let q = or_valid (refuse_if (not (eqb (length b % (number_bytes * line_size)) 0)) BrokenLength) _ p.1 in
    let ok = valid_list n (int32s b) q.1 in
    let size : length (int32s b) ≡ length b / number_bytes = length_first_of number_bytes int32 b _ in
    record { variables = ok.variables; numbers = q.1; room = omega (arith, ok.whole, ok.count) }

-- the place in a refusal is below its unit
pub bytes_placed : (n : ℕ) (b : List ℕ) → Placed refusal_unit (bytes_validity n b)
unfolding bytes_validity
bytes_placed n b =
    placed_or refusal_unit _ _ (placed_if refusal_unit (ltb max_variables n) TooManyVariables (omega arith))
    (placed_or refusal_unit _ _ (placed_if refusal_unit (not (eqb (length b % (number_bytes * line_size)) 0)) BrokenLength (omega arith)) (placed_list refusal_unit n (int32s b) (omega arith)))
