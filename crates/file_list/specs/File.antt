-- The one file of a list, and the list that stands in a file.
use Rattle.std.specs.Prelude.{cond, List, [], ◌∷◌, ◌++◌, ℕ, ◌+◌, ◌*◌, ◌/◌, ℤ, pos, length, take}
use Rattle.integers.specs.Integer.{eq_z}
use Rattle.integers.specs.Sequence.{tabulate}
use Rattle.lines.specs.declared.Line.{Line}
use Rattle.lines.specs.Line.{line_numbers_lem, line_of, lines_of, numbers_of}
use Rattle.little_endian.specs.Bytes.{int32}
use Rattle.little_endian.specs.Writing.{bytes16, bytes32, int32_bytes}
use Rattle.file_records.specs.declared.Kind.{Kind}
use Rattle.file_records.specs.declared.Kind.TheVariants as kinds
use Rattle.file_records.specs.Table.{header_size, number_of_kind, body_size_lem, size_of, record_size_lem, kind_at_lem, record_place}

-- how many numbers stand in a line's record of this kind: all, or all but the identifier
abbrev pub numbers_in : Kind → ℕ
numbers_in kind = body_size_lem kind / 4

-- ---- written
abbrev pub record_of : Kind → List ℕ → List ℕ
record_of kind body = bytes16 (length body) ++ (bytes16 (number_of_kind kind) ++ body)

-- an identifier of 0 is not written
abbrev pub kind_of : Line → Kind
kind_of l = cond (eq_z l.identifier (pos 0)) kinds.Line kinds.Identified

-- a line's numbers, in their order, as many as its kind has
unfoldable pub line_body : Line → List ℕ
line_body l = int32_bytes (take (numbers_in (kind_of l)) (line_numbers_lem l))

abbrev pub line_record : Line → List ℕ
line_record l = record_of (kind_of l) (line_body l)

unfoldable pub line_records : List Line → List ℕ
line_records [] = []
line_records (l ∷ ls) = line_record l ++ line_records ls

-- n first, then the lines, then the end
unfoldable pub file_of : ℕ → List ℤ → List ℕ
file_of n L = record_of kinds.Variables (bytes32 n) ++ (line_records (lines_of L) ++ record_of kinds.End [])

-- so many bytes have the records of lines, by their kinds
unfoldable pub lines_size : List Line → ℕ
lines_size [] = 0
lines_size (l ∷ ls) = record_size_lem (kind_of l) + lines_size ls

-- where the lines end, and the file
abbrev pub lines_end : List ℤ → ℕ
lines_end L = record_size_lem kinds.Variables + lines_size (lines_of L)

abbrev pub file_size_lem : List ℤ → ℕ
file_size_lem L = lines_end L + record_size_lem kinds.End

-- ---- read
-- the numbers in the record of a line at `at`
abbrev pub numbers_at : List ℕ → ℕ → List ℤ
numbers_at b at = tabulate (size_of (kind_at_lem b at) / 4) (λ j. int32 b (at + header_size + 4 * j))

-- the line of that record: an identifier that does not stand there is 0
unfoldable pub line_in : List ℕ → ℕ → Line
line_in b at = line_of (numbers_at b at)

abbrev pub file_lines : List ℕ → ℕ → List Line
file_lines b k = tabulate k (λ j. line_in b (record_place b j))

-- the numbers of k lines
unfoldable pub file_list_lem : List ℕ → ℕ → List ℤ
file_list_lem b k = numbers_of (file_lines b k)
