-- The records of a file: their kinds, each kind's number, the length of its body and whether it is a line, in one table, and the places of records, by those before them.
use Rattle.std.specs.Prelude.{Bool, true, false, List, [], ◌∷◌, ℕ, zero, suc, ◌+◌, ◌*◌, eqb, get_or, None, Option, Some}
use Rattle.std.specs.List.{find}
use Rattle.lines.specs.Limits.{line_size, bare_size}
use Rattle.file_records.specs.declared.Kind.{Kind}
use Rattle.file_records.specs.declared.Kind.TheVariants.{Variables, Line, End, Identified}

-- a record is the length of its body, the number of its kind, and the body
abbrev pub header_size : ℕ
header_size = 4

-- ---- kinds
-- the number of a kind, the length of its body, and whether it is a line
pub record Row : Type 0 where
  pub number : ℕ
  pub size : ℕ
  pub line : Bool

-- n; one line, whose identifier is 0; the end; one line with its identifier, which is not 0
abbrev pub table : Kind → Row
table Variables = record { number = 1; size = 4; line = false }
table Line = record { number = 2; size = 4 * bare_size; line = true }
table End = record { number = 3; size = 0; line = false }
table Identified = record { number = 4; size = 4 * line_size; line = true }

abbrev pub number_of_kind : Kind → ℕ
number_of_kind kind = (table kind).number

abbrev pub body_size_lem : Kind → ℕ
body_size_lem kind = (table kind).size

abbrev pub is_line : Kind → Bool
is_line kind = (table kind).line

-- the kind with this number, if there is one
unfoldable pub kind_numbered : ℕ → Option Kind
kind_numbered number = find (λ kind. eqb (number_of_kind kind) number) (Variables ∷ Line ∷ End ∷ Identified ∷ [])

-- ---- places
-- the bytes of a record of this kind
abbrev pub record_size_lem : Kind → ℕ
record_size_lem kind = header_size + body_size_lem kind

-- two bytes, the first the lowest
abbrev pub le16 : List ℕ → ℕ → ℕ
le16 b at = get_or b at 0 + get_or b (at + 1) 0 * 256

-- the number of the kind of the record that begins at `at`, and the kind
abbrev pub kind_number_at_lem : List ℕ → ℕ → ℕ
kind_number_at_lem b at = le16 b (at + 2)

abbrev pub kind_at_lem : List ℕ → ℕ → Option Kind
kind_at_lem b at = kind_numbered (kind_number_at_lem b at)

-- the length of its body, by the table, where its number is a kind's
abbrev pub size_if : Option Kind → Option ℕ
size_if None = None
size_if (Some kind) = Some (body_size_lem kind)

-- and 0 where it is no kind's
abbrev pub size_of : Option Kind → ℕ
size_of None = 0
size_of (Some kind) = body_size_lem kind

-- the bytes of a record whose kind has this number, and of the record at `at`
abbrev pub numbered_size_lem : ℕ → ℕ
numbered_size_lem number = header_size + size_of (kind_numbered number)

abbrev pub record_size_at_lem : List ℕ → ℕ → ℕ
record_size_at_lem b at = numbered_size_lem (kind_number_at_lem b at)

-- where the record of line k begins: behind that of n and those of the lines before it, each as long as its kind's
unfoldable pub record_place : List ℕ → ℕ → ℕ
record_place b zero = record_size_lem Variables
record_place b (suc k) = record_place b k + record_size_at_lem b (record_place b k)

-- where the identifier of such a record stands
abbrev pub identifier_place : ℕ → ℕ
identifier_place at = at + header_size + 4 * bare_size
