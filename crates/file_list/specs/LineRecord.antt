-- The record of one line: its kind, its length, and that a line and its record say the same, whichever of them was first.
--
-- The identifier is the last number of a line. So the numbers of a record without it are a line's first, and the line of these has the identifier 0.
use Rattle.std.specs.Prelude.{◌≡◌, Bool, true, false, cond, List, [], ◌∷◌, ℕ, ◌+◌, ◌*◌, ◌/◌, ◌≤◌, ℤ, pos, length, Option}
use Rattle.std.proofs.Math.Path.{refl, ap}
use Rattle.std.proofs.Common.{sym, ap₂, ◌∙◌, arith, length-append, length-take-le}
use Rattle.std.proofs.Math.ListN.{take}
use Rattle.integers.specs.Integer.{eq_z}
use Rattle.integers.specs.Laws.{eq_z_true}
use Rattle.integers.specs.Sequence.{tabulate, length_tabulate}
use Rattle.lines.specs.declared.Line.{Line}
use Rattle.lines.specs.Limits.{line_size, bare_size}
use Rattle.lines.specs.Line.{line_numbers_lem, line_of}
use Rattle.lines.specs.LineNumbers.{length_numbers}
use Rattle.little_endian.specs.Bytes.{int32}
use Rattle.little_endian.specs.Writing.{signed_bytes, int32_bytes}
use Rattle.little_endian.specs.Back.{length_bytes_of}
use Rattle.file_records.specs.declared.Kind.{Kind}
use Rattle.file_records.specs.declared.Kind.TheVariants as kinds
use Rattle.file_records.specs.Table.{header_size, body_size_lem, size_of, record_size_lem}
use Rattle.file_records.specs.Places.{LineKind, bare, identified, longest}
use Rattle.file_records.specs.Record.{LineAt}
use Rattle.file_list.specs.File.{numbers_in, record_of, kind_of, line_body, line_record, line_records, lines_size, numbers_at, line_in}

-- ---- kinds
-- an identifier of 0 is not written, any other is
pub data KindOf (l : Line) : Kind → Type 0 where
  unwritten : l.identifier ≡ pos 0 → KindOf l kinds.Line
  written : eq_z l.identifier (pos 0) ≡ false → KindOf l kinds.Identified

pub kind_of_law : (l : Line) → KindOf l (kind_of l)
kind_of_law l = go (eq_z l.identifier (pos 0)) refl
  where
    go : (t : Bool) → eq_z l.identifier (pos 0) ≡ t → KindOf l (cond t kinds.Line kinds.Identified)
    go true e = unwritten (eq_z_true _ _ e)
    go false e = written e

pub line_kind_of : (l : Line) → LineKind (kind_of l)
line_kind_of l = go (kind_of_law l)
  where
    go : {kind : Kind} → KindOf l kind → LineKind kind
    go (unwritten e) = bare
    go (written e) = identified

-- ---- lengths
pub numbers_few : (kind : Kind) → numbers_in kind ≤ line_size
numbers_few kind = omega (arith, longest kind)

pub numbers_size : {kind : Kind} → LineKind kind → 4 * numbers_in kind ≡ body_size_lem kind
numbers_size bare = refl
numbers_size identified = refl

-- the numbers of a line that its record has
abbrev pub written_numbers : Line → List ℤ
written_numbers l = take (numbers_in (kind_of l)) (line_numbers_lem l)

pub length_written : (l : Line) → length (written_numbers l) ≡ numbers_in (kind_of l)
length_written l = length-take-le (numbers_in (kind_of l)) (line_numbers_lem l) (omega (arith, numbers_few (kind_of l), length_numbers l))

pub length_body : (l : Line) → length (line_body l) ≡ body_size_lem (kind_of l)
unfolding line_body
length_body l =
    length_bytes_of 4 signed_bytes (λ z. refl) (written_numbers l) ∙ ap (λ (m : ℕ). 4 * m) (length_written l) ∙ numbers_size (line_kind_of l)

pub length_record : (l : Line) → length (line_record l) ≡ record_size_lem (kind_of l)
length_record l = omega (arith, length_body l)

pub length_records : (ls : List Line) → length (line_records ls) ≡ lines_size ls
unfolding line_records lines_size
length_records [] = refl
length_records (l ∷ ls) = length-append (line_record l) (line_records ls) ∙ omega (arith, length_record l, length_records ls)

-- ---- written, then read
pub line_back : (l : Line) → line_of (written_numbers l) ≡ l
unfolding line_numbers_lem
line_back l = go (kind_of_law l)
  where
    go : {kind : Kind} → KindOf l kind → line_of (take (numbers_in kind) (line_numbers_lem l)) ≡ l
    go (unwritten e) = ap (λ (z : ℤ). record { a = l.a; x = l.x; b = l.b; y = l.y; d = l.d; identifier = z }) (sym e)
    go (written e) = refl

-- ---- read, then written
module _ (f : ℕ → ℤ) where
  -- the first of a line's numbers, as many as its kind has
  first : {kind : Kind} → LineKind kind → take (numbers_in kind) (line_numbers_lem (line_of (tabulate (numbers_in kind) f))) ≡ tabulate (numbers_in kind) f
  unfolding line_numbers_lem
  first bare = refl
  first identified = refl

  -- the kind, where an identifier that is there is not 0
  kind_first : {kind : Kind} → LineKind kind → (kind ≡ kinds.Identified → eq_z (f bare_size) (pos 0) ≡ false) → kind_of (line_of (tabulate (numbers_in kind) f)) ≡ kind
  kind_first bare h = refl
  kind_first identified h = rw (h refl)

module _ (b : List ℕ) (p : ℕ) (h : LineAt b p) where
  abbrev numbers : ℕ → ℤ
  numbers j = int32 b (p + header_size + 4 * j)

  abbrev written_at : List ℤ
  written_at = tabulate (numbers_in h.kind) numbers

  numbers_are : numbers_at b p ≡ written_at
  numbers_are = ap (λ (o : Option Kind). tabulate (size_of o / 4) numbers) h.whole.named

  kind_back : kind_of (line_of written_at) ≡ h.kind
  kind_back = kind_first numbers h.is_line_law (λ e. rw e at h.identified)

  body_back : line_body (line_of written_at) ≡ int32_bytes written_at
  unfolding line_body
  body_back = rw kind_back (ap int32_bytes (first numbers h.is_line_law))

  pub record_back : line_record (line_in b p) ≡ record_of h.kind (int32_bytes (numbers_at b p))
  unfolding line_in
  record_back = rw numbers_are (ap₂ record_of kind_back body_back)

  pub length_numbers_at : 4 * length (numbers_at b p) ≡ body_size_lem h.kind
  length_numbers_at = rw numbers_are (ap (λ (m : ℕ). 4 * m) (length_tabulate (numbers_in h.kind) numbers) ∙ numbers_size h.is_line_law)
