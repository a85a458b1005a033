-- What one record leaves, by the tests that it passed: each outcome that is no refusal stands for a whole record in its place.
use Rattle.std.specs.Prelude.{◌≡◌, true, false, List, ℕ, ◌+◌, ◌*◌, ◌≤◌, length, Err, Ok, Result, Some}
use Rattle.lines.specs.Limits.{line_size}
use Rattle.little_endian.specs.Bytes.{le32}
use Rattle.file_records.specs.declared.FileRefusal.{FileRefusal}
use Rattle.file_records.specs.declared.Cursor.{Cursor}
use Rattle.file_records.specs.declared.Next.{Next}
use Rattle.file_records.specs.declared.Next.TheVariants.{More, End}
use Rattle.file_records.specs.declared.Kind.{Kind}
use Rattle.file_records.specs.declared.Kind.TheVariants as kinds
use Rattle.file_records.specs.Table.{header_size, body_size_lem, record_size_lem, le16, kind_at_lem}
use Rattle.file_records.specs.Places.{LineKind}
use Rattle.file_records.specs.Scan.{no_identifier_lem}

-- a whole record of this kind begins at p
pub record Whole (b : List ℕ) (p : ℕ) (kind : Kind) : Type 0 where
  pub named : kind_at_lem b p ≡ Some kind
  pub sized : le16 b p ≡ body_size_lem kind
  pub whole : p + record_size_lem kind ≤ length b

-- a whole line begins at p, and has an identifier where its kind says so
pub record LineAt (b : List ℕ) (p : ℕ) : Type 0 where
  pub kind : Kind
  pub is_line_law : LineKind kind
  pub whole : Whole b p kind
  pub identified : no_identifier_lem b p kind ≡ false

-- the record of n comes first, and the others behind it: each with what it leaves
pub data Outcome (b : List ℕ) (room : ℕ) (c : Cursor) : Result Next FileRefusal → Type 0 where
  of_variables : Whole b c.at kinds.Variables → c.begun ≡ false
      → Outcome b room c (Ok (More (record { at = c.at + record_size_lem kinds.Variables; n = le32 b (c.at + header_size); begun = true; lines = c.lines })))
  of_line : (h : LineAt b c.at) → c.begun ≡ true → line_size * (c.lines + 1) ≤ room
      → Outcome b room c (Ok (More (record { at = c.at + record_size_lem h.kind; n = c.n; begun = c.begun; lines = c.lines + 1 })))
  of_end : Whole b c.at kinds.End → c.begun ≡ true
      → Outcome b room c (Ok (End (record { at = c.at + record_size_lem kinds.End; n = c.n; begun = c.begun; lines = c.lines })))
  refused : (r : FileRefusal) → Outcome b room c (Err r)
