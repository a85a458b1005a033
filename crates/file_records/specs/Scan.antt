-- What reading the records of a file finds: each record's refusals in their order, and at the end n and the number of lines.
use Rattle.file_records.specs.declared.FileRefusal.{FileRefusal}
use Rattle.std.specs.Prelude.{Bool, true, false, not, cond, ◌&&◌, List, ℕ, zero, suc, ◌+◌, ◌*◌, eqb, ltb, pos, length, Err, None, Ok, Option, Result, Some}
use Rattle.integers.specs.Integer.{eq_z}
use Rattle.lines.specs.Limits.{line_size}
use Rattle.little_endian.specs.Bytes.{le32, int32}
use Rattle.file_records.specs.declared.FileRefusal.TheVariants.{Cut, UnknownKind, WrongLength, OutOfPlace, Trailing, NoRoom, NoIdentifier}
use Rattle.file_records.specs.declared.Cursor.{Cursor}
use Rattle.file_records.specs.declared.Next.{Next}
use Rattle.file_records.specs.declared.Next.TheVariants.{More, End}
use Rattle.file_records.specs.declared.Kind.{Kind}
use Rattle.file_records.specs.declared.Kind.TheVariants as kinds
use Rattle.file_records.specs.Table.{header_size, body_size_lem, is_line, record_size_lem, le16, kind_at_lem, identifier_place}

-- nothing was read
abbrev pub start : Cursor
start = record { at = 0; n = 0; begun = false; lines = 0 }

-- one record of n comes first, and none later
abbrev pub out_of_place_lem : Cursor → Kind → Bool
out_of_place_lem c kinds.Variables = c.begun
out_of_place_lem c _ = not c.begun

-- 26: a line with its identifier, which is 0
abbrev pub no_identifier_lem : List ℕ → ℕ → Kind → Bool
no_identifier_lem b at kinds.Identified = eq_z (int32 b (identifier_place at)) (pos 0)
no_identifier_lem b at _ = false

-- 25: a line for which the list's buffer has no room
abbrev pub no_room_lem : ℕ → Cursor → Kind → Bool
no_room_lem room c kind = is_line kind && ltb room (line_size * (c.lines + 1))

-- a whole record in its place: n is kept, a line is counted
abbrev pub behind : Cursor → Kind → ℕ
behind c kind = c.at + record_size_lem kind

abbrev pub line_taken : Cursor → Kind → Next
line_taken c kind = More (record { at = behind c kind; n = c.n; begun = c.begun; lines = c.lines + 1 })

abbrev pub taken : List ℕ → Cursor → Kind → Next
taken b c kinds.Variables = More (record { at = behind c kinds.Variables; n = le32 b (c.at + header_size); begun = true; lines = c.lines })
taken b c kinds.Line = line_taken c kinds.Line
taken b c kinds.End = End (record { at = behind c kinds.End; n = c.n; begun = c.begun; lines = c.lines })
taken b c kinds.Identified = line_taken c kinds.Identified

-- 21; 22, 20 for a cut body, 23, 26, 25; or the record is taken
abbrev pub placed : List ℕ → ℕ → Cursor → Option Kind → Result Next FileRefusal
placed b room c None = Err (UnknownKind c.at)
placed b room c (Some kind) =
    cond (not (eqb (le16 b c.at) (body_size_lem kind))) (Err (WrongLength c.at))
    (cond (ltb (length b) (behind c kind)) (Err (Cut c.at))
    (cond (out_of_place_lem c kind) (Err (OutOfPlace c.at))
    (cond (no_identifier_lem b c.at kind) (Err (NoIdentifier c.at))
    (cond (no_room_lem room c kind) (Err (NoRoom c.at)) (Ok (taken b c kind))))))

-- the record at the cursor: 20 for a cut header goes first
unfoldable pub next_record_lem : List ℕ → ℕ → Cursor → Result Next FileRefusal
next_record_lem b room c = cond (ltb (length b) (c.at + header_size)) (Err (Cut c.at)) (placed b room c (kind_at_lem b c.at))

-- records until the end or a refusal; each takes bytes, so that there are no more of them than bytes
abbrev pub onward : (Cursor → Result Cursor FileRefusal) → Result Next FileRefusal → Result Cursor FileRefusal
onward go (Ok (More c)) = go c
onward go (Ok (End c)) = Ok c
onward go (Err r) = Err r

unfoldable pub scan_from : ℕ → List ℕ → ℕ → Cursor → Result Cursor FileRefusal
scan_from zero b room c = Err (Cut c.at)
scan_from (suc k) b room c = onward (scan_from k b room) (next_record_lem b room c)

-- 24 at the first byte after the end
abbrev pub whole_file_lem : List ℕ → Result Cursor FileRefusal → Result Cursor FileRefusal
whole_file_lem b (Ok c) = cond (ltb c.at (length b)) (Err (Trailing c.at)) (Ok c)
whole_file_lem b (Err r) = Err r

unfoldable pub scan : List ℕ → ℕ → Result Cursor FileRefusal
scan b room = whole_file_lem b (scan_from (suc (length b)) b room start)
