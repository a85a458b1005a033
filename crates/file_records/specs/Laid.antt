-- Reading records comes to the end of just those bytes that are laid out as a file: n, then lines, then the end, then nothing.
--
-- One way: what is known of the records before the cursor grows with each record, and at the end it is the layout. The other way: in bytes that are laid
-- out so, each record passes its tests. Where a line begins goes by the bytes before it, and so both ways go from the first line to the last.
use Rattle.file_records.specs.declared.FileRefusal.{FileRefusal}
use Rattle.std.specs.Prelude.{◌≡◌, Bool, true, false, List, Err, Ok, Option, Result}
use Rattle.std.proofs.Math.Path.{refl, ap}
use Rattle.std.proofs.Common.{◌∙◌, add-one}
use Prim.Native.Nat.{ℕ, zero, suc, ◌+◌, ◌*◌, ◌<◌, ◌≤◌}
use native.Mathlib.Omega.{arith}
use Rattle.std.proofs.Math.ListN.{length}
use Rattle.lines.specs.Limits.{line_size}
use Rattle.little_endian.specs.Bytes.{le32}
use Rattle.file_records.specs.declared.Cursor.{Cursor}
use Rattle.file_records.specs.declared.Next.{Next}
use Rattle.file_records.specs.declared.Next.TheVariants.{More, End}
use Rattle.file_records.specs.declared.Kind.{Kind}
use Rattle.file_records.specs.declared.Kind.TheVariants as kinds
use Rattle.file_records.specs.Table.{header_size, size_of, record_size_lem, record_place}
use Rattle.file_records.specs.Places.{line_is, place_next}
use Rattle.file_records.specs.Scan.{start}
use Rattle.file_records.specs.Record.{Whole, LineAt}

-- whole lines begin at the places of the first k
abbrev pub Lines : List ℕ → ℕ → Type 0
Lines b k = (j : ℕ) → j < k → LineAt b (record_place b j)

-- n, then k lines
pub record Begun (b : List ℕ) (n k : ℕ) : Type 0 where
  pub first : Whole b 0 kinds.Variables
  pub variables : le32 b header_size ≡ n
  pub lines : Lines b k

-- then the end, then nothing
pub record Laid (b : List ℕ) (n k : ℕ) : Type 0 where
  pub begun : Begun b n k
  pub end : Whole b (record_place b k) kinds.End
  pub size : record_place b k + record_size_lem kinds.End ≡ length b

module _ (b : List ℕ) where
  -- behind a line the next record begins
  pub behind_line : (k : ℕ) (h : LineAt b (record_place b k)) → record_place b (k + 1) ≡ record_place b k + record_size_lem h.kind
  behind_line k h = place_next b k ∙ ap (λ (o : Option Kind). record_place b k + (header_size + size_of o)) h.whole.named

  -- each line takes more bytes than a line has numbers
  pub place_least : (k : ℕ) → Lines b k → line_size * k ≤ record_place b k
  place_least zero h = omega arith
  place_least (suc k) h =
      let l = h k (omega arith) in
      let next = rw (add-one k) at (behind_line k l) in
      omega (arith, next, (line_is l.is_line_law).2, place_least k (λ j m. h j (omega arith)))

-- ---- read to the end
-- nothing was read; or n, and the lines one behind the other
abbrev pub Placed : List ℕ → Bool → Cursor → Type 0
Placed b false c = (c.at ≡ 0) × (c.lines ≡ 0)
Placed b true c = (c.at ≡ record_place b c.lines) × Begun b c.n c.lines

pub record Reached (b : List ℕ) (room : ℕ) (c : Cursor) : Type 0 where
  pub within : c.at ≤ length b
  pub placed : Placed b c.begun c
  pub fits : line_size * c.lines ≤ room

-- the record of the end was read too
pub record Ended (b : List ℕ) (room : ℕ) (c : Cursor) : Type 0 where
  pub within : c.at ≤ length b
  pub size : record_place b c.lines + record_size_lem kinds.End ≡ c.at
  pub begun : Begun b c.n c.lines
  pub end : Whole b (record_place b c.lines) kinds.End
  pub fits : line_size * c.lines ≤ room

module _ (b : List ℕ) (room : ℕ) where
  -- what one record leaves
  abbrev pub Left : Cursor → Result Next FileRefusal → Type 0
  Left c (Ok (More d)) = Reached b room d × (c.at + header_size ≤ d.at)
  Left c (Ok (End d)) = Ended b room d
  Left c (Err r) = Unit {0}

  pub start_reached : Reached b room start
  start_reached = record { within = omega arith; placed = (refl, refl); fits = omega arith }

  abbrev pub Scanned : Result Cursor FileRefusal → Type 0
  Scanned (Ok c) = Ended b room c
  Scanned (Err r) = Unit {0}

-- what is known of a file that has an end and nothing after it
pub record Found (b : List ℕ) (room : ℕ) (c : Cursor) : Type 0 where
  pub at : c.at ≡ length b
  pub laid : Laid b c.n c.lines
  pub fits : line_size * c.lines ≤ room
