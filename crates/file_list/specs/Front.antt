-- What is read of a file depends on its front alone: the bytes of the most lines that the list's buffer has room for, and of one line more.
--
-- A record is judged by its own bytes and by whether the file has that many. Since no more lines are taken than there is room for, the record that
-- comes next always lies in the front, and so does the byte after the end. How many turns reading has does not matter: each file has enough of its own.
use Rattle.file_records.specs.declared.FileRefusal.{FileRefusal}
use Rattle.std.specs.Prelude.{◌≡◌, Bool, true, false, List, ltb, get_or, take, Err, None, Ok, Option, Result, Some}
use Rattle.std.proofs.Math.Path.{refl, ap}
use Rattle.std.proofs.Common.{sym, ◌∙◌, arith, ltb-true, ltb-false, lt-ltb, le-ltb, length-take, get_or-take, to_z}
use Prim.Native.Nat.{ℕ, zero, suc, ◌+◌, ◌*◌, ◌/◌, ◌<◌, ◌≤◌, min}
use Rattle.std.proofs.Math.ListN.{length}
use Rattle.std.specs.Int.{w32}
use Rattle.integers.specs.Sequence.{tabulate, tabulate_cong}
use Rattle.lines.specs.Limits.{line_size}
use Rattle.lines.specs.Line.{line_of, numbers_of}
use Rattle.little_endian.specs.Bytes.{le32, int32}
use Rattle.file_records.specs.declared.Cursor.{Cursor}
use Rattle.file_records.specs.declared.Next.{Next}
use Rattle.file_records.specs.declared.Next.TheVariants.{More, End}
use Rattle.file_records.specs.declared.Kind.{Kind}
use Rattle.file_records.specs.declared.Kind.TheVariants as kinds
use Rattle.file_records.specs.Table.{header_size, kind_numbered, size_of, record_size_lem, le16, kind_at_lem, record_size_at_lem, record_place, identifier_place}
use Rattle.file_records.specs.Places.{longest, longest_at, place_first, place_suc, place_most}
use Rattle.file_records.specs.Scan.{start, behind, no_identifier_lem, taken, placed, next_record_lem, onward, scan_from, whole_file_lem, scan}
use Rattle.file_records.specs.Laid.{Placed, Reached, Left, Scanned, start_reached}
use Rattle.file_records.proofs.Reading.{next_left, scanned, scan_laid}
use Rattle.file_list.specs.File.{line_in, file_list_lem}
use Rattle.file_list.specs.Read.{after_scan, read_answer}

-- so many bytes of a file are looked at, where the list's buffer has this room: as if each line's record were the longest
abbrev pub front_size : ℕ → ℕ
front_size room = record_size_lem kinds.Variables + record_size_lem kinds.Identified * (room / line_size + 1)

module _ (k : ℕ) (b d : List ℕ) (same : take k b ≡ take k d) where
  -- ---- what stands in the front
  byte : (i : ℕ) → i < k → get_or b i 0 ≡ get_or d i 0
  byte i h = sym (get_or-take k b i 0 h) ∙ ap (λ (l : List ℕ). get_or l i 0) same ∙ get_or-take k d i 0 h

  sizes : min k (length b) ≡ min k (length d)
  sizes = sym (length-take k b) ∙ ap length same ∙ length-take k d

  ends_before : (x : ℕ) → x ≤ k → ltb (length b) x ≡ ltb (length d) x
  ends_before x h = go (ltb (length d) x) refl
    where
      go : (t : Bool) → ltb (length d) x ≡ t → ltb (length b) x ≡ t
      go true e = lt-ltb (length b) x (omega (arith, sizes, ltb-true (length d) x e))
      go false e = le-ltb (length b) x (omega (arith, sizes, ltb-false (length d) x e))

  goes_past : (x : ℕ) → x < k → ltb x (length b) ≡ ltb x (length d)
  goes_past x h = go (ltb x (length d)) refl
    where
      go : (t : Bool) → ltb x (length d) ≡ t → ltb x (length b) ≡ t
      go true e = lt-ltb x (length b) (omega (arith, sizes, ltb-true x (length d) e))
      go false e = le-ltb x (length b) (omega (arith, sizes, ltb-false x (length d) e))

  half : (i : ℕ) → i + 2 ≤ k → le16 b i ≡ le16 d i
  half i h = rw (byte i (omega arith), byte (i + 1) (omega arith))

  word : (i : ℕ) → i + 4 ≤ k → le32 b i ≡ le32 d i
  word i h = rw (byte i (omega arith), byte (i + 1) (omega arith), byte (i + 2) (omega arith), byte (i + 3) (omega arith))

  -- ---- one record
  same_placed : (room : ℕ) (c : Cursor) → c.at + (header_size + 4 * line_size) ≤ k → (o : Option Kind) → placed b room c o ≡ placed d room c o
  same_placed room c h None = refl
  same_placed room c h (Some kind) =
      rw (half c.at (omega arith), ends_before (behind c kind) (omega (arith, longest kind)), identifier kind, next kind)
    where
      identifier : (kind : Kind) → no_identifier_lem b c.at kind ≡ no_identifier_lem d c.at kind
      identifier kinds.Identified = rw (word (identifier_place c.at) (omega arith))
      identifier _ = refl

      next : (kind : Kind) → taken b c kind ≡ taken d c kind
      next kinds.Variables = rw (word (c.at + header_size) (omega arith))
      next _ = refl

  same_kind : (p : ℕ) → p + header_size ≤ k → kind_at_lem b p ≡ kind_at_lem d p
  same_kind p h = ap kind_numbered (half (p + 2) (omega arith))

  same_next : (room : ℕ) (c : Cursor) → c.at + (header_size + 4 * line_size) ≤ k → next_record_lem b room c ≡ next_record_lem d room c
  unfolding next_record_lem
  same_next room c h = rw (ends_before (c.at + header_size) (omega arith), same_kind c.at (omega arith), same_placed room c h (kind_at_lem d c.at))

  -- ---- all records
  module _ (room : ℕ) (fits : front_size room ≤ k) where
    -- wherever reading has come to, the front has a whole line more
    in_front : (c : Cursor) → Reached b room c → c.at + (header_size + 4 * line_size) ≤ k
    in_front c h = go c.begun h.placed
      where
        go : (t : Bool) → Placed b t c → c.at + (header_size + 4 * line_size) ≤ k
        go false p = omega arith
        go true p = omega (arith, h.fits, place_most b c.lines)

    -- in as many turns as each has bytes
    same_from : (i j : ℕ) (c : Cursor) → Reached b room c → Reached d room c → length b < c.at + i → length d < c.at + j → scan_from i b room c ≡ scan_from j d room c
    unfolding scan_from
    same_from zero j c h g p q = absurd (omega (arith, h.within))
    same_from (suc i) zero c h g p q = absurd (omega (arith, g.within))
    same_from (suc i) (suc j) c h g p q =
        let e = same_next room c (in_front c h) in
        rw e (go (next_record_lem d room c) (rw e at (next_left b room c h)) (next_left d room c g) (same_from i j))
      where
        go : (m : Result Next FileRefusal) → Left b room c m → Left d room c m
            → ((e : Cursor) → Reached b room e → Reached d room e → length b < e.at + i → length d < e.at + j → scan_from i b room e ≡ scan_from j d room e)
            → onward (scan_from i b room) m ≡ onward (scan_from j d room) m
        go (Ok (More e)) l r f = f e l.0 r.0 (omega (arith, l.1)) (omega (arith, r.1))
        go (Ok (End e)) l r f = refl
        go (Err x) l r f = refl

    same_scan : scan b room ≡ scan d room
    unfolding scan
    same_scan =
        ap (whole_file_lem b) (same_from (suc (length b)) (suc (length d)) start (start_reached b room) (start_reached d room) (omega arith) (omega arith))
        ∙ go (scan_from (suc (length d)) d room start) (scanned d room)
      where
        go : (m : Result Cursor FileRefusal) → Scanned d room m → whole_file_lem b m ≡ whole_file_lem d m
        go (Ok c) s = rw (goes_past c.at (omega (arith, s.size, s.fits, place_most d c.lines)))
        go (Err r) s = refl

    -- ---- the list
    place_in_front : (j : ℕ) → line_size * j ≤ room → record_place b j + (header_size + 4 * line_size) ≤ k
    place_in_front j h = omega (arith, place_most b j)

    same_place : (j : ℕ) → line_size * j ≤ room → record_place b j ≡ record_place d j
    same_place zero h = place_first b ∙ sym (place_first d)
    same_place (suc j) h =
        let p = place_in_front j (omega arith) in
        place_suc b j
        ∙ ap (λ (o : Option Kind). record_place b j + (header_size + size_of o)) (same_kind (record_place b j) (omega arith))
        ∙ ap (λ (i : ℕ). i + record_size_at_lem d i) (same_place j (omega arith))
        ∙ sym (place_suc d j)

    same_line : (p : ℕ) → p + (header_size + 4 * line_size) ≤ k → line_in b p ≡ line_in d p
    unfolding line_in
    same_line p h =
        ap (λ (o : Option Kind). line_of (tabulate (size_of o / 4) (λ j. int32 b (p + header_size + 4 * j)))) (same_kind p (omega arith))
        ∙ ap line_of (tabulate_cong (size_of (kind_at_lem d p) / 4) _ _ (λ j l. ap (to_z w32) (word (p + header_size + 4 * j) (omega (arith, longest_at d p)))))

    pub same_list : (lines : ℕ) → line_size * lines ≤ room → file_list_lem b lines ≡ file_list_lem d lines
    unfolding file_list_lem
    same_list lines h =
        ap numbers_of (tabulate_cong lines _ _ (λ j l. same_line (record_place b j) (place_in_front j (omega arith)) ∙ ap (line_in d) (same_place j (omega arith))))

    pub same_read : (most : ℕ) → read_answer most b room ≡ read_answer most d room
    unfolding read_answer
    same_read most = ap (after_scan most b) same_scan ∙ go (scan d room) refl
      where
        go : (m : Result Cursor FileRefusal) → scan d room ≡ m → after_scan most b m ≡ after_scan most d m
        go (Ok c) e = rw (same_list c.lines (scan_laid d room c e).fits)
        go (Err r) e = refl
