-- A file read and written again is the same bytes, a list written and read again is the same list, and no other bytes are read.
use Rattle.lines.specs.declared.Refusal.{Refusal}
use Rattle.std.specs.Prelude.{◌≡◌, refl, List, ℕ, ◌+◌, ◌*◌, ◌≤◌, ℤ, length, Err, Ok, Result}
use Rattle.std.proofs.Common.{sym, ap, subst, ◌∙◌, arith}
use borrow.Author.Tests.{ltb-false, le-ltb}
use Rattle.integers.specs.Laws.{never}
use Rattle.lines.specs.Limits.{line_size}
use Rattle.lines.specs.Line.{line_count}
use Rattle.lines.specs.Refusal.{validity_of}
use Rattle.lines.specs.Valid.{ListOk, valid_list, or_valid, not_refused}
use Rattle.lines.specs.Fits.{numbers_fit}
use Rattle.little_endian.specs.Bytes.{AreBytes}
use Rattle.file_records.specs.declared.FileRefusal.{FileRefusal}
use Rattle.file_records.specs.declared.Cursor.{Cursor}
use Rattle.file_records.specs.Scan.{scan}
use Rattle.file_records.specs.Laid.{Laid}
use Rattle.file_records.proofs.Reading.{scan_laid, laid_scan}
use Rattle.file_list.specs.declared.Listed.{Listed}
use Rattle.file_list.specs.File.{file_of, file_list_lem}
use Rattle.file_list.specs.Read.{list_validity_lem, unless_refused, after_scan, read_answer}
use Rattle.file_list.specs.Layout.{file_laid, laid_file, list_of_file, length_file_list, line_count_file_list}

-- ---- read, then written
-- what an answer with a list grants
pub record IsRead (most : ℕ) (b : List ℕ) (room : ℕ) (z : Listed) : Type 0 where
  pub laid : Laid b z.n z.lines
  pub has_room : line_size * z.lines ≤ room
  pub few : z.n ≤ most
  pub valid : validity_of z.n (file_list_lem b z.lines) ≡ Ok tt

pub is_read : (most : ℕ) (b : List ℕ) (room : ℕ) (z : Listed) → read_answer most b room ≡ Ok z → IsRead most b room z
unfolding read_answer list_validity_lem
is_read most b room z e = go (scan b room) refl e
  where
    go : (x : Result Cursor FileRefusal) → scan b room ≡ x → after_scan most b x ≡ Ok z → IsRead most b room z
    go (Err r) s e = never (cc)
    go (Ok c) s e = valid (list_validity_lem most c.n (file_list_lem b c.lines)) refl e
      where
        valid : (v : Result Unit Refusal) → list_validity_lem most c.n (file_list_lem b c.lines) ≡ v → unless_refused v (Ok (record { n = c.n; lines = c.lines })) ≡ Ok z → IsRead most b room z
        valid (Err r) u e = never (cc)
        valid (Ok _) u e =
            let i : record { n = c.n; lines = c.lines } ≡ z = cc in
            let l = scan_laid b room c s in
            let p = or_valid _ _ u in
            subst (IsRead most b room) i (record { laid = l.laid; has_room = l.fits; few = ltb-false most c.n (not_refused _ _ p.0); valid = p.1 })

-- whatever is read is written again as the same bytes, and is not refused
pub read_written : (most : ℕ) (b : List ℕ) (room : ℕ) (z : Listed) → AreBytes b → read_answer most b room ≡ Ok z
    → (validity_of z.n (file_list_lem b z.lines) ≡ Ok tt) × (file_of z.n (file_list_lem b z.lines) ≡ b)
read_written most b room z bytes e =
    let r = is_read most b room z e in
    (r.valid, laid_file b bytes z.n z.lines r.laid)

-- ---- written, then read
module _ (n : ℕ) (L : List ℤ) (v : validity_of n L ≡ Ok tt) where
  ok : ListOk n L
  ok = valid_list n L v

  whole : line_size * line_count L ≡ length L
  whole = omega (arith, ok.whole)

  laid : Laid (file_of n L) n (line_count L)
  laid = file_laid n L (numbers_fit n L v) (omega (arith, ok.variables))

  -- the list stands in its file
  pub list_in_file : file_list_lem (file_of n L) (line_count L) ≡ L
  list_in_file = list_of_file n L (numbers_fit n L v) whole

  -- reading what was written gives n and the list back
  pub written_read : (most room : ℕ) → n ≤ most → length L ≤ room → read_answer most (file_of n L) room ≡ Ok (record { n = n; lines = line_count L })
  unfolding read_answer list_validity_lem
  written_read most room h r = rw (laid_scan (file_of n L) room n (line_count L) laid (omega (arith, whole)), list_in_file, le-ltb most n h, v)

-- ---- one file for each list
-- two valid lists with one file are one: both are what is read from it
pub one_list : (n m : ℕ) (L M : List ℤ) → validity_of n L ≡ Ok tt → validity_of m M ≡ Ok tt → file_of n L ≡ file_of m M → (n ≡ m) × (L ≡ M)
one_list n m L M v w e =
    let most = n + m in
    let room = length L + length M in
    let p = written_read n L v most room (omega arith) (omega arith) in
    let q = written_read m M w most room (omega arith) (omega arith) in
    let z : ◌≡◌ {A = Listed} (record { n = n; lines = line_count L }) (record { n = m; lines = line_count M }) = read_is (sym p ∙ ap (λ (b : List ℕ). read_answer most b room) e ∙ q) in
    let c : line_count L ≡ line_count M = ap (λ (x : Listed). x.lines) z in
    (ap (λ (x : Listed). x.n) z, sym (list_in_file n L v) ∙ rw (e, c) (list_in_file m M w))
  where
    read_is : {x y : Listed} → ◌≡◌ {A = Result Listed FileRefusal} (Ok x) (Ok y) → x ≡ y
    read_is e = cc

-- every byte slice is refused, or is the one file of its list
pub data OneFile (most : ℕ) (b : List ℕ) (room : ℕ) : Type 0 where
  refused : (r : FileRefusal) → read_answer most b room ≡ Err r → OneFile most b room
  file : (n : ℕ) (L : List ℤ) → validity_of n L ≡ Ok tt → n ≤ most → length L ≤ room → b ≡ file_of n L
      → read_answer most b room ≡ Ok (record { n = n; lines = line_count L }) → file_list_lem b (line_count L) ≡ L → OneFile most b room

pub one_file : (most : ℕ) (b : List ℕ) (room : ℕ) → AreBytes b → OneFile most b room
one_file most b room bytes = go (read_answer most b room) refl
  where
    go : (a : Result Listed FileRefusal) → read_answer most b room ≡ a → OneFile most b room
    go (Err r) e = refused r e
    go (Ok z) e =
        let r = is_read most b room z e in
        let w = read_written most b room z bytes e in
        let c = line_count_file_list b z.lines in
        file z.n (file_list_lem b z.lines) w.0 r.few (omega (arith, length_file_list b z.lines, r.has_room)) (sym w.1) (e ∙ rw c) (rw c)
