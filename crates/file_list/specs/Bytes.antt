-- Numbers as bytes and back, and what stands at each place of a list's file.
--
-- The place of a line goes by the kinds before it. From its place on a file holds the line's record, so that the kind read there is the line's,
-- and behind that record, as long as the table says, lies the next line's place.
use Rattle.std.specs.Prelude.{◌≡◌, ℕ, zero, suc, ◌+◌, ◌*◌, ◌/◌, ◌%◌, ◌^◌, ◌<◌, ◌≤◌, ℤ, pos, length, get_or, Option, Some}
use Rattle.std.proofs.Math.Path.{refl, sym, ap}
use Rattle.std.proofs.Common.{subst, ◌∙◌, add-zero, add_assoc, mod-eq_of_lt, add-one, arith, length-drop, get_or-drop, drop-cons, drop-drop, drop_at, SFits, to_z}
use Rattle.std.proofs.Math.Bool.{false}
use mathlib.Core.List.{List, [], ◌∷◌, ◌++◌, append_assoc}
use Rattle.std.proofs.Math.Nat.{div-div-eq-div-mul}
use Rattle.std.proofs.Math.Numerals.{towards_suc}
use Rattle.std.proofs.Math.ListN.{drop, length-append}
use Rattle.std.proofs.Math.Seq.{get_or-take}
use Rattle.std.specs.Int.{w32}
use Rattle.std.proofs.Math.Facts.{of_z-to_z}
use Rattle.integers.specs.Integer.{eq_z}
use Rattle.integers.specs.Sequence.{tabulate, tabulate_cong, tabulate_get_d}
use Rattle.lines.specs.declared.Line.{Line}
use Rattle.lines.specs.Limits.{line_size, bare_size}
use Rattle.lines.specs.Line.{number, line_numbers_lem, line_of, line_at, line_count, lines_of}
use Rattle.lines.specs.LineNumbers.{length_numbers, number_at}
use Rattle.lines.specs.Laws.{lines_from, lines_past}
use Rattle.little_endian.specs.Bytes.{AreBytes, le32, int32}
use Rattle.little_endian.specs.Writing.{bytes16, bytes32, signed_bytes, int32_bytes}
use Rattle.little_endian.specs.Back.{le32_bytes, le32_at, int32_back, Small, small_none, small_append, small16, small32, int32_bytes_small}
use Rattle.file_records.specs.declared.Kind.{Kind}
use Rattle.file_records.specs.declared.Kind.TheVariants as kinds
use Rattle.file_records.specs.Table.{header_size, number_of_kind, kind_numbered, body_size_lem, size_of, record_size_lem, le16, kind_at_lem, record_size_at_lem, record_place}
use Rattle.file_records.specs.Places.{numbered_kind, number_small, longest, place_first, place_suc}
use Rattle.file_records.specs.Scan.{no_identifier_lem}
use Rattle.file_records.specs.Record.{Whole, LineAt}
use Rattle.file_list.specs.File.{numbers_in, record_of, kind_of, line_body, line_record, line_records, file_of, file_size_lem, line_in}
use Rattle.file_list.specs.LineRecord.{KindOf, unwritten, written, kind_of_law, line_kind_of, numbers_few, written_numbers, length_written, length_body, length_record, length_records, line_back}

-- ---- at a place, by what stands there
module _ (b c : List ℕ) (p : ℕ) (e : drop p b ≡ c) where
  pub le16_first : le16 b p ≡ le16 c 0
  le16_first = rw (← e) (simp (get_or-drop, add-zero))

  pub le16_at : (i : ℕ) → le16 b (p + i) ≡ le16 c i
  le16_at i = rw (← e) (simp (get_or-drop, add_assoc))

-- ---- read, then written
drop2 : (b : List ℕ) (p : ℕ) → p + 2 ≤ length b → drop p b ≡ get_or b p 0 ∷ get_or b (p + 1) 0 ∷ drop (p + 2) b
drop2 b p h = simp towards_suc (drop-cons b p 0 (omega arith) ∙ ap (λ (l : List ℕ). get_or b p 0 ∷ l) (drop-cons b (suc p) 0 (omega arith)))

drop4 : (b : List ℕ) (p : ℕ) → p + 4 ≤ length b → drop p b ≡ get_or b p 0 ∷ get_or b (p + 1) 0 ∷ get_or b (p + 2) 0 ∷ get_or b (p + 3) 0 ∷ drop (p + 4) b
drop4 b p h =
    drop2 b p (omega arith) ∙ ap (λ (l : List ℕ). get_or b p 0 ∷ get_or b (p + 1) 0 ∷ l) (simp add_assoc at (drop2 b (p + 2) (omega arith)))

-- the lowest byte, and what is above it
low : (x q : ℕ) → x < 256 → (x + q * 256) % 256 ≡ x
low x q h = omega arith

high : (x q : ℕ) → x < 256 → (x + q * 256) / 256 ≡ q
high x q h = omega arith

bytes16_le : (x y : ℕ) → x < 256 → y < 256 → bytes16 (x + y * 256) ≡ x ∷ y ∷ []
bytes16_le x y h k = rw (low x y h, high x y h, mod-eq_of_lt k)

bytes32_le : (x y z w : ℕ) → x < 256 → y < 256 → z < 256 → w < 256 → bytes32 (x + y * 256 + z * 65536 + w * 16777216) ≡ x ∷ y ∷ z ∷ w ∷ []
bytes32_le x y z w h k l m =
    let e : x + y * 256 + z * 65536 + w * 16777216 ≡ x + (y + (z + w * 256) * 256) * 256 = omega arith in
    let n = x + (y + (z + w * 256) * 256) * 256 in
    rw (e, ← div-div-eq-div-mul n 65536 256, ← div-div-eq-div-mul n 256 256, low x _ h, high x _ h, low y _ k, high y _ k, low z w l, high z w l, mod-eq_of_lt m)

module _ (b : List ℕ) (bytes : AreBytes b) where
  pub drop_bytes16 : (p : ℕ) → p + 2 ≤ length b → drop p b ≡ bytes16 (le16 b p) ++ drop (p + 2) b
  drop_bytes16 p h = drop2 b p h ∙ ap (λ (l : List ℕ). l ++ drop (p + 2) b) (sym (bytes16_le _ _ (bytes p) (bytes (p + 1))))

  pub drop_bytes32 : (p : ℕ) → p + 4 ≤ length b → drop p b ≡ bytes32 (le32 b p) ++ drop (p + 4) b
  drop_bytes32 p h = drop4 b p h ∙ ap (λ (l : List ℕ). l ++ drop (p + 4) b) (sym (bytes32_le _ _ _ _ (bytes p) (bytes (p + 1)) (bytes (p + 2)) (bytes (p + 3))))

  le32_small : (p : ℕ) → le32 b p < 2 ^ 32
  le32_small p = omega (arith, bytes p, bytes (p + 1), bytes (p + 2), bytes (p + 3))

  pub drop_signed : (p : ℕ) → p + 4 ≤ length b → drop p b ≡ signed_bytes (int32 b p) ++ drop (p + 4) b
  drop_signed p h = drop_bytes32 p h ∙ ap (λ (v : ℕ). bytes32 v ++ drop (p + 4) b) (sym (of_z-to_z {w = w32} (record { fits = le32_small p })))

-- ---- what is written is bytes
small_record : (kind : Kind) {body : List ℕ} → Small body → Small (record_of kind body)
small_record kind {body} h = small_append (small16 (length body)) (small_append (small16 (number_of_kind kind)) h)

small_body : (l : Line) → Small (line_body l)
unfolding line_body
small_body l = record { small = int32_bytes_small (written_numbers l) }

small_lines : (ls : List Line) → Small (line_records ls)
unfolding line_records
small_lines [] = small_none
small_lines (l ∷ ls) = small_append (small_record (kind_of l) (small_body l)) (small_lines ls)

pub file_bytes : (n : ℕ) (L : List ℤ) → AreBytes (file_of n L)
unfolding file_of
file_bytes n L = (small_append (small_record kinds.Variables (small32 n)) (small_append (small_lines (lines_of L)) (small_record kinds.End small_none))).small

-- ---- a record that stands at p
-- two bytes say what was written
two_bytes : (v : ℕ) → v < 65536 → v % 256 + v / 256 % 256 * 256 ≡ v
two_bytes v h = omega arith

module _ (b : List ℕ) (p : ℕ) (l : Line) (r : List ℕ) (e : drop p b ≡ line_record l ++ r) where
  kind_there : kind_at_lem b p ≡ Some (kind_of l)
  kind_there =
      let number = number_of_kind (kind_of l) in
      ap kind_numbered (le16_at b _ p e 2 ∙ two_bytes number (number_small (kind_of l))) ∙ numbered_kind (kind_of l)

  whole_there : Whole b p (kind_of l)
  whole_there =
      record {
        named = kind_there;
        sized = le16_first b _ p e ∙ ap (λ (m : ℕ). m % 256 + m / 256 % 256 * 256) (length_body l) ∙ two_bytes (body_size_lem (kind_of l)) (omega (arith, longest (kind_of l)));
        whole = omega (arith, length-drop p b, ap length e, length-append (line_record l) r, length_record l, longest (kind_of l));
      }

  behind_there : drop (p + record_size_at_lem b p) b ≡ r
  behind_there =
      ap (λ (o : Option Kind). drop (p + (header_size + size_of o)) b) kind_there
      ∙ sym (drop-drop (record_size_lem (kind_of l)) p b)
      ∙ ap (drop (record_size_lem (kind_of l))) e
      ∙ drop_at (line_record l) r (record_size_lem (kind_of l)) (length_record l)

  -- where its numbers fit
  module _ (f : (j : ℕ) → j < line_size → SFits w32 (number (line_numbers_lem l) j)) where
    number_there : (j : ℕ) → j < numbers_in (kind_of l) → int32 b (p + header_size + 4 * j) ≡ number (line_numbers_lem l) j
    unfolding line_body
    number_there j h =
        let same : number (written_numbers l) j ≡ number (line_numbers_lem l) j = get_or-take (numbers_in (kind_of l)) (line_numbers_lem l) j (pos 0) h in
        let body : drop (p + header_size) b ≡ int32_bytes (written_numbers l) ++ r = sym (drop-drop header_size p b) ∙ ap (drop header_size) e in
        ap (to_z w32) (le32_at b _ (p + header_size) body (4 * j))
        ∙ int32_back (written_numbers l) r j (omega (arith, length_written l)) (subst (SFits w32) (sym same) (f j (omega (arith, numbers_few (kind_of l)))))
        ∙ same

    line_there : line_in b p ≡ l
    unfolding line_in
    line_there =
        let m = numbers_in (kind_of l) in
        ap (λ (o : Option Kind). line_of (tabulate (size_of o / 4) (λ j. int32 b (p + header_size + 4 * j)))) kind_there
        ∙ ap line_of (tabulate_cong m _ _ number_there ∙ tabulate_get_d m (line_numbers_lem l) (pos 0) (omega (arith, numbers_few (kind_of l), length_numbers l)))
        ∙ line_back l

    identified_there : no_identifier_lem b p (kind_of l) ≡ false
    unfolding line_numbers_lem
    identified_there = go (kind_of l) (kind_of_law l) refl
      where
        go : (k : Kind) → KindOf l k → kind_of l ≡ k → no_identifier_lem b p k ≡ false
        go _ (unwritten z) q = refl
        go _ (written z) q = ap (λ (y : ℤ). eq_z y (pos 0)) (number_there bare_size (omega (arith, ap numbers_in q))) ∙ z

    line_at_law : LineAt b p
    line_at_law = record { kind = kind_of l; is_line_law = line_kind_of l; whole = whole_there; identified = identified_there }

-- ---- the places in a file
module _ (n : ℕ) (L : List ℤ) where
  -- the records from line k on
  abbrev from : ℕ → List ℕ
  from k = line_records (drop k (lines_of L)) ++ record_of kinds.End []

  from_line : (k : ℕ) → k < line_count L → from k ≡ line_record (line_at L k) ++ from (k + 1)
  unfolding line_records
  from_line k h =
      ap (λ (ls : List Line). line_records ls ++ record_of kinds.End []) (lines_from L k h)
      ∙ append_assoc (line_record (line_at L k)) (line_records (drop (k + 1) (lines_of L))) (record_of kinds.End [])

  from_first : drop (header_size + 4) (file_of n L) ≡ from 0
  unfolding file_of
  from_first = refl

  drop_file : (k : ℕ) → k ≤ line_count L → drop (record_place (file_of n L) k) (file_of n L) ≡ from k
  drop_file zero h = ap (λ (i : ℕ). drop i (file_of n L)) (place_first (file_of n L)) ∙ from_first
  drop_file (suc k) h =
      ap (λ (i : ℕ). drop i (file_of n L)) (place_suc (file_of n L) k)
      ∙ behind_there (file_of n L) (record_place (file_of n L) k) (line_at L k) (from (k + 1)) (drop_file k (omega arith) ∙ from_line k (omega arith))
      ∙ ap from (add-one k)

  line_of_file : (k : ℕ) → k < line_count L → drop (record_place (file_of n L) k) (file_of n L) ≡ line_record (line_at L k) ++ from (k + 1)
  line_of_file k h = drop_file k (omega arith) ∙ from_line k h

  end_of_file : drop (record_place (file_of n L) (line_count L)) (file_of n L) ≡ record_of kinds.End []
  unfolding line_records
  end_of_file = drop_file (line_count L) (omega arith) ∙ ap (λ (ls : List Line). line_records ls ++ record_of kinds.End []) (lines_past L (line_count L) (omega arith))

  pub length_file : length (file_of n L) ≡ file_size_lem L
  unfolding file_of
  length_file =
      length-append (record_of kinds.Variables (bytes32 n)) (from 0)
      ∙ omega (arith, length-append (line_records (lines_of L)) (record_of kinds.End []), length_records (lines_of L))

  pub end_place : record_place (file_of n L) (line_count L) + record_size_lem kinds.End ≡ length (file_of n L)
  end_place = omega (arith, length-drop (record_place (file_of n L) (line_count L)) (file_of n L), ap length end_of_file)

  -- the record of n, and that of the end
  pub first_whole : Whole (file_of n L) 0 kinds.Variables
  unfolding file_of kind_numbered
  first_whole = record { named = refl; sized = refl; whole = omega (arith, length_file) }

  pub end_whole : Whole (file_of n L) (record_place (file_of n L) (line_count L)) kinds.End
  unfolding kind_numbered
  end_whole =
      record {
        named = ap kind_numbered (le16_at (file_of n L) _ (record_place (file_of n L) (line_count L)) end_of_file 2);
        sized = le16_first (file_of n L) _ (record_place (file_of n L) (line_count L)) end_of_file;
        whole = omega (arith, end_place);
      }

  pub n_in_file : n < 2 ^ 32 → le32 (file_of n L) header_size ≡ n
  unfolding file_of
  n_in_file h = le32_bytes n [] h

  -- the lines, where their numbers fit
  module _ (f : (i : ℕ) → SFits w32 (number L i)) (k : ℕ) (h : k < line_count L) where
    line_fits : (j : ℕ) → j < line_size → SFits w32 (number (line_numbers_lem (line_at L k)) j)
    line_fits j l = subst (SFits w32) (sym (number_at L k h j l)) (f (line_size * k + j))

    pub line_at_place : LineAt (file_of n L) (record_place (file_of n L) k)
    line_at_place = line_at_law (file_of n L) (record_place (file_of n L) k) (line_at L k) _ (line_of_file k h) line_fits

    pub line_in_file : line_in (file_of n L) (record_place (file_of n L) k) ≡ line_at L k
    line_in_file = line_there (file_of n L) (record_place (file_of n L) k) (line_at L k) _ (line_of_file k h) line_fits
