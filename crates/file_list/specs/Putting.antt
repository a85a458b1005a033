-- The records of a file put into a buffer one behind the other.
--
-- A loop keeps that what it has put, with all that is left put behind it, is what is to be put. So it ends where nothing is left.
use Rattle.std.specs.Prelude.{◌≡◌, ℕ, ◌+◌, ◌*◌, ◌<◌, ◌≤◌, ℤ, pos, take, drop}
use Rattle.std.proofs.Math.Path.{refl, ap}
use Rattle.std.proofs.Common.{sym, ◌∙◌, add-zero, add-one, drop_of_length-le, take-take, drop-cons}
use mathlib.Core.List.{List, [], ◌∷◌, ◌++◌, append_assoc}
use native.Mathlib.Omega.{arith}
use Rattle.std.proofs.Math.ListN.{length, length-append}
use Rattle.integers.specs.Sequence.{length_tabulate}
use Rattle.lines.specs.declared.Line.{Line}
use Rattle.lines.specs.Limits.{line_size}
use Rattle.lines.specs.Line.{number, line_numbers_lem, line_at, line_count, lines_of}
use Rattle.lines.specs.LineNumbers.{numbers_at}
use Rattle.lines.specs.Laws.{lines_from, lines_past}
use Rattle.little_endian.specs.Writing.{bytes16, bytes32, signed_bytes, bytes_of, int32_bytes, put, put_is, put_append, put_then}
use Rattle.file_records.specs.declared.Kind.{Kind}
use Rattle.file_records.specs.declared.Kind.TheVariants as kinds
use Rattle.file_records.specs.Table.{header_size, number_of_kind, body_size_lem, record_size_lem}
use Rattle.file_records.specs.Places.{longest}
use Rattle.file_list.specs.File.{numbers_in, record_of, kind_of, line_body, line_record, line_records, file_of, lines_size, lines_end, file_size_lem}
use Rattle.file_list.specs.LineRecord.{numbers_few, length_body, length_record, length_records}
use Rattle.file_list.specs.Bytes.{length_file}

-- ---- numbers
module _ (out : List ℕ) (at : ℕ) (ns : List ℤ) where
  -- the first i numbers were put
  pub record NumbersPut (i : ℕ) (m : List ℕ) : Type 0 where
    pub left : put m (at + 4 * i) (int32_bytes (drop i ns)) ≡ put out at (int32_bytes ns)

  pub numbers_none : NumbersPut 0 out
  numbers_none = record { left = ap (λ (j : ℕ). put out j (int32_bytes ns)) (add-zero at) }

  pub numbers_more : (i : ℕ) {m o : List ℕ} → i < length ns → NumbersPut i m → o ≡ put m (at + 4 * i) (signed_bytes (number ns i)) → NumbersPut (i + 1) o
  unfolding bytes_of
  numbers_more i {m} {o} h p e =
      let next : at + 4 * i + 4 ≡ at + 4 * (i + 1) = omega arith in
      let rest = int32_bytes (drop (i + 1) ns) in
      let first : int32_bytes (drop i ns) ≡ signed_bytes (number ns i) ++ rest =
      ap int32_bytes (drop-cons ns i (pos 0) h) ∙ ap (λ (j : ℕ). signed_bytes (number ns i) ++ int32_bytes (drop j ns)) (sym (add-one i)) in
      let joined : put o (at + 4 * (i + 1)) rest ≡ put m (at + 4 * i) (signed_bytes (number ns i) ++ rest) =
      ap (λ (l : List ℕ). put l (at + 4 * (i + 1)) rest) e ∙ put_append m (at + 4 * i) (signed_bytes (number ns i)) (at + 4 * (i + 1)) rest next in
      record { left = joined ∙ ap (put m (at + 4 * i)) (sym first) ∙ p.left }

  pub numbers_all : (i : ℕ) {m : List ℕ} → length ns ≤ i → NumbersPut i m → m ≡ put out at (int32_bytes ns)
  unfolding put bytes_of
  numbers_all i {m} h p = ap (λ (l : List ℤ). put m (at + 4 * i) (int32_bytes l)) (sym (drop_of_length-le ns {i = i} h)) ∙ p.left

-- ---- one record
-- what stands before the body
abbrev pub header : Kind → List ℕ
header kind = bytes16 (body_size_lem kind) ++ bytes16 (number_of_kind kind)

-- ---- one line
-- the header, then the numbers
pub put_record : (out : List ℕ) (at : ℕ) (L : List ℤ) (k m : ℕ) {o₁ o₂ : List ℕ} → k < line_count L → m ≡ numbers_in (kind_of (line_at L k))
    → o₁ ≡ put out at (header (kind_of (line_at L k)))
    → o₂ ≡ put o₁ (at + header_size) (int32_bytes (take m (drop (line_size * k) L)))
    → o₂ ≡ put out at (line_record (line_at L k))
unfolding line_body
put_record out at L k m {o₁} {o₂} h e e₁ e₂ =
    let l = line_at L k in
    let n = numbers_in (kind_of l) in
    let numbers : take m (drop (line_size * k) L) ≡ take n (line_numbers_lem l) =
    ap (λ (i : ℕ). take i (drop (line_size * k) L)) e ∙ sym (ap (take n) (numbers_at L k h) ∙ take-take n line_size (drop (line_size * k) L) (numbers_few (kind_of l))) in
    put_then out at (header (kind_of l)) (at + header_size) (line_body l) refl e₁ (e₂ ∙ ap (λ (ns : List ℤ). put o₁ (at + header_size) (int32_bytes ns)) numbers)
    ∙ ap (λ (s : ℕ). put out at (bytes16 s ++ (bytes16 (number_of_kind (kind_of l)) ++ line_body l))) (sym (length_body l))

-- ---- the lines
lines_size_law : (L : List ℤ) (k : ℕ) → k < line_count L → lines_size (drop k (lines_of L)) ≡ record_size_lem (kind_of (line_at L k)) + lines_size (drop (k + 1) (lines_of L))
unfolding lines_size
lines_size_law L k h = ap lines_size (lines_from L k h)

none_size : (L : List ℤ) (k : ℕ) → line_count L ≤ k → lines_size (drop k (lines_of L)) ≡ 0
unfolding lines_size
none_size L k h = ap lines_size (lines_past L k h)

-- as if each record were the longest
lines_most : (ls : List Line) → lines_size ls ≤ (header_size + 4 * line_size) * length ls
unfolding lines_size
lines_most [] = omega arith
lines_most (l ∷ ls) = omega (arith, longest (kind_of l), lines_most ls)

pub ends_before : (L : List ℤ) → lines_end L ≤ header_size + 4 + (header_size + 4 * line_size) * line_count L
ends_before L = omega (arith, lines_most (lines_of L), length_tabulate (line_count L) (line_at L))

-- the records of the first k lines end at `at`
pub record LinesEnded (L : List ℤ) (k at : ℕ) : Type 0 where
  pub left : at + lines_size (drop k (lines_of L)) ≡ lines_end L

module _ (L : List ℤ) where
  pub ended_none : (at : ℕ) → at ≡ record_size_lem kinds.Variables → LinesEnded L 0 at
  ended_none at e = record { left = ap (λ (i : ℕ). i + lines_size (lines_of L)) e }

  pub ended_more : (k at : ℕ) → k < line_count L → LinesEnded L k at → LinesEnded L (k + 1) (at + record_size_lem (kind_of (line_at L k)))
  ended_more k at h p = record { left = omega (arith, lines_size_law L k h, p.left) }

  pub ended_all : (k at : ℕ) → line_count L ≤ k → LinesEnded L k at → at ≡ lines_end L
  ended_all k at h p = omega (arith, none_size L k h, p.left)

  -- line k ends before all lines end
  pub ended_within : (k at : ℕ) → k < line_count L → LinesEnded L k at → at + record_size_lem (kind_of (line_at L k)) ≤ lines_end L
  ended_within k at h p = omega (arith, lines_size_law L k h, p.left)

  module _ (out : List ℕ) where
    -- and were put
    pub record LinesPut (k at : ℕ) (m : List ℕ) : Type 0 where
      pub left : put m at (line_records (drop k (lines_of L))) ≡ put out (record_size_lem kinds.Variables) (line_records (lines_of L))

    pub lines_none : (at : ℕ) → at ≡ record_size_lem kinds.Variables → LinesPut 0 at out
    lines_none at e = record { left = ap (λ (i : ℕ). put out i (line_records (lines_of L))) e }

    pub lines_more : (k at : ℕ) {m o : List ℕ} {next : ℕ} → k < line_count L → LinesPut k at m → o ≡ put m at (line_record (line_at L k)) → next ≡ at + record_size_lem (kind_of (line_at L k)) → LinesPut (k + 1) next o
    unfolding line_records
    lines_more k at {m} {o} {next} h p e f =
        let l = line_at L k in
        let rest = line_records (drop (k + 1) (lines_of L)) in
        let end : at + length (line_record l) ≡ next = omega (arith, length_record l) in
        record { left = ap (λ (b : List ℕ). put b next rest) e ∙ put_append m at (line_record l) next rest end ∙ ap (λ (ls : List Line). put m at (line_records ls)) (sym (lines_from L k h)) ∙ p.left }

    pub lines_all : (k at : ℕ) {m : List ℕ} → line_count L ≤ k → LinesPut k at m → m ≡ put out (record_size_lem kinds.Variables) (line_records (lines_of L))
    unfolding put line_records
    lines_all k at {m} h p = ap (λ (ls : List Line). put m at (line_records ls)) (sym (lines_past L k h)) ∙ p.left

-- ---- the file
module _ (n : ℕ) (L : List ℤ) (out : List ℕ) where
  abbrev lines : List ℕ
  lines = line_records (lines_of L)

  pub put_all : {o₁ o₂ o₃ o₄ : List ℕ} {end : ℕ}
      → o₁ ≡ put out 0 (header kinds.Variables)
      → o₂ ≡ put o₁ header_size (bytes32 n)
      → o₃ ≡ put o₂ (record_size_lem kinds.Variables) lines
      → end ≡ lines_end L
      → o₄ ≡ put o₃ end (header kinds.End)
      → o₄ ≡ put out 0 (file_of n L)
  unfolding file_of
  put_all {o₂ = o₂} {end = end} e₁ e₂ e₃ e e₄ =
      let first = record_of kinds.Variables (bytes32 n) in
      let behind : 0 + length (first ++ lines) ≡ end = omega (arith, length-append first lines, length_records (lines_of L)) in
      let at : 0 + length first ≡ record_size_lem kinds.Variables = refl in
      let three = put_then out 0 first (record_size_lem kinds.Variables) lines at (put_then out 0 (header kinds.Variables) header_size (bytes32 n) refl e₁ e₂) e₃ in
      put_then out 0 (first ++ lines) end (record_of kinds.End []) behind three e₄ ∙ ap (put out 0) (append_assoc first lines (record_of kinds.End []))

  -- it stands before what was there
  pub file_before : file_size_lem L ≤ length out → put out 0 (file_of n L) ≡ file_of n L ++ drop (file_size_lem L) out
  file_before h =
      let e : 0 + length (file_of n L) ≡ file_size_lem L = omega (arith, length_file n L) in
      put_is out 0 (file_of n L) (omega (arith, e, h)) ∙ ap (λ (k : ℕ). file_of n L ++ drop k out) e
