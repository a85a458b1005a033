-- The file of a list is laid out as files are, and bytes that are laid out so are the file of the list in them.
use Rattle.std.specs.Prelude.{◌≡◌, refl, ℤ, pos}
use Rattle.std.proofs.Math.Path.{sym, ap, ap₂}
use Rattle.std.proofs.Common.{◌∙◌, zero-add, add-zero, add-suc, suc-add, add_assoc, drop_of_length-le, SFits}
use mathlib.Core.List.{List, [], ◌∷◌, ◌++◌, append_assoc}
use Prim.Native.Nat.{ℕ, zero, suc, ◌+◌, ◌*◌, ◌/◌, ◌^◌, ◌<◌, ◌≤◌, suc-le-suc}
use native.Mathlib.Omega.{arith}
use Rattle.std.proofs.Math.ListN.{length, drop}
use Rattle.std.specs.Int.{w32}
use Rattle.integers.specs.Sequence.{tabulate, length_tabulate, tabulate_cong, get_d_tabulate}
use Rattle.lines.specs.declared.Line.{Line}
use Rattle.lines.specs.Limits.{line_size}
use Rattle.lines.specs.Line.{number, line_count, numbers_of}
use Rattle.lines.specs.LineNumbers.{length_numbers_of, lines_of_numbers, numbers_of_lines}
use Rattle.little_endian.specs.Bytes.{AreBytes, int32}
use Rattle.little_endian.specs.Writing.{bytes16, bytes32, signed_bytes, bytes_of, int32_bytes}
use Rattle.little_endian.specs.Back.{length_bytes_of}
use Rattle.file_records.specs.declared.Kind.{Kind}
use Rattle.file_records.specs.declared.Kind.TheVariants as kinds
use Rattle.file_records.specs.Table.{header_size, number_of_kind, body_size_lem, size_of, kind_at_lem, record_size_at_lem, record_place}
use Rattle.file_records.specs.Places.{numbered_is, place_first, place_suc}
use Rattle.file_records.specs.Record.{Whole, LineAt}
use Rattle.file_records.specs.Laid.{Laid}
use Rattle.file_list.specs.File.{record_of, line_record, line_records, file_of, numbers_at, line_in, file_lines, file_list_lem}
use Rattle.file_list.specs.LineRecord.{record_back, length_numbers_at}
use Rattle.file_list.specs.Bytes.{drop_bytes16, drop_bytes32, drop_signed, end_place, first_whole, end_whole, n_in_file, line_at_place, line_in_file}

-- ---- written
module _ (n : ℕ) (L : List ℤ) (f : (i : ℕ) → SFits w32 (number L i)) where
  pub file_laid : n < 2 ^ 32 → Laid (file_of n L) n (line_count L)
  file_laid h =
      record {
        begun = record { first = first_whole n L; variables = n_in_file n L h; lines = line_at_place n L f };
        end = end_whole n L;
        size = end_place n L;
      }

  pub list_of_file : line_size * line_count L ≡ length L → file_list_lem (file_of n L) (line_count L) ≡ L
  unfolding file_list_lem
  list_of_file e = ap numbers_of (tabulate_cong (line_count L) _ _ (line_in_file n L f)) ∙ numbers_of_lines L e

-- ---- read
pub length_file_list : (b : List ℕ) (k : ℕ) → length (file_list_lem b k) ≡ line_size * k
unfolding file_list_lem
length_file_list b k = length_numbers_of (file_lines b k) ∙ ap (λ (m : ℕ). line_size * m) (length_tabulate k (λ j. line_in b (record_place b j)))

pub line_count_file_list : (b : List ℕ) (k : ℕ) → line_count (file_list_lem b k) ≡ k
line_count_file_list b k = omega (arith, length_file_list b k)

module _ (b : List ℕ) (bytes : AreBytes b) where
  -- what stands at p is what is written of what is read there
  from_header : (p : ℕ) (kind : Kind) → Whole b p kind → drop p b ≡ bytes16 (body_size_lem kind) ++ (bytes16 (number_of_kind kind) ++ drop (p + header_size) b)
  from_header p kind h =
      rw (drop_bytes16 b bytes p (omega (arith, h.whole)), drop_bytes16 b bytes (p + 2) (omega (arith, h.whole)), h.sized, numbered_is _ kind h.named, add_assoc p 2 2)

  from_numbers : (zs : List ℤ) (p : ℕ) → p + 4 * length zs ≤ length b → ((i : ℕ) → i < length zs → number zs i ≡ int32 b (p + 4 * i))
      → drop p b ≡ int32_bytes zs ++ drop (p + 4 * length zs) b
  unfolding bytes_of
  from_numbers [] p h e = ap (λ (q : ℕ). drop q b) (sym (add-zero p))
  from_numbers (z ∷ zs) p h e =
      let first : z ≡ int32 b p = e 0 (omega arith) ∙ ap (int32 b) (add-zero p) in
      let next : p + 4 + 4 * length zs ≡ p + 4 * suc (length zs) = omega arith in
      let later : (i : ℕ) → i < length zs → number zs i ≡ int32 b (p + 4 + 4 * i) =
      λ i l. let q : p + 4 * suc i ≡ p + 4 + 4 * i = omega arith in e (suc i) (suc-le-suc l) ∙ ap (int32 b) q in
      drop_signed b bytes p (omega arith)
      ∙ ap (λ (y : ℤ). signed_bytes y ++ drop (p + 4) b) (sym first)
      ∙ ap (λ (r : List ℕ). signed_bytes z ++ r) (from_numbers zs (p + 4) (omega arith) later ∙ ap (λ (q : ℕ). int32_bytes zs ++ drop q b) next)

  from_line : (p : ℕ) → LineAt b p → drop p b ≡ line_record (line_in b p) ++ drop (p + record_size_at_lem b p) b
  from_line p h =
      let kind = h.kind in
      let zs = numbers_at b p in
      let size = length_numbers_at b p h in
      let body : length (int32_bytes zs) ≡ body_size_lem kind = length_bytes_of 4 signed_bytes (λ z. refl) zs ∙ size in
      let end : p + header_size + 4 * length zs ≡ p + record_size_at_lem b p = omega (arith, ap size_of h.whole.named) in
      let count = size_of (kind_at_lem b p) / 4 in
      from_header p kind h.whole
      ∙ ap (λ (r : List ℕ). bytes16 (body_size_lem kind) ++ (bytes16 (number_of_kind kind) ++ r))
      (from_numbers zs (p + header_size) (omega (arith, h.whole.whole)) (λ i l. get_d_tabulate count i _ (pos 0) (omega (arith, length_tabulate count (λ j. int32 b (p + header_size + 4 * j)))))
      ∙ ap (λ (q : ℕ). int32_bytes zs ++ drop q b) end)
      ∙ ap (λ (m : ℕ). bytes16 m ++ (bytes16 (number_of_kind kind) ++ (int32_bytes zs ++ drop (p + record_size_at_lem b p) b))) (sym body)
      ∙ ap (λ (r : List ℕ). r ++ drop (p + record_size_at_lem b p) b) (sym (record_back b p h))

  module _ (n k : ℕ) (h : Laid b n k) where
    from_lines : (m j : ℕ) (f : ℕ → Line) → j + m ≡ k → ((i : ℕ) → i < m → f i ≡ line_in b (record_place b (j + i))) → drop (record_place b j) b ≡ line_records (tabulate m f) ++ drop (record_place b k) b
    unfolding line_records
    from_lines zero j f e g = ap (λ (i : ℕ). drop (record_place b i) b) (sym (add-zero j) ∙ e)
    from_lines (suc m) j f e g =
        let first : line_in b (record_place b j) ≡ f 0 = ap (λ (i : ℕ). line_in b (record_place b i)) (sym (add-zero j)) ∙ sym (g 0 (omega arith)) in
        from_line (record_place b j) (h.begun.lines j (omega arith))
        ∙ ap₂ (λ (x : Line) (p : ℕ). line_record x ++ drop p b) first (sym (place_suc b j))
        ∙ ap (λ (r : List ℕ). line_record (f 0) ++ r)
        (from_lines m (suc j) (λ i. f (suc i)) (omega arith) (λ i l. g (suc i) (omega arith) ∙ ap (λ (p : ℕ). line_in b (record_place b p)) (add-suc j i ∙ sym (suc-add j i))))
        ∙ sym (append_assoc (line_record (f 0)) (line_records (tabulate m (λ i. f (suc i)))) (drop (record_place b k) b))

    from_end : drop (record_place b k) b ≡ record_of kinds.End []
    from_end =
        from_header (record_place b k) kinds.End h.end
        ∙ ap (λ (r : List ℕ). bytes16 0 ++ (bytes16 (number_of_kind kinds.End) ++ r)) (drop_of_length-le b {i = record_place b k + header_size} (omega (arith, h.size)))

    pub laid_file : file_of n (file_list_lem b k) ≡ b
    unfolding file_of file_list_lem
    laid_file = sym (
        from_header 0 kinds.Variables h.begun.first
        ∙ ap (λ (r : List ℕ). bytes16 4 ++ (bytes16 (number_of_kind kinds.Variables) ++ r))
        (drop_bytes32 b bytes header_size (omega (arith, h.begun.first.whole))
        ∙ ap (λ (v : ℕ). bytes32 v ++ drop (header_size + 4) b) h.begun.variables
        ∙ ap (λ (r : List ℕ). bytes32 n ++ r)
        (ap (λ (p : ℕ). drop p b) (sym (place_first b))
        ∙ from_lines k 0 (λ j. line_in b (record_place b j)) (zero-add k) (λ i l. ap (λ (p : ℕ). line_in b (record_place b p)) (sym (zero-add i)))
        ∙ ap₂ (λ (ls : List Line) (r : List ℕ). line_records ls ++ r) (sym (lines_of_numbers (file_lines b k))) from_end)))
