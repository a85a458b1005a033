-- The numbers of a file's lines decoded into the front of a buffer, one line behind the other.
use Rattle.std.specs.Prelude.{◌≡◌, List, [], ◌∷◌, ◌++◌, ℕ, ◌+◌, ◌*◌, ◌/◌, ◌<◌, ◌≤◌, ℤ, pos, length, get_or, set, take, drop, Option}
use Rattle.std.proofs.Math.Path.{refl}
use Rattle.std.proofs.Common.{sym, ap, ap₂, subst, ◌∙◌, append_assoc, append-nil, add-zero, add_assoc, arith, length-append, length-set, length-drop, drop_of_length-le, length-take-le, get_or-take, get_or-drop, drop-drop, take_at, drop_at, to_z}
use Rattle.std.proofs.lemmas.List.{set_split}
use Rattle.std.specs.Int.{w32}
use Rattle.integers.specs.Sequence.{tabulate, tabulate_add, tabulate_cong}
use Rattle.lines.specs.Limits.{line_size, bare_size}
use Rattle.lines.specs.Line.{line_numbers_lem, line_of, numbers_of}
use Rattle.lines.specs.LineNumbers.{numbers_append}
use Rattle.little_endian.specs.Bytes.{le32, int32, first_of, int32s}
use Rattle.file_records.specs.declared.Kind.{Kind}
use Rattle.file_records.specs.Table.{header_size, size_of, kind_at_lem, record_place}
use Rattle.file_records.specs.Places.{LineKind, bare, identified}
use Rattle.file_records.specs.Record.{LineAt}
use Rattle.file_list.specs.File.{numbers_in, line_in, file_lines, file_list_lem}
use Rattle.file_list.specs.Layout.{length_file_list}

-- ---- one line
-- a buffer for one line, whose last number is 0: the numbers of a record in its front make it the line's
last_zero : (line : List ℤ) → length line ≡ line_size → drop bare_size (set line bare_size (pos 0)) ≡ pos 0 ∷ []
last_zero line e =
    ap (drop bare_size) (set_split line bare_size (pos 0) (omega arith))
    ∙ drop_at (take bare_size line) (pos 0 ∷ drop line_size line) bare_size (length-take-le bare_size line (omega arith))
    ∙ ap (λ (r : List ℤ). pos 0 ∷ r) (drop_of_length-le line {i = line_size} (omega arith))

filled : (f : ℕ → ℤ) {kind : Kind} → LineKind kind → (line : List ℤ) → length line ≡ line_size
    → tabulate (numbers_in kind) f ++ drop (numbers_in kind) (set line bare_size (pos 0)) ≡ line_numbers_lem (line_of (tabulate (numbers_in kind) f))
unfolding line_numbers_lem
filled f bare line e = ap (λ (r : List ℤ). tabulate bare_size f ++ r) (last_zero line e)
filled f identified line e =
    ap (λ (r : List ℤ). tabulate line_size f ++ r) (drop_of_length-le (set line bare_size (pos 0)) {i = line_size} (omega (arith, length-set line bare_size (pos 0))))

-- a part of the file says what the file says there
part_word : (b : List ℕ) (p m i : ℕ) → i + 4 ≤ m → le32 (take m (drop p b)) i ≡ le32 b (p + i)
part_word b p m i h = rw (byte i (omega arith), byte (i + 1) (omega arith), byte (i + 2) (omega arith), byte (i + 3) (omega arith), add_assoc p i 1, add_assoc p i 2, add_assoc p i 3)
  where
    byte : (j : ℕ) → j < m → get_or (take m (drop p b)) j 0 ≡ get_or b (p + j) 0
    byte j l = get_or-take m (drop p b) j 0 l ∙ get_or-drop p b j 0

pub line_decoded : (b : List ℕ) (at m : ℕ) (line : List ℤ) {o : List ℤ} (h : LineAt b at) → length line ≡ line_size → m ≡ size_of (kind_at_lem b at)
    → o ≡ int32s (take m (drop (at + header_size) b)) ++ drop (length (take m (drop (at + header_size) b)) / 4) (set line bare_size (pos 0))
    → o ≡ line_numbers_lem (line_in b at)
unfolding line_in first_of
line_decoded b at m line {o} h e s q =
    let p = at + header_size in
    let part = take m (drop p b) in
    let numbers : ℕ → ℤ = λ j. int32 b (p + 4 * j) in
    let n = size_of (kind_at_lem b at) / 4 in
    let size : length part ≡ m = length-take-le m (drop p b) (omega (arith, length-drop p b, h.whole.whole, ap size_of h.whole.named)) in
    let count : length part / 4 ≡ n = ap (λ (i : ℕ). i / 4) (size ∙ s) in
    let same : tabulate n (λ j. int32 part (4 * j)) ≡ tabulate n numbers = tabulate_cong n _ _ (λ j l. ap (to_z w32) (part_word b p m (4 * j) (omega arith))) in
    q
    ∙ ap (λ (i : ℕ). tabulate i (λ j. int32 part (4 * j)) ++ drop i (set line bare_size (pos 0))) count
    ∙ ap (λ (l : List ℤ). l ++ drop n (set line bare_size (pos 0))) same
    ∙ subst (λ (o : Option Kind). tabulate (size_of o / 4) numbers ++ drop (size_of o / 4) (set line bare_size (pos 0)) ≡ line_numbers_lem (line_of (tabulate (size_of o / 4) numbers))) (sym h.whole.named)
    (filled numbers h.is_line_law line e)

-- ---- all lines
-- one line more
list_more : (b : List ℕ) (k : ℕ) → file_list_lem b (k + 1) ≡ file_list_lem b k ++ line_numbers_lem (line_in b (record_place b k))
unfolding file_list_lem numbers_of
list_more b k =
    ap numbers_of (tabulate_add k 1 (λ j. line_in b (record_place b j)))
    ∙ numbers_append (file_lines b k) (line_in b (record_place b (k + 0)) ∷ [])
    ∙ ap₂ (λ (j : ℕ) (l : List ℤ). file_list_lem b k ++ l) (add-zero k) (append-nil (line_numbers_lem (line_in b (record_place b (k + 0)))) ∙ ap (λ (j : ℕ). line_numbers_lem (line_in b (record_place b j))) (add-zero k))

module _ (b : List ℕ) (d : List ℤ) where
  -- the first k lines are decoded, into the front of d
  pub record Decoded (k : ℕ) (numbers : List ℤ) : Type 0 where
    pub is : numbers ≡ file_list_lem b k ++ drop (line_size * k) d

  pub decoded_none : Decoded 0 d
  unfolding file_list_lem numbers_of
  decoded_none = record { is = refl }

  pub decoded_length : (k : ℕ) {m : List ℤ} → line_size * k ≤ length d → Decoded k m → length m ≡ length d
  decoded_length k h p =
      ap length p.is ∙ length-append (file_list_lem b k) (drop (line_size * k) d) ∙ omega (arith, length_file_list b k, length-drop (line_size * k) d)

  -- the numbers of line k come into the place of those from f on, c of them
  pub decoded_more : (k : ℕ) {m o ys : List ℤ} {f c : ℕ} → f ≡ line_size * k → c ≡ line_size → Decoded k m → ys ≡ line_numbers_lem (line_in b (record_place b k))
      → o ≡ take f m ++ (ys ++ drop c (drop f m)) → Decoded (k + 1) o
  decoded_more k {m} {o} {ys} {f} {c} u v p e q =
      let front = file_list_lem b k in
      let line = line_numbers_lem (line_in b (record_place b k)) in
      let behind = drop (line_size * (k + 1)) d in
      let first : take f m ≡ front = ap (take f) p.is ∙ take_at front (drop (line_size * k) d) f (length_file_list b k ∙ sym u) in
      let next : line_size * k + c ≡ line_size * (k + 1) = omega arith in
      let rest : drop c (drop f m) ≡ behind =
      ap (λ (l : List ℤ). drop c (drop f l)) p.is
      ∙ ap (drop c) (drop_at front (drop (line_size * k) d) f (length_file_list b k ∙ sym u))
      ∙ drop-drop c (line_size * k) d
      ∙ ap (λ (i : ℕ). drop i d) next in
      let joined : o ≡ front ++ (line ++ behind) = q ∙ ap₂ (λ (x y : List ℤ). x ++ y) first (ap₂ (λ (x y : List ℤ). x ++ y) e rest) in
      record { is = joined ∙ sym (append_assoc front line behind) ∙ ap (λ (l : List ℤ). l ++ behind) (sym (list_more b k)) }
