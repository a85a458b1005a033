-- The numbers of a line and the line of numbers are inverse, for one line and for all lines of a list; and the lines of a longer list.
--
-- Only the first three laws look into `line_numbers_lem` and `line_of`. A line's numbers are as many as `line_size` says, the line of its own numbers is the line,
-- and the numbers of the line with which a list begins are the list's first: all others follow from these.
use Rattle.std.specs.Prelude.{◌≡◌, refl, ℕ, zero, suc, ◌+◌, ◌*◌, ◌/◌, ◌%◌, ◌<◌, ◌≤◌, ℤ, pos, take}
use Rattle.std.proofs.Common.{sym, ap₂, ◌∙◌, length-append, length-drop, take-append-drop, get_or-take, get_or-drop, drop-drop}
use Rattle.std.proofs.Math.Path.{ap}
use mathlib.Core.List.{List, [], ◌∷◌, ◌++◌, append_assoc, append-nil}
use native.Mathlib.Omega.{arith}
use Rattle.std.proofs.Math.ListN.{length, drop}
use Rattle.std.proofs.lemmas.List.{drop-append-le}
use Rattle.std.proofs.Math.Seq.{drop-append-add}
use Rattle.integers.specs.Sequence.{tabulate, tabulate_add, tabulate_cong, tabulate_get_d}
use Rattle.lines.specs.declared.Line.{Line}
use Rattle.lines.specs.Limits.{line_size}
use Rattle.lines.specs.Line.{number, line_numbers_lem, line_of, line_at, line_count, lines_of, numbers_of}

-- ---- one line
pub length_numbers : (l : Line) → length (line_numbers_lem l) ≡ line_size
unfolding line_numbers_lem
length_numbers l = refl

-- whatever comes behind them
pub line_of_numbers : (l : Line) (r : List ℤ) → line_of (line_numbers_lem l ++ r) ≡ l
unfolding line_numbers_lem
line_of_numbers l r = refl

pub numbers_of_line : (L : List ℤ) → line_size ≤ length L → line_numbers_lem (line_of L) ≡ take line_size L
unfolding line_numbers_lem
numbers_of_line L h = tabulate_get_d line_size L (pos 0) h

-- a line is no more than its numbers
pub line_of_front : (L M : List ℤ) → line_size ≤ length L → line_of (L ++ M) ≡ line_of L
line_of_front L M h =
    let rest = drop line_size L ++ M in
    let e : L ++ M ≡ line_numbers_lem (line_of L) ++ rest =
    ap (λ (N : List ℤ). N ++ M) (sym (take-append-drop line_size L))
    ∙ append_assoc (take line_size L) (drop line_size L) M
    ∙ ap (λ (N : List ℤ). N ++ rest) (sym (numbers_of_line L h)) in
    ap line_of e ∙ line_of_numbers (line_of L) rest

-- ---- line number k of a list
module _ (L : List ℤ) (k : ℕ) where
  module _ (h : k < line_count L) where
    pub whole_line : line_size ≤ length (drop (line_size * k) L)
    whole_line = omega (arith, length-drop (line_size * k) L)

    pub numbers_at : line_numbers_lem (line_at L k) ≡ take line_size (drop (line_size * k) L)
    unfolding line_at
    numbers_at = numbers_of_line (drop (line_size * k) L) whole_line

    pub number_at : (i : ℕ) → i < line_size → number (line_numbers_lem (line_at L k)) i ≡ number L (line_size * k + i)
    number_at i l =
        ap (λ (N : List ℤ). number N i) numbers_at ∙ get_or-take line_size (drop (line_size * k) L) i (pos 0) l ∙ get_or-drop (line_size * k) L i (pos 0)

-- ---- a list that begins with all lines of another
module _ (L M : List ℤ) (whole : length L % line_size ≡ 0) where
  pub count_append : line_count (L ++ M) ≡ line_count L + line_count M
  count_append = ap (λ (n : ℕ). n / line_size) (length-append L M) ∙ split (length L) (length M) whole
    where
      split : (m n : ℕ) → m % line_size ≡ 0 → (m + n) / line_size ≡ m / line_size + n / line_size
      split m n h = omega arith

  pub line_left : (k : ℕ) → k < line_count L → line_at (L ++ M) k ≡ line_at L k
  unfolding line_at
  line_left k h =
      ap line_of (drop-append-le (line_size * k) L M (omega arith)) ∙ line_of_front (drop (line_size * k) L) M (whole_line L k h)

  line_right : (k : ℕ) → line_at (L ++ M) (line_count L + k) ≡ line_at M k
  unfolding line_at
  line_right k =
      let e : line_size * (line_count L + k) ≡ length L + line_size * k = omega arith in
      ap line_of (ap (λ (i : ℕ). drop i (L ++ M)) e ∙ drop-append-add L M (line_size * k))

  pub lines_append : lines_of (L ++ M) ≡ lines_of L ++ lines_of M
  lines_append =
      ap (λ (n : ℕ). tabulate n (line_at (L ++ M))) count_append
      ∙ tabulate_add (line_count L) (line_count M) (line_at (L ++ M))
      ∙ ap₂ (λ (x y : List Line). x ++ y) (tabulate_cong (line_count L) _ _ line_left) (tabulate_cong (line_count M) _ _ (λ k h. line_right k))

-- ---- all lines of a list
pub length_numbers_of : (ls : List Line) → length (numbers_of ls) ≡ line_size * length ls
unfolding numbers_of
length_numbers_of [] = refl
length_numbers_of (l ∷ ls) = length-append (line_numbers_lem l) (numbers_of ls) ∙ omega (arith, length_numbers l, length_numbers_of ls)

-- the lines of one line's numbers
one_line : (l : Line) → lines_of (line_numbers_lem l) ≡ l ∷ []
unfolding line_at
one_line l =
    let one : line_count (line_numbers_lem l) ≡ 1 = omega (arith, length_numbers l) in
    ap (λ (n : ℕ). tabulate n (line_at (line_numbers_lem l))) one ∙ ap (λ (m : Line). m ∷ []) (ap line_of (sym (append-nil (line_numbers_lem l))) ∙ line_of_numbers l [])

-- a list with a line more
module _ (L : List ℤ) (l : Line) (whole : length L % line_size ≡ 0) where
  pub line_last : line_at (L ++ line_numbers_lem l) (line_count L) ≡ l
  unfolding line_at
  line_last =
      let last : line_count L + 0 ≡ line_count L = omega arith in
      ap (line_at (L ++ line_numbers_lem l)) (sym last)
      ∙ line_right L (line_numbers_lem l) whole 0
      ∙ ap line_of (sym (append-nil (line_numbers_lem l)))
      ∙ line_of_numbers l []

  pub lines_snoc : lines_of (L ++ line_numbers_lem l) ≡ lines_of L ++ l ∷ []
  lines_snoc = lines_append L (line_numbers_lem l) whole ∙ ap (λ (ls : List Line). lines_of L ++ ls) (one_line l)

pub lines_of_numbers : (ls : List Line) → lines_of (numbers_of ls) ≡ ls
unfolding numbers_of
lines_of_numbers [] = refl
lines_of_numbers (l ∷ ls) =
    lines_append (line_numbers_lem l) (numbers_of ls) (omega (arith, length_numbers l))
    ∙ ap₂ (λ (x y : List Line). x ++ y) (one_line l) (lines_of_numbers ls)

-- ---- the numbers of all lines of a list
pub numbers_append : (ls ms : List Line) → numbers_of (ls ++ ms) ≡ numbers_of ls ++ numbers_of ms
unfolding numbers_of
numbers_append [] ms = refl
numbers_append (l ∷ ls) ms = ap (λ (r : List ℤ). line_numbers_lem l ++ r) (numbers_append ls ms) ∙ sym (append_assoc (line_numbers_lem l) (numbers_of ls) (numbers_of ms))

-- of as many numbers as m lines have
numbers_of_all : (m : ℕ) (L : List ℤ) → length L ≡ line_size * m → numbers_of (tabulate m (line_at L)) ≡ L
unfolding numbers_of line_at
numbers_of_all zero [] e = refl
numbers_of_all zero (z ∷ L) e = absurd (omega arith)
numbers_of_all (suc m) L e =
    let rest = drop line_size L in
    ap₂ (λ (x y : List ℤ). x ++ y) (numbers_at L 0 (omega arith))
    (ap numbers_of (tabulate_cong m _ _ (λ k h. later k)) ∙ numbers_of_all m rest (omega (arith, length-drop line_size L)))
    ∙ take-append-drop line_size L
  where
    later : (k : ℕ) → line_at L (suc k) ≡ line_at (drop line_size L) k
    later k =
        let z : line_size * suc k ≡ line_size + line_size * k = omega arith in
        ap line_of (ap (λ (i : ℕ). drop i L) z ∙ sym (drop-drop (line_size * k) line_size L))

pub numbers_of_lines : (L : List ℤ) → line_size * line_count L ≡ length L → numbers_of (lines_of L) ≡ L
numbers_of_lines L whole = numbers_of_all (line_count L) L (omega arith)
