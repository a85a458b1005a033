-- Numbers that are written to the front of a list or from a place on, and a list that was written so.
use Rattle.std.specs.Prelude.{◌≡◌, List, [], ◌++◌, ℕ, ◌+◌, ◌*◌, ◌-◌, ◌≤◌, ℤ, pos, length, take, drop}
use Rattle.std.proofs.Common.{sym, ap, ◌∙◌, append_assoc, append-nil, arith, drop_of_length-le, length-append, length-drop, drop-drop, drop_at, length-take-le, take_all, take_at}
use Rattle.std.proofs.Math.Seq.{take-length}
use Rattle.integers.specs.Sequence.{tabulate_get_d}
use Rattle.integers.specs.Fill.{filled}
use Rattle.lines.specs.Limits.{line_size, max_lines}
use Rattle.lines.specs.Line.{number}

-- how many numbers the most lines and one more have
abbrev pub most_numbers : ℕ
most_numbers = line_size * max_lines + line_size

-- ys, a line's numbers, from a place on
abbrev pub put_at : ℕ → List ℤ → List ℤ → List ℤ
put_at at ys s = take at s ++ (ys ++ drop line_size (drop at s))

-- ---- a list that was filled with all of another
pub filled_all : (zs d : List ℤ) (i : ℕ) → i ≡ length zs → filled (number zs) d i ≡ zs ++ drop (length zs) d
filled_all zs d i e =
    ap (filled (number zs) d) e
    ∙ ap (λ (l : List ℤ). l ++ drop (length zs) d) (tabulate_get_d (length zs) zs (pos 0) (omega arith) ∙ take-length zs)

-- ---- a line's numbers, written to the part of a list from a place on, which is then put back
module _ (s ys p : List ℤ) (at : ℕ) where
  part_all : take (length s - at) (drop at s) ≡ drop at s
  part_all = take_all (length s - at) (drop at s) (omega (arith, length-drop at s))

  pub part_long : at + line_size ≤ length s → line_size ≤ length (take (length s - at) (drop at s))
  part_long h = rw part_all (omega (arith, length-drop at s))

  pub put_back : p ≡ ys ++ drop line_size (take (length s - at) (drop at s)) → take at s ++ (p ++ drop (length s - at) (drop at s)) ≡ put_at at ys s
  put_back e =
      let end : length (drop at s) ≤ length s - at = omega (arith, length-drop at s) in
      let none : drop (length s - at) (drop at s) ≡ [] = drop_of_length-le (drop at s) end in
      ap (λ (x : List ℤ). take at s ++ x)
      (ap (λ (x : List ℤ). p ++ x) none ∙ append-nil p ∙ e ∙ ap (λ (x : List ℤ). ys ++ drop line_size x) part_all)

  -- the list is as long as before
  pub put_length : at + line_size ≤ length s → length ys ≡ line_size → length (put_at at ys s) ≡ length s
  put_length h e =
      length-append (take at s) (ys ++ drop line_size (drop at s))
      ∙ omega (arith, length-take-le at s (omega arith), length-append ys (drop line_size (drop at s)), length-drop line_size (drop at s), length-drop at s)

-- ---- ys, a line's numbers, put behind the numbers xs with which a list begins
pub put_behind : (xs ys d : List ℤ) (at : ℕ) → length xs ≡ at → length ys ≡ line_size → put_at at ys (xs ++ drop at d) ≡ (xs ++ ys) ++ drop (length (xs ++ ys)) d
put_behind xs ys d at h e =
    let end : at + line_size ≡ length (xs ++ ys) = omega (arith, length-append xs ys) in
    rw (take_at xs (drop at d) at h, drop_at xs (drop at d) at h)
    (ap (λ (x : List ℤ). xs ++ (ys ++ x)) (drop-drop line_size at d ∙ ap (λ (k : ℕ). drop k d) end) ∙ sym (append_assoc xs ys (drop (length (xs ++ ys)) d)))

-- ---- a list that begins with the numbers xs, up to their end
pub front_is : (list xs d : List ℤ) (end : ℕ) → list ≡ xs ++ d → length xs ≡ end → take end list ≡ xs
front_is list xs d end e h = ap (take end) e ∙ take_at xs d end h
