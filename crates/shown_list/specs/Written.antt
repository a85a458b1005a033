-- A list against a line is written where zeros stood: the list in front, and the opposite of the line at its place.
use Rattle.std.specs.Prelude.{◌≡◌, List, ◌++◌, ℕ, ◌+◌, ◌*◌, ◌-◌, ◌≤◌, ℤ, pos, length, drop, replicate}
use Rattle.std.proofs.Common.{sym, ap, ◌∙◌, append_assoc, append-nil, arith, length-append, drop_of_length-le, drop_at}
use Rattle.std.proofs.lemmas.List.{length-replicate, replicate-append-replicate}
use Rattle.integers.specs.Integer.{Within}
use Rattle.lines.specs.declared.Line.{Line}
use Rattle.lines.specs.Limits.{line_size, max_variables, max_lines, shown_constant_lem}
use Rattle.lines.specs.Line.{line_numbers_lem}
use Rattle.lines.specs.LineNumbers.{length_numbers}
use Rattle.longer_list.specs.Written.{most_numbers, put_at, put_behind}
use Rattle.opposite_line.specs.Opposite.{opposite}
use Rattle.shown_list.specs.Against.{padded, against}

-- there are zeros, and the opposite line's numbers fit
pub record AgainstReady (L : List ℤ) (l : Line) (out : List ℤ) : Type 0 where
  pub short : length L ≤ line_size * max_lines
  pub small : Within 1 l.a × Within 1 l.b × Within (shown_constant_lem max_variables) l.d
  pub zeros : out ≡ replicate most_numbers (pos 0)

abbrev zeros : List ℤ
zeros = replicate most_numbers (pos 0)

-- zeros from a place on
drop_zeros : (k m : ℕ) → drop k (replicate (k + m) (pos 0)) ≡ replicate m (pos 0)
drop_zeros k m =
    ap (drop k) (sym (replicate-append-replicate {A = ℤ} k m (pos 0))) ∙ drop_at (replicate k (pos 0)) (replicate m (pos 0)) k (length-replicate {A = ℤ} k (pos 0))

module _ (L : List ℤ) (short : length L ≤ line_size * max_lines) where
  abbrev rest : ℕ
  rest = line_size * max_lines - length L

  padded_length : length (padded L) ≡ line_size * max_lines
  padded_length = length-append L (replicate rest (pos 0)) ∙ omega (arith, length-replicate {A = ℤ} rest (pos 0))

  -- the list in front
  pub copied_padded : L ++ drop (length L) zeros ≡ padded L ++ drop (line_size * max_lines) zeros
  copied_padded =
      ap (λ (k : ℕ). L ++ drop (length L) (replicate k (pos 0))) long
      ∙ ap (λ (z : List ℤ). L ++ z) (drop_zeros (length L) (rest + line_size) ∙ sym (replicate-append-replicate {A = ℤ} rest line_size (pos 0)))
      ∙ sym (append_assoc L (replicate rest (pos 0)) (replicate line_size (pos 0)))
      ∙ ap (λ (z : List ℤ). padded L ++ z) (sym (drop_zeros (line_size * max_lines) line_size))
    where
      long : most_numbers ≡ length L + (rest + line_size)
      long = omega arith

  -- the opposite line at its place
  pub written_against : (l : Line) → put_at (line_size * max_lines) (line_numbers_lem (opposite l)) (L ++ drop (length L) zeros) ≡ against L l
  written_against l =
      let numbers = line_numbers_lem (opposite l) in
      ap (put_at (line_size * max_lines) numbers) copied_padded
      ∙ put_behind (padded L) numbers zeros (line_size * max_lines) padded_length (length_numbers (opposite l))
      ∙ ap (λ (z : List ℤ). (padded L ++ numbers) ++ z) (drop_of_length-le zeros end)
      ∙ append-nil (padded L ++ numbers)
    where
      end : length zeros ≤ length (padded L ++ line_numbers_lem (opposite l))
      end = omega (arith, length-replicate {A = ℤ} most_numbers (pos 0), length-append (padded L) (line_numbers_lem (opposite l)), padded_length, length_numbers (opposite l))
