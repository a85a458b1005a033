-- A list against a line: the list, lines 0 ≤ 0 up to the most lines, and behind these the opposite of the line, which so has the number of the most lines
-- whatever the list is. Its solutions are those of the list that do not meet the line, and deciding works on it.
use Rattle.std.specs.Prelude.{◌≡◌, ◌↔◌, List, ◌++◌, ℕ, ◌+◌, ◌*◌, ◌-◌, ◌%◌, ◌<◌, ◌≤◌, ℤ, pos, length, replicate}
use Rattle.std.proofs.Common.{sym, ap, subst, ◌∙◌, arith, length-append, get_or-append-add}
use Rattle.std.proofs.Math.Decide.{dec_lt}
use Rattle.std.proofs.lemmas.List.{length-replicate, get_or-replicate}
use Rattle.std.proofs.Math.ListN.{get_or-eq_default}
use Rattle.lines.specs.declared.Line.{Line}
use Rattle.lines.specs.Limits.{line_size, max_variables, max_lines, max_constant, work_lines}
use Rattle.lines.specs.Line.{number, line_numbers_lem, line_at, line_count, lines_of, Assignment, Meets, Solves}
use Rattle.lines.specs.LineNumbers.{length_numbers, number_at, count_append, line_left, line_last}
use Rattle.lines.specs.Solutions.{tabulate_solves, solves_at}
use Rattle.lines.specs.Valid.{LineWorks, LinesOk, Workable, line_works, line_ok}
use Rattle.lines.specs.Zero.{zero_line, zero_number, zero_met, zero_valid, same_line}
use Rattle.opposite_line.specs.Opposite.{opposite, opposed, solves_opposed}

-- lines 0 ≤ 0 up to the most lines
abbrev pub padded : List ℤ → List ℤ
padded L = L ++ replicate (line_size * max_lines - length L) (pos 0)

abbrev pub against : List ℤ → Line → List ℤ
against L l = opposed (padded L) l

number_zeros : (g i : ℕ) → number (replicate g (pos 0)) i ≡ pos 0
number_zeros g i = go (dec_lt i g)
  where
    go : Dec (i < g) → number (replicate g (pos 0)) i ≡ pos 0
    go (yes h) = get_or-replicate g i (pos 0) (pos 0) h
    go (no h) = get_or-eq_default (replicate g (pos 0)) (pos 0) (omega (arith, length-replicate {A = ℤ} g (pos 0)))

-- where line k of a list of so many lines stands in it
pub data Where (count k : ℕ) : Type 0 where
  own : k < count → Where count k
  gap : count ≤ k → k < max_lines → Where count k
  last : k ≡ max_lines → Where count k

pub where_is : (count k : ℕ) → k < work_lines → Where count k
where_is count k h = go (dec_lt k count) (dec_lt k max_lines)
  where
    go : Dec (k < count) → Dec (k < max_lines) → Where count k
    go (yes l) _ = own l
    go (no l) (yes m) = gap (omega arith) m
    go (no l) (no m) = last (omega arith)

module _ (L : List ℤ) (whole : length L % line_size ≡ 0) (few : line_count L ≤ max_lines) where
  abbrev zeros : List ℤ
  zeros = replicate (line_size * max_lines - length L) (pos 0)

  padded_size : length (padded L) ≡ line_size * max_lines
  padded_size = length-append L zeros ∙ omega (arith, length-replicate {A = ℤ} (line_size * max_lines - length L) (pos 0), whole, few)

  padded_whole : length (padded L) % line_size ≡ 0
  padded_whole = omega (arith, padded_size)

  padded_count : line_count (padded L) ≡ max_lines
  padded_count = omega (arith, padded_size)

  -- ---- its lines
  own_padded : (k : ℕ) → k < line_count L → line_at (padded L) k ≡ line_at L k
  own_padded k h = line_left L zeros whole k h

  zero_padded : (k : ℕ) → line_count L ≤ k → k < max_lines → line_at (padded L) k ≡ zero_line
  zero_padded k low high = same_line (line_at (padded L) k) zero_line (λ i h. number_at (padded L) k (omega (arith, padded_count)) i h ∙ zero_there i ∙ sym (zero_number i h))
    where
      behind : (i : ℕ) → line_size * k + i ≡ length L + (line_size * k + i - length L)
      behind i = omega (arith, whole, low)

      zero_there : (i : ℕ) → number (padded L) (line_size * k + i) ≡ pos 0
      zero_there i =
          ap (number (padded L)) (behind i)
          ∙ get_or-append-add L zeros (line_size * k + i - length L) (pos 0)
          ∙ number_zeros (line_size * max_lines - length L) (line_size * k + i - length L)

  module _ (l : Line) where
    pub count_against : line_count (against L l) ≡ work_lines
    count_against = omega (arith, count_append (padded L) (line_numbers_lem (opposite l)) padded_whole, padded_count, length_numbers (opposite l))

    front_against : (k : ℕ) → k < max_lines → line_at (against L l) k ≡ line_at (padded L) k
    front_against k h = line_left (padded L) (line_numbers_lem (opposite l)) padded_whole k (omega (arith, padded_count))

    -- those of the list, 0 ≤ 0, and the opposite of the line
    pub own_line : (k : ℕ) → k < line_count L → line_at (against L l) k ≡ line_at L k
    own_line k h = front_against k (omega arith) ∙ own_padded k h

    pub zero_line_law : (k : ℕ) → line_count L ≤ k → k < max_lines → line_at (against L l) k ≡ zero_line
    zero_line_law k low high = front_against k high ∙ zero_padded k low high

    pub last_line : line_at (against L l) max_lines ≡ opposite l
    last_line = ap (line_at (against L l)) (sym padded_count) ∙ line_last (padded L) (opposite l) padded_whole

    -- ---- deciding works on it
    pub against_works : (n : ℕ) → n ≤ max_variables → LinesOk n L → LineWorks n (opposite l) → Workable n (against L l)
    against_works n m lines opposes =
        record {
          variables = m;
          whole = omega (arith, length-append (padded L) (line_numbers_lem (opposite l)), length_numbers (opposite l), padded_size);
          count = omega (arith, count_against);
          lines = λ k h. go k (where_is (line_count L) k (omega (arith, count_against)));
        }
      where
        go : (k : ℕ) → Where (line_count L) k → LineWorks n (line_at (against L l) k)
        go k (own h) = subst (LineWorks n) (sym (own_line k h)) (lines k h)
        go k (gap low high) = subst (LineWorks n) (sym (zero_line_law k low high)) (line_works max_constant n zero_line (omega arith) (line_ok n k zero_line (zero_valid n k)))
        go k (last e) = subst (LineWorks n) (sym (ap (line_at (against L l)) e ∙ last_line)) opposes

    -- ---- its solutions
    padded_solved : (s : Assignment) → Solves (lines_of (padded L)) s ↔ Solves (lines_of L) s
    padded_solved s = (
      (λ h. tabulate_solves (line_count L) (line_at L) s (λ k p. subst (Meets s) (own_padded k p) (solves_at (padded L) s h k (omega (arith, padded_count))))),
      (λ h. tabulate_solves (line_count (padded L)) (line_at (padded L)) s (λ k p. go h k (where_is (line_count L) k (omega (arith, padded_count))) (omega (arith, padded_count)))),
    )
      where
        go : Solves (lines_of L) s → (k : ℕ) → Where (line_count L) k → k < max_lines → Meets s (line_at (padded L) k)
        go h k (own p) m = subst (Meets s) (sym (own_padded k p)) (solves_at L s h k p)
        go h k (gap low high) m = subst (Meets s) (sym (zero_padded k low high)) (zero_met s)
        go h k (last e) m = absurd (omega arith)

    pub solves_against : (s : Assignment) → Solves (lines_of (against L l)) s ↔ (Solves (lines_of L) s × (Meets s l → ⊥))
    solves_against s =
        let o = solves_opposed (padded L) l padded_whole s in
        let p = padded_solved s in (
          (λ h. let q = o.0 h in (p.0 q.0, q.1)),
          (λ h. o.1 (p.1 h.0, h.1)),
        )
