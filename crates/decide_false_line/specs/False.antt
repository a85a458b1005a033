-- The first false line of a list: the laws by which a loop goes one line further, and what the number found says.
use Rattle.std.specs.Prelude.{◌≡◌, Bool, true, false, ◌||◌, List, [], ◌∷◌, ℕ, suc, ◌+◌, ◌<◌, ◌≤◌, ℤ, length, drop}
use Rattle.std.proofs.Common.{sym, ◌∙◌, add-one, arith}
use Rattle.std.proofs.Math.Path.{ap}
use Rattle.integers.specs.Laws.{never}
use Rattle.integers.specs.Sequence.{length_tabulate}
use Rattle.lines.specs.declared.Line.{Line}
use Rattle.lines.specs.Line.{line_at, line_count, lines_of, is_false_lem}
use Rattle.lines.specs.Laws.{lines_from, lines_past}
use Rattle.theory_walks.specs.Graph.{at_line}
use Rattle.theory_bounds.specs.Verdict.{has_false, first_false_lem, lowest_false}

-- ---- one line further
-- line k is found, or what is found after it
abbrev pub found_by : ℕ → ℕ → Bool → ℕ
found_by k later t = elim t [ true ↦ k | false ↦ later ]

module _ (L : List ℤ) where
  pub false_from : (k : ℕ) → k < line_count L → first_false_lem k (drop k (lines_of L)) ≡ found_by k (first_false_lem (k + 1) (drop (k + 1) (lines_of L))) (is_false_lem (line_at L k))
  unfolding first_false_lem
  false_from k h =
      ap (first_false_lem k) (lines_from L k h)
      ∙ ap (λ (i : ℕ). found_by k (first_false_lem i (drop (k + 1) (lines_of L))) (is_false_lem (line_at L k))) (sym (add-one k))

  pub false_past : (k : ℕ) → line_count L ≤ k → first_false_lem k (drop k (lines_of L)) ≡ k
  unfolding first_false_lem
  false_past k h = ap (first_false_lem k) (lines_past L k h)

-- ---- the number found
-- without a false line every line is passed
all_passed : (ls : List Line) (i : ℕ) → has_false ls ≡ false → first_false_lem i ls ≡ i + length ls
unfolding has_false first_false_lem
all_passed [] i e = omega arith
all_passed (l ∷ ls) i e = go (is_false_lem l) e (all_passed ls (suc i))
  where
    go : (b : Bool) → (b || has_false ls) ≡ false → (has_false ls ≡ false → first_false_lem (suc i) ls ≡ suc i + length ls)
        → (elim b [ true ↦ i | false ↦ first_false_lem (suc i) ls ]) ≡ i + suc (length ls)
    go true r later = never (cc)
    go false r later = omega (arith, later r)

module _ (L : List ℤ) where
  -- a false line is found where there is one, and else the number of lines
  pub false_found : has_false (lines_of L) ≡ true → first_false_lem 0 (lines_of L) < line_count L
  false_found e = let r = lowest_false (lines_of L) e in (at_line L (first_false_lem 0 (lines_of L)) r.line r.at).0

  pub false_none : has_false (lines_of L) ≡ false → first_false_lem 0 (lines_of L) ≡ line_count L
  false_none e = omega (arith, all_passed (lines_of L) 0 e, length_tabulate (line_count L) (line_at L))
