-- The rules of a line one after the other, and the lines from a number on: what a search finds among them, and the laws by which it goes one further.
use Rattle.lines.specs.declared.Refusal.{Refusal}
use Rattle.std.specs.Prelude.{◌≡◌, refl, not, List, [], ◌∷◌, ℕ, ◌+◌, ◌<◌, ◌≤◌, ℤ, length, drop, Err, Ok, Result}
use Rattle.std.proofs.Math.Path.{ap}
use Rattle.std.proofs.Common.{arith, drop_of_length-le}
use Rattle.integers.specs.Sequence.{length_tabulate, drop_tabulate}
use Rattle.lines.specs.declared.Line.{Line}
use Rattle.lines.specs.Line.{line_at, line_count, lines_of}
use Rattle.lines.specs.Refusal.{◌or_else◌, refuse_if, Rule, first_broken, line_validity_lem, lines_validity_lem}

-- the same from what was found before, rule by rule
abbrev pub found_from : Result Unit Refusal → List Rule → ℕ → ℕ → Line → Result Unit Refusal
found_from v [] n k l = v
found_from v (r ∷ rs) n k l = found_from (v or_else refuse_if (not (r.ok n l)) (r.refusal k)) rs n k l

pub found_from_law : (v : Result Unit Refusal) (rs : List Rule) (n k : ℕ) (l : Line) → found_from v rs n k l ≡ (v or_else first_broken rs n k l)
found_from_law (Ok _) [] n k l = refl
found_from_law (Err q) [] n k l = refl
found_from_law (Ok _) (r ∷ rs) n k l = found_from_law (refuse_if (not (r.ok n l)) (r.refusal k)) rs n k l
found_from_law (Err q) (r ∷ rs) n k l = found_from_law (Err q) rs n k l

module _ (L : List ℤ) where
  -- the lines from number k on: line k and those after it, or none
  pub lines_from : (k : ℕ) → k < line_count L → drop k (lines_of L) ≡ line_at L k ∷ drop (k + 1) (lines_of L)
  lines_from k h = drop_tabulate (line_count L) k (line_at L) h

  pub lines_past : (k : ℕ) → line_count L ≤ k → drop k (lines_of L) ≡ []
  lines_past k h =
      let e : length (lines_of L) ≤ k = omega (arith, length_tabulate (line_count L) (line_at L)) in
      drop_of_length-le (lines_of L) e

  pub validity_from : (n k : ℕ) → k < line_count L → lines_validity_lem n k (drop k (lines_of L)) ≡ (line_validity_lem n k (line_at L k) or_else lines_validity_lem n (k + 1) (drop (k + 1) (lines_of L)))
  unfolding lines_validity_lem
  validity_from n k h = ap (lines_validity_lem n k) (lines_from k h)

  pub validity_past : (n k : ℕ) → line_count L ≤ k → lines_validity_lem n k (drop k (lines_of L)) ≡ Ok tt
  unfolding lines_validity_lem
  validity_past n k h = ap (lines_validity_lem n k) (lines_past k h)
