-- A refusal's place is small: it is below any bound that passes the number of lines.
use Rattle.std.specs.Prelude.{◌≡◌, refl, Bool, not, ℕ, ◌+◌, ◌%◌, ◌<◌, ◌≤◌, eqb, ℤ, pos, length, Err, Ok, Result}
use Rattle.std.proofs.Math.Bool.{true, false}
use mathlib.Core.List.{List, [], ◌∷◌}
use Rattle.std.proofs.Common.{arith}
use borrow.Author.Tests.{ltb-false}
use Rattle.std.proofs.Math.Dec.{ltb}
use Rattle.integers.specs.Sequence.{length_tabulate}
use Rattle.lines.specs.declared.Line.{Line}
use Rattle.lines.specs.declared.Refusal.{Refusal}
use Rattle.lines.specs.declared.Refusal.TheVariants.{TooManyVariables, BrokenLength, TooManyLines}
use Rattle.lines.specs.Limits.{line_size, max_variables, max_lines, max_constant}
use Rattle.lines.specs.Line.{line_at, line_count, lines_of}
use Rattle.lines.specs.Refusal.{place_of, ◌or_else◌, refuse_if, Rule, rules_within, first_broken, line_validity_lem, lines_validity_lem, validity_of}

pub data Placed (m : ℕ) : Result Unit Refusal → Type 0 where
  valid : Placed m (Ok tt)
  refused : {r : Refusal} → place_of r < m → Placed m (Err r)

pub placed_or : (m : ℕ) (u v : Result Unit Refusal) → Placed m u → Placed m v → Placed m (u or_else v)
placed_or m (Ok _) v p q = q
placed_or m (Err r) v p q = p

pub placed_if : (m : ℕ) (t : Bool) (r : Refusal) → place_of r < m → Placed m (refuse_if t r)
placed_if m true r h = refused h
placed_if m false r h = valid

pub place_at : {m : ℕ} {r : Refusal} → Placed m (Err r) → place_of r < m
place_at (refused h) = h

-- every line rule's place is the line
AtLine : List Rule → Type 0
AtLine [] = Unit {0}
AtLine (r ∷ rs) = ((k : ℕ) → place_of (r.refusal k) ≡ k) × AtLine rs

rules_at_line : (most : ℤ) → AtLine (rules_within most)
unfolding AtLine
rules_at_line most = search

module _ (m n : ℕ) where
  placed_broken : (rs : List Rule) → AtLine rs → (k : ℕ) (l : Line) → k < m → Placed m (first_broken rs n k l)
  unfolding AtLine
  placed_broken [] a k l h = valid
  placed_broken (r ∷ rs) a k l h =
      placed_or m (refuse_if (not (r.ok n l)) (r.refusal k)) (first_broken rs n k l) (placed_if m (not (r.ok n l)) (r.refusal k) (rw (a.0 k) h)) (placed_broken rs a.1 k l h)

  -- whatever the limit of d is
  pub placed_line : (most : ℤ) (k : ℕ) (l : Line) → k < m → Placed m (first_broken (rules_within most) n k l)
  placed_line most = placed_broken (rules_within most) (rules_at_line most)

  placed_lines : (k : ℕ) (ls : List Line) → k + length ls ≤ m → Placed m (lines_validity_lem n k ls)
  unfolding lines_validity_lem
  placed_lines k [] h = valid
  placed_lines k (l ∷ ls) h = placed_or m (line_validity_lem n k l) _ (placed_line (pos max_constant) k l (omega arith)) (placed_lines (k + 1) ls (omega arith))

  pub placed_list : (L : List ℤ) → max_lines < m → Placed m (validity_of n L)
  unfolding validity_of
  placed_list L h =
      placed_or m _ _ (placed_if m (ltb max_variables n) TooManyVariables (omega arith))
      (placed_or m _ _ (placed_if m (not (eqb (length L % line_size) 0)) BrokenLength (omega arith)) (go (ltb max_lines (line_count L)) refl))
    where
      go : (t : Bool) → ltb max_lines (line_count L) ≡ t → Placed m (refuse_if t TooManyLines or_else lines_validity_lem n 0 (lines_of L))
      go true e = refused {r = TooManyLines} (omega arith)
      go false e = placed_lines 0 (lines_of L) (omega (arith, ltb-false max_lines (line_count L) e, length_tabulate (line_count L) (line_at L)))
