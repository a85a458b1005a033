-- When the step of a line makes a value: a test over a row as its numbers stand in the work area.
use Rattle.std.specs.Prelude.{◌≡◌, Bool, true, false, List, ℕ, ◌+◌, ◌<◌, ℤ, length}
use Rattle.std.proofs.Common.{sym, ◌∙◌, below_more}
use Rattle.integers.specs.Integer.{Within}
use Rattle.integers.specs.Laws.{never}
use Rattle.lines.specs.Line.{number, line_at, line_count}
use Rattle.steps.specs.declared.Step.{Step}
use Rattle.steps.specs.Step.{max_weight}
use Rattle.theory_differences.specs.Plain.{plain_step_lem}
use Rattle.decide_rows.specs.Read.{max_distance}
use Rattle.decide_walkback.specs.Makes.{step_makes_lem}
use Rattle.differences_lines.specs.PlainList.{PlainList, ends_within, weights_within, step_among}

abbrev pub makes_at : List ℤ → List ℤ → ℕ → ℤ → ℕ → Bool
makes_at L old v z k = step_makes_lem old v z (plain_step_lem (line_at L k))

-- the old row: a number for each variable, and small
pub record OldRow (L old : List ℤ) : Type 0 where
  pub plain : PlainList (length old) L
  pub small : (p : ℕ) → p < length old → Within max_distance (number old p)

pub record IsMade (L old : List ℤ) (v : ℕ) (z : ℤ) (k : ℕ) : Type 0 where
  pub inside : k < line_count L
  pub makes : makes_at L old v z k ≡ true

-- there is such a line
pub record FindReady (L old : List ℤ) (v : ℕ) (z : ℤ) : Type 0 where
  pub row : OldRow L old
  pub line : ℕ
  pub is : IsMade L old v z line

-- the step of a line fits the row
module _ {L old : List ℤ} (r : OldRow L old) (k : ℕ) (h : k < line_count L) (t : Step) (e : t ≡ plain_step_lem (line_at L k)) where
  pub from_inside : t.from < length old
  from_inside = rw e (ends_within r.plain _ (step_among r.plain k h)).0

  pub weight_small : Within max_weight t.weight
  weight_small = rw e (weights_within r.plain _ (step_among r.plain k h))

-- ---- the search: no line before k makes it
abbrev pub NoneBefore : List ℤ → List ℤ → ℕ → ℤ → ℕ → Type 0
NoneBefore L old v z k = (i : ℕ) → i < k → makes_at L old v z i ≡ true → ⊥

pub none_more : (L old : List ℤ) (v : ℕ) (z : ℤ) (k : ℕ) (r : Bool) → NoneBefore L old v z k → r ≡ makes_at L old v z k → r ≡ false → NoneBefore L old v z (k + 1)
none_more L old v z k r none is left = below_more (λ (i : ℕ). makes_at L old v z i ≡ true → ⊥) k none (λ f. let clash : true ≡ false = sym f ∙ sym is ∙ left in never (cc))
