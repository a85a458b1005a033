-- Bounds and groups of a list of differences, two numbers at a time; and whether two variables have the same value, by the two numbers in the table.
use Rattle.std.specs.Prelude.{◌≡◌, true, false, List, ℕ, ◌+◌, ◌*◌, ◌/◌, ◌%◌, ◌<◌, ℤ, pos, length, set}
use Rattle.std.proofs.Common.{sym, ap, ap₂, ◌∙◌, arith, eq-eqb, ne_eqb}
use Rattle.std.proofs.Math.Bool.{and_comm}
use Rattle.std.specs.Int.Signed.{le_z, lt_z}
use Rattle.integers.specs.Fill.{filled, filled_more}
use Rattle.lines.specs.Limits.{absent_least, absent_greatest}
use Rattle.theory_bounds.specs.Tight.{Table}
use Rattle.theory_bounds.specs.Answers.{group_at_lem, not_above0}
use Rattle.theory_differences.specs.Distances.{doubled}
use Rattle.theory_differences.specs.Doubled.{absent_at, plain_same, plain_group, doubled_group}
use Rattle.decide_rows.specs.Stored.{stored}
use Rattle.decide_bounds_groups.specs.Reading.{apart_first, second_decides}
use Rattle.decide_bounds_groups.specs.Grouping.{pair_filled}

-- ---- bounds
absent_least_law : (x : ℕ) → absent_at (2 * x) ≡ absent_least
absent_least_law x = let a : 2 * x % 2 ≡ 0 = omega arith in rw (eq-eqb _ _ a)

absent_greatest_law : (x : ℕ) → absent_at (2 * x + 1) ≡ absent_greatest
absent_greatest_law x = let a : (2 * x + 1) % 2 ≡ 0 → ⊥ = λ e. omega arith in rw (ne_eqb _ _ a)

pub absent_filled : (d : List ℤ) (x : ℕ) → 2 * x + 1 < length d
    → set (set (filled absent_at d (2 * x)) (2 * x) absent_least) (2 * x + 1) absent_greatest ≡ filled absent_at d (2 * (x + 1))
absent_filled d x h =
    let z : 2 * x + 1 + 1 ≡ 2 * (x + 1) = omega arith in
    ap (λ (l : List ℤ). set l (2 * x + 1) absent_greatest) (filled_more absent_at d (2 * x) absent_least (omega arith) (sym (absent_least_law x)))
    ∙ filled_more absent_at d (2 * x + 1) absent_greatest h (sym (absent_greatest_law x))
    ∙ ap (filled absent_at d) z

-- ---- groups
pub plain_filled : (D : Table) (d : List ℕ) (x r : ℕ) → 2 * x + 1 < length d → r ≡ plain_group D x
    → set (set (filled (group_at_lem (doubled D)) d (2 * x)) (2 * x) r) (2 * x + 1) 0 ≡ filled (group_at_lem (doubled D)) d (2 * (x + 1))
plain_filled D d x r h e =
    let a : r ≡ 2 * r / 2 = omega arith in
    let b : 0 ≡ 2 * r % 2 = omega arith in
    ap₂ (λ (i j : ℕ). set (set (filled (group_at_lem (doubled D)) d (2 * x)) (2 * x) i) (2 * x + 1) j) a b
    ∙ pair_filled (doubled D) d x (2 * r) h (ap (λ (i : ℕ). 2 * i) e ∙ sym (doubled_group D x))

-- ---- the same value: the distance from r to x is read first
module _ (D : Table) (x r : ℕ) where
  pub apart : lt_z (pos 0) (stored (D r x)) ≡ true → false ≡ plain_same D x r
  apart h = apart_first (D r x) (D x r) h ∙ and_comm (not_above0 (D r x)) (not_above0 (D x r))

  pub decided : lt_z (pos 0) (stored (D r x)) ≡ false → le_z (stored (D x r)) (pos 0) ≡ plain_same D x r
  decided h = second_decides (D r x) (D x r) h ∙ and_comm (not_above0 (D r x)) (not_above0 (D x r))
