-- The first line that is no difference: the place of refusal 60. Where there is none, all lines are differences.
use Rattle.std.specs.Prelude.{◌≡◌, Bool, List, ℕ, ◌<◌, ◌≤◌, ℤ}
use Rattle.std.proofs.Math.Path.{refl}
use Rattle.std.proofs.Math.Bool.{true, false, not}
use Rattle.std.proofs.Common.{arith}
use Rattle.integers.specs.Lowest.{first_failing_lem, IsFirstFailing, none_fails, first_failing, lowest_at_most}
use Rattle.lines.specs.Line.{line_at, line_count}
use Rattle.theory_differences.specs.Plain.{is_difference_lem, all_differences}

abbrev pub difference_at : List ℤ → ℕ → Bool
difference_at L k = is_difference_lem (line_at L k)

-- the number of the first line that is no difference, or the number of lines
unfoldable pub first_other_lem : List ℤ → ℕ
first_other_lem L = first_failing_lem (line_count L) (difference_at L)

module _ (L : List ℤ) where
  pub other_at_most : first_other_lem L ≤ line_count L
  unfolding first_other_lem
  other_at_most = lowest_at_most (λ k. not (difference_at L k)) (line_count L)

  pub none_other : line_count L ≤ first_other_lem L → all_differences L ≡ true
  unfolding first_other_lem all_differences
  none_other h = go (all_differences L) refl
    where
      go : (t : Bool) → all_differences L ≡ t → t ≡ true
      go true e = refl
      go false e = absurd (omega (arith, (first_failing (line_count L) (difference_at L) e).below))

  pub an_other : first_other_lem L < line_count L → all_differences L ≡ false
  unfolding first_other_lem all_differences
  an_other h = go (all_differences L) refl
    where
      go : (t : Bool) → all_differences L ≡ t → t ≡ false
      go true e = absurd (omega (arith, (none_fails (line_count L) (difference_at L)).1 e))
      go false e = refl

  -- it is one, and none before it is
  pub other_first : all_differences L ≡ false → IsFirstFailing (line_count L) (difference_at L) (first_other_lem L)
  unfolding first_other_lem all_differences
  other_first e = first_failing (line_count L) (difference_at L) e
