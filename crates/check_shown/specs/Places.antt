-- The place of a refusal is small, and so is that of an answer: below any bound that passes the limits of lines and of a refutation.
use Rattle.lines.specs.declared.Refusal.{Refusal}
use Rattle.std.specs.Prelude.{◌≡◌, refl, List, ℕ, ◌+◌, ◌<◌, ltb, ℤ, pos, length, Err, Ok, Result}
use Rattle.std.proofs.Common.{arith}
use Rattle.lines.specs.declared.Line.{Line}
use Rattle.lines.specs.declared.Refusal.TheVariants.{LongRefutation}
use Rattle.lines.specs.Limits.{max_lines, max_refutation, shown_constant_lem}
use Rattle.lines.specs.Line.{line_count}
use Rattle.lines.specs.Refusal.{◌or_else◌, shown_validity_lem, validity_of}
use Rattle.lines.specs.Valid.{valid_list}
use Rattle.lines.specs.Places.{Placed, placed_or, placed_if, placed_line, placed_list}
use Rattle.check_answers.specs.Answer.{Below, below_unless}
use Rattle.check_refutation.specs.Progress.{start, run}
use Rattle.check_refutation.specs.Small.{run_read, run_wrong}
use Rattle.check_refutation.specs.Places.{verdict_below}
use Rattle.shown_list.specs.Against.{against}
use Rattle.check_shown.specs.Answer.{showing_validity_lem, shown_answer}
use Rattle.check_shown.specs.Asked.{asked}

-- the line's place is the number of lines, which is small where the list is valid
pub placed_shown : (m : ℕ) → max_lines < m → (n : ℕ) (L : List ℤ) (l : Line) (v : Result Unit Refusal) → Placed m v → Placed m (validity_of n L or_else shown_validity_lem n (line_count L) l or_else v)
placed_shown m few n L l v p = go (validity_of n L) refl (placed_list m n L few)
  where
    go : (u : Result Unit Refusal) → validity_of n L ≡ u → Placed m u → Placed m (u or_else shown_validity_lem n (line_count L) l or_else v)
    go (Ok _) e q = placed_or m (shown_validity_lem n (line_count L) l) v (placed_line m n (pos (shown_constant_lem n)) (line_count L) l (omega (arith, (valid_list n L e).count))) p
    go (Err r) e q = q

pub answer_below : (m : ℕ) → max_lines < m → max_refutation + 2 < m → (n : ℕ) (L : List ℤ) (l : Line) (R : List ℕ) → Below m (shown_answer n L l R)
unfolding shown_answer showing_validity_lem
answer_below m few short n L l R =
    below_unless m _ _ (placed_shown m few n L l _ (placed_if m (ltb max_refutation (length R)) LongRefutation (omega arith)))
    (λ e. verdict_below m (run A start R) (run_wrong A start R (omega arith)) (omega (arith, run_read A start R, (asked n L l (length R) e).short)))
  where
    A : List ℤ
    A = against L l
