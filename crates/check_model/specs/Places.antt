-- The places and line numbers of an answer are small: below any bound that passes the limits of lines and variables.
use Rattle.lines.specs.declared.Refusal.{Refusal}
use Rattle.std.specs.Prelude.{◌≡◌, Bool, not, cond, ℕ, ◌+◌, ◌<◌, ◌≤◌, eqb, ℤ, length, Err, Ok, Result}
use Rattle.std.proofs.Math.Path.{refl}
use Rattle.std.proofs.Math.Bool.{true, false}
use mathlib.Core.List.{List, [], ◌∷◌}
use native.Mathlib.Omega.{arith}
use Rattle.std.proofs.Common.{eqb-true}
use Rattle.integers.specs.Integer.{is_within_lem}
use Rattle.integers.specs.Sequence.{length_tabulate}
use Rattle.lines.specs.declared.Line.{Line}
use Rattle.lines.specs.declared.Refusal.TheVariants.{WrongModelLength, BadValue}
use Rattle.lines.specs.Limits.{max_variables, max_lines, max_value}
use Rattle.lines.specs.Line.{Assignment, line_at, line_count, lines_of, meets, assignment_of}
use Rattle.lines.specs.Refusal.{◌or_else◌, refuse_if, validity_of}
use Rattle.lines.specs.Valid.{ListOk, valid_list, or_valid}
use Rattle.lines.specs.Places.{Placed, valid, refused, placed_or, placed_if, placed_list}
use Rattle.check_answers.specs.declared.CheckAnswer.TheVariants.{No}
use Rattle.check_answers.specs.Answer.{Below, below_unless}
use Rattle.check_model.specs.Model.{values_validity_lem, model_validity_lem, first_failing_lem, model_answer}

module _ (m : ℕ) where
  values_placed : (k : ℕ) (vs : List ℤ) → k + length vs ≤ m → Placed m (values_validity_lem k vs)
  unfolding values_validity_lem
  values_placed k [] h = valid
  values_placed k (v ∷ vs) h = placed_or m _ _ (placed_if m (not (is_within_lem max_value v)) (BadValue k) (omega arith)) (values_placed (k + 1) vs (omega arith))

  failing_below : (s : Assignment) (k : ℕ) (ls : List Line) → k + length ls ≤ m → Below m (Ok (first_failing_lem s k ls))
  unfolding first_failing_lem
  failing_below s k [] h = tt
  failing_below s k (l ∷ ls) h = go (meets s l) (failing_below s (k + 1) ls (omega arith))
    where
      go : (t : Bool) → Below m (Ok (first_failing_lem s (k + 1) ls)) → Below m (Ok (cond t (first_failing_lem s (k + 1) ls) (No k)))
      go true rest = rest
      go false rest = omega arith

  module _ (lines : max_lines < m) (variables : max_variables < m) (n : ℕ) (L vs : List ℤ) where
    sized : ListOk n L → (t : Bool) → eqb (length vs) n ≡ t → Placed m (refuse_if (not t) WrongModelLength or_else values_validity_lem 0 vs)
    sized ok true e = values_placed 0 vs (omega (arith, eqb-true (length vs) n e, ok.variables))
    sized ok false e = refused {r = WrongModelLength} (omega arith)

    model_placed : Placed m (model_validity_lem n L vs)
    unfolding model_validity_lem
    model_placed = go (validity_of n L) refl (placed_list m n L lines)
      where
        go : (v : Result Unit Refusal) → validity_of n L ≡ v → Placed m v → Placed m (v or_else refuse_if (not (eqb (length vs) n)) WrongModelLength or_else values_validity_lem 0 vs)
        go (Ok _) e p = sized (valid_list n L e) (eqb (length vs) n) refl
        go (Err r) e p = p

    few_lines : model_validity_lem n L vs ≡ Ok tt → line_count L ≤ max_lines
    unfolding model_validity_lem
    few_lines e = (valid_list n L (or_valid (validity_of n L) _ e).0).count

    pub answer_below : Below m (model_answer n L vs)
    unfolding model_answer
    answer_below =
        below_unless m (model_validity_lem n L vs) _ model_placed
        (λ e. failing_below (assignment_of vs) 0 (lines_of L) (omega (arith, few_lines e, length_tabulate (line_count L) (line_at L))))
