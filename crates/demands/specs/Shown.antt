-- The model checker accepts the model that deciding writes: it meets every line, and its values are small enough for the check.
use Rattle.std.specs.Prelude.{◌≡◌, refl, List, [], ◌∷◌, ℕ, suc, ◌+◌, ◌*◌, ◌<◌, ◌≤◌, ℤ, pos, get_or, Ok}
use Rattle.std.proofs.Common.{arith}
use borrow.Author.Tests.{eq-eqb}
use Rattle.std.proofs.Math.IntN.{nat_abs}
use Rattle.std.proofs.Math.ListN.{length}
use Rattle.integers.proofs.Halving.{within_is, abs_within}
use Rattle.lines.specs.Limits.{max_constant, max_value}
use Rattle.lines.specs.Line.{lines_of, assignment_of}
use Rattle.lines.specs.Refusal.{validity_of}
use Rattle.lines.specs.Valid.{valid_list, workable}
use Rattle.check_answers.specs.declared.CheckAnswer.TheVariants.{Yes}
use Rattle.check_model.specs.Model.{values_validity_lem, model_validity_lem, model_answer}
use Rattle.check_model.specs.Meaning.{yes_exactly}
use Rattle.theory_answers.specs.Semantics.{Written}
use Rattle.theory_answers.specs.Small.{valid_above, model_small}
use Rattle.theory_answers.specs.Decided.{lines_ok}

values_valid : (j : ℕ) (m : List ℤ) → ((k : ℕ) → k < length m → nat_abs (get_or m k (pos 0)) ≤ max_value) → values_validity_lem j m ≡ Ok tt
unfolding values_validity_lem
values_valid j [] h = refl
values_valid j (z ∷ m) h = rw (within_is max_value z (abs_within max_value z (h 0 (omega arith))), values_valid (j + 1) m (λ k l. h (suc k) (omega arith)))

module _ (n : ℕ) (L m b : List ℤ) (g : List ℕ) (valid : validity_of n L ≡ Ok tt) (w : Written n (lines_of L) m b g) where
  pub value_small : (k : ℕ) → k < length m → nat_abs (get_or m k (pos 0)) ≤ n * max_constant
  value_small k l =
      model_small n max_constant (lines_of L) (lines_ok n L (workable n L valid)) (valid_above n L valid) (assignment_of m) w.model_is k (omega (arith, w.model_length))

  pub model_accepted : model_answer n L m ≡ Ok Yes
  unfolding model_validity_lem
  model_accepted =
      let few = (valid_list n L valid).variables in
      let small : (k : ℕ) → k < length m → nat_abs (get_or m k (pos 0)) ≤ max_value = λ k l. omega (arith, value_small k l, few) in
      (yes_exactly n L m).1 (rw (valid, eq-eqb (length m) n w.model_length, values_valid 0 m small), w.model_is.solves)
