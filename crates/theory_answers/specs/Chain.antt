-- Lists whose values are as large as they can be: in a chain of n variables the first is at least M, and each other at least M more than the one before.
use Rattle.std.specs.Prelude.{◌≡◌, refl, List, ℤ, nat_abs, ◌+ℤ◌, ◌*ℤ◌}
use Prim.Native.Nat.{ℕ, zero, suc, ◌+◌, ◌*◌, ◌≤◌, ◌<◌}
use Rattle.std.proofs.Common.{arith}
use Rattle.std.proofs.Math.IntN.{pos, neg_ℤ}
use Rattle.integers.specs.Integer.{◌⩽◌}
use Rattle.integers.proofs.Linear.{ints}
use Rattle.integers.specs.Sequence.{tabulate}
use Rattle.lines.specs.declared.Line.{Line}
use Rattle.lines.specs.Line.{Assignment, left_side_lem, Meets, Solves}
use Rattle.lines.specs.Solutions.{solves_tabulate, tabulate_solves}
use Rattle.theory_answers.specs.Semantics.{IsModel, IsLeast}

-- -x ≤ -M of variable 0, and x - y ≤ -M of each two neighbours
abbrev pub chain_line : ℕ → ℕ → Line
chain_line M zero = record { a = neg_ℤ (pos 1); x = pos 0; b = pos 0; y = pos 0; d = neg_ℤ (pos M); identifier = pos 0 }
chain_line M (suc k) = record { a = pos 1; x = pos k; b = neg_ℤ (pos 1); y = pos (suc k); d = neg_ℤ (pos M); identifier = pos 0 }

abbrev pub chain : ℕ → ℕ → List Line
chain M n = tabulate n (chain_line M)

-- variable k has (k + 1)·M
abbrev pub climbing : ℕ → Assignment
climbing M k = pos (suc k * M)

module _ (M : ℕ) where
  -- what a chain says of t, line by line
  chain_line_law : (t : Assignment) (k : ℕ) → Meets t (chain_line M (suc k)) → t k +ℤ pos M ⩽ t (suc k)
  unfolding left_side_lem
  chain_line_law t k = rise (t k) (t (suc k)) M
    where
      rise : (a b : ℤ) (m : ℕ) → pos 1 *ℤ a +ℤ neg_ℤ (pos 1) *ℤ b ⩽ neg_ℤ (pos m) → a +ℤ pos m ⩽ b
      rise a b m = simp ints (omega arith)

  first_line : (t : Assignment) → Meets t (chain_line M 0) → pos M ⩽ t 0
  unfolding left_side_lem
  first_line t = start (t 0) M
    where
      start : (a : ℤ) (m : ℕ) → neg_ℤ (pos 1) *ℤ a +ℤ pos 0 *ℤ a ⩽ neg_ℤ (pos m) → pos m ⩽ a
      start a m = simp ints (omega arith)

  climbs : (k : ℕ) → Meets (climbing M) (chain_line M k)
  unfolding left_side_lem
  climbs zero = start M
    where
      start : (m : ℕ) → neg_ℤ (pos 1) *ℤ pos (1 * m) +ℤ pos 0 *ℤ pos (1 * m) ⩽ neg_ℤ (pos m)
      start m = simp ints (omega arith)
  climbs (suc k) = rise (suc k * M) (suc (suc k) * M) M (omega arith)
    where
      rise : (a b m : ℕ) → b ≡ a + m → pos 1 *ℤ pos a +ℤ neg_ℤ (pos 1) *ℤ pos b ⩽ neg_ℤ (pos m)
      rise a b m = simp ints (omega arith)

  -- it is a solution, and no variable has less in any other
  pub chain_solved : (n : ℕ) → Solves (chain M n) (climbing M)
  chain_solved n = tabulate_solves n (chain_line M) (climbing M) (λ k l. climbs k)

  chain_least : (n : ℕ) (t : Assignment) → Solves (chain M n) t → (k : ℕ) → k < n → pos (suc k * M) ⩽ t k
  chain_least n t h zero l = once (t 0) M (first_line t (solves_tabulate n (chain_line M) t h 0 l))
    where
      once : (a : ℤ) (m : ℕ) → pos m ⩽ a → pos (1 * m) ⩽ a
      once a m = simp ints (omega arith)
  chain_least n t h (suc k) l =
      rise (t k) (t (suc k)) (suc k * M) (suc (suc k) * M) M (omega arith) (chain_least n t h k (omega arith)) (chain_line_law t k (solves_tabulate n (chain_line M) t h (suc k) l))
    where
      rise : (a b : ℤ) (p q m : ℕ) → q ≡ p + m → pos p ⩽ a → a +ℤ pos m ⩽ b → pos q ⩽ b
      rise a b p q m = simp ints (omega arith)

  -- so it is the model, and its values are the least
  pub chain_model : (n : ℕ) → IsModel n (chain M n) (climbing M)
  chain_model n = record { solves = chain_solved n; nearest = λ k l t h a. nearer (t k) (suc k * M) (chain_least n t h k l) }
    where
      nearer : (a : ℤ) (m : ℕ) → pos m ⩽ a → m ≤ nat_abs a
      nearer a m = simp ints (omega arith)

  pub chain_is_least : (n k : ℕ) → k < n → IsLeast (chain M n) k (pos (suc k * M))
  chain_is_least n k l = record { bounds = λ t h. chain_least n t h k l; taken_by = climbing M; solves = chain_solved n; taken = refl }
