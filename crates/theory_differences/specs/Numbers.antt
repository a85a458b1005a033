-- Plain steps by their numbers: there is one for each line, in their order, and the step number of its plus copy is twice the line's, one more where x has
-- the coefficient -1.
use Rattle.std.specs.Prelude.{◌≡◌, refl, List, [], ◌∷◌, ◌++◌, ℕ, zero, suc, ◌+◌, ◌*◌, ◌/◌, ◌%◌, ◌<◌, ℤ, take, drop, Some}
use Rattle.std.proofs.Common.{sym, ap, ◌∙◌, arith}
use borrow.Author.Tests.{lt-ltb}
use Rattle.integers.specs.Sequence.{tabulate, tabulate_add}
use Rattle.lines.specs.declared.Line.{Line}
use Rattle.lines.specs.Line.{line_at, line_count, lines_of}
use Rattle.steps.specs.declared.Step.{Step}
use Rattle.steps.specs.Step.{step_numbered_lem}
use Rattle.steps.specs.Walk.{Names}
use Rattle.theory_walks.specs.Row.{In}
use Rattle.theory_walks.specs.Graph.{at_line, line_at_law}
use Rattle.theory_differences.specs.Plain.{Differences, plain_step_lem, plain_steps, plain_side, plain_side_law, plain_source, plus}
use Rattle.theory_differences.specs.Walks.{copy_steps}

-- the plain steps of the lines before k
abbrev pub plain_before : List ℤ → ℕ → List Step
plain_before L k = tabulate k (λ j. plain_step_lem (line_at L j))

plain_tabulate : (c : ℕ) (f : ℕ → Line) → plain_steps (tabulate c f) ≡ tabulate c (λ k. plain_step_lem (f k))
unfolding plain_steps
plain_tabulate zero f = refl
plain_tabulate (suc c) f = ap (λ (l : List Step). plain_step_lem (f 0) ∷ l) (plain_tabulate c (λ k. f (suc k)))

abbrev pub plain_number_lem : List ℤ → ℕ → ℕ
plain_number_lem L k = 2 * k + plain_side (line_at L k)

module _ (L : List ℤ) where
  pub before_more : (k : ℕ) → plain_before L (k + 1) ≡ plain_before L k ++ plain_step_lem (line_at L k) ∷ []
  before_more k =
      let z : k + 0 ≡ k = omega arith in
      tabulate_add k 1 (λ j. plain_step_lem (line_at L j)) ∙ ap (λ (j : ℕ). plain_before L k ++ plain_step_lem (line_at L j) ∷ []) z

  pub before_all : plain_before L (line_count L) ≡ plain_steps (lines_of L)
  before_all = sym (plain_tabulate (line_count L) (line_at L))

  -- the line of a plain step
  pub plain_line : (p : Step) → In p (plain_steps (lines_of L)) → (k : ℕ) × (k < line_count L) × (plain_step_lem (line_at L k) ≡ p)
  plain_line p i =
      let s = plain_source (lines_of L) p i in
      let k = at_line L s.number s.line s.at in
      (s.number, k.0, ap plain_step_lem k.1 ∙ sym s.is)

  -- the number names the plus copy
  pub plain_numbered : Differences (lines_of L) → (k : ℕ) → k < line_count L → (plain_number_lem L k < 2 * line_count L) × (step_numbered_lem L (plain_number_lem L k) ≡ Some (plus (plain_step_lem (line_at L k))))
  unfolding step_numbered_lem
  plain_numbered ds k h =
      let s = plain_side_law (line_at L k) (ds k (line_at L k) (line_at_law L k h)) in
      let a : plain_number_lem L k / 2 ≡ k = omega (arith, s.0) in
      let b : plain_number_lem L k % 2 ≡ plain_side (line_at L k) = omega (arith, s.0) in
      (omega (arith, s.0), rw (a, b, lt-ltb k (line_count L) h) s.1)

  -- ---- a part of a named walk is named by the same part of the numbers
  pub plain_take : (i : ℕ) (ks : List ℕ) (ss : List Step) → Names L ks (copy_steps ss) → Names L (take i ks) (copy_steps (take i ss))
  plain_take zero ks ss a = tt
  plain_take (suc i) [] [] a = tt
  plain_take (suc i) [] (s ∷ ss) a = absurd a
  plain_take (suc i) (k ∷ ks) [] a = absurd a
  plain_take (suc i) (k ∷ ks) (s ∷ ss) a = (a.0, plain_take i ks ss a.1)

  pub plain_drop : (i : ℕ) (ks : List ℕ) (ss : List Step) → Names L ks (copy_steps ss) → Names L (drop i ks) (copy_steps (drop i ss))
  plain_drop zero ks ss a = a
  plain_drop (suc i) [] [] a = tt
  plain_drop (suc i) [] (s ∷ ss) a = absurd a
  plain_drop (suc i) (k ∷ ks) [] a = absurd a
  plain_drop (suc i) (k ∷ ks) (s ∷ ss) a = plain_drop i ks ss a.1
