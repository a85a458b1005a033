-- Picks of which the second has all lines of the first and perhaps others, in the same list or in a longer one: every solution of its list solves the first's,
-- and what is accepted against the first's is accepted against its own.
use Rattle.std.specs.Prelude.{◌≡◌, true, List, ◌++◌, ℕ, ◌/◌, ◌%◌, ◌<◌, ℤ, length, Some}
use Rattle.std.proofs.Common.{subst, arith}
use Rattle.lines.specs.Limits.{line_size}
use Rattle.lines.specs.Line.{line_count, lines_of, Meets, Entails}
use Rattle.lines.specs.LineNumbers.{count_append, line_left}
use Rattle.steps.specs.declared.Step.{Step}
use Rattle.steps.specs.Step.{step_numbered_lem}
use Rattle.steps.specs.Laws.{from_line}
use Rattle.check_refutation.specs.Progress.{accepts}
use Rattle.check_soundness.specs.Refutes.{FalseStep}
use Rattle.check_soundness.specs.Meaning.{accepts_exactly}
use Rattle.check_soundness.specs.Carried.{EachStep, refutes_each}
use Rattle.check_soundness.specs.Sound.{accepts_longer}
use Rattle.tree_lists.specs.Masked.{is_picked_lem, masked, masked_solved, solved_masked}
use Rattle.tree_lists.specs.Refuted.{PickedStep, found_masked, false_masked, accepts_picked}

module _ (few many : List ℕ) (L M : List ℤ) (whole : length L % line_size ≡ 0) (more : (k : ℕ) → k < line_count L → is_picked_lem few k ≡ true → is_picked_lem many k ≡ true) where
  pub more_entails : Entails (lines_of (masked many (L ++ M))) (lines_of (masked few L))
  more_entails s h =
      solved_masked few L s
      (λ k l p. subst (Meets s) (line_left L M whole k l) (masked_solved many (L ++ M) s h k (omega (arith, count_append L M whole)) (more k l p)))

  pub more_accepts : (R : List ℕ) → accepts (masked few L) R ≡ true → accepts (masked many (L ++ M)) R ≡ true
  more_accepts R e =
      let steps : EachStep (PickedStep many (L ++ M)) R = refutes_each (masked few L) (PickedStep many (L ++ M)) found false_step R ((accepts_exactly (masked few L) R).0 e) in
      (accepts_picked many (L ++ M) R).1 (accepts_longer L M whole R ((accepts_picked few L R).0 e).0, steps)
    where
      found : (k : ℕ) (t : Step) → step_numbered_lem (masked few L) k ≡ Some t → is_picked_lem many (k / 2) ≡ true
      found k t f = let p = found_masked few L k t f in more (k / 2) (from_line L k t p.1).0 p.0

      false_step : (k : ℕ) → FalseStep (masked few L) k → is_picked_lem many (k / 2) ≡ true
      false_step k w = let p = false_masked few L k w in more (k / 2) (omega (arith, p.1.is, p.1.within)) p.0
