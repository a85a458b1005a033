-- The identifiers of a choice's refutation are those of the whole list's lines: each of its steps is of a line that the choice picks.
use Rattle.std.specs.Prelude.{◌≡◌, true, List, [], ◌∷◌, ℕ, zero, suc, ◌/◌, ◌<◌, ℤ, nat_abs, length, get_or, drop, Some}
use Rattle.std.proofs.Common.{ap, subst, append-nil, arith, length-drop, get_or-drop}
use Rattle.integers.specs.Sequence.{tabulate_cong}
use Rattle.lines.specs.declared.Line.{Line}
use Rattle.lines.specs.Line.{line_count}
use Rattle.steps.specs.declared.Step.{Step}
use Rattle.steps.specs.Step.{step_numbered_lem}
use Rattle.steps.specs.Laws.{from_line}
use Rattle.check_refutation.specs.Progress.{head_size}
use Rattle.check_soundness.specs.Head.{steps_in}
use Rattle.check_soundness.specs.Refutes.{FalseStep, Refutes, stated_length_law}
use Rattle.check_soundness.specs.Carried.{Each, EachStep, refutes_each}
use Rattle.decide_identifiers.specs.Identifiers.{identifier_of_lem, step_at, identifiers_of}
use Rattle.tree_lists.specs.Masked.{is_picked_lem, masked, line_picked}
use Rattle.tree_lists.specs.Refuted.{found_masked, false_masked}

each_at : (P : ℕ → Type 0) (ks : List ℕ) → Each P ks → (i : ℕ) → i < length ks → P (get_or ks i 0)
each_at P [] h i l = absurd (omega arith)
each_at P (k ∷ ks) h zero l = h.0
each_at P (k ∷ ks) h (suc i) l = each_at P ks h.1 i (omega arith)

module _ (flags : List ℕ) (L : List ℤ) where
  -- the step number is of a line of the list that is picked
  abbrev Listed : ℕ → Type 0
  Listed k = (k / 2 < line_count L) × (is_picked_lem flags (k / 2) ≡ true)

  listed_step : (k : ℕ) (t : Step) → step_numbered_lem (masked flags L) k ≡ Some t → Listed k
  listed_step k t e = let f = found_masked flags L k t e in ((from_line L k t f.1).0, f.0)

  listed_false : (k : ℕ) → FalseStep (masked flags L) k → Listed k
  listed_false k w = let f = false_masked flags L k w in (omega (arith, f.1.is, f.1.within), f.0)

  pub identifiers_picked : (R : List ℕ) → Refutes (masked flags L) R → identifiers_of (masked flags L) R ≡ identifiers_of L R
  unfolding identifiers_of
  identifiers_picked R r = tabulate_cong (steps_in R) _ _ same
    where
      steps : EachStep Listed R
      steps = refutes_each (masked flags L) Listed listed_step listed_false R r

      same : (i : ℕ) → i < steps_in R → identifier_of_lem (masked flags L) (step_at R i) ≡ identifier_of_lem L (step_at R i)
      same i h =
          let inside : i < length (drop head_size R)
          = omega (arith, length-drop head_size R, stated_length_law (masked flags L) R r [], ap steps_in (append-nil R)) in
          let step : Listed (step_at R i) = subst Listed (get_or-drop head_size R i 0) (each_at Listed (drop head_size R) steps i inside) in
          ap (λ (l : Line). nat_abs l.identifier) (line_picked flags L (step_at R i / 2) step.0 step.1)
