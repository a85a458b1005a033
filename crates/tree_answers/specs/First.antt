-- The answers to a tree: the first choice with a solution, and that there is one exactly if some assignment meets the condition; on a no, a refutation of each choice.
use Rattle.std.specs.Prelude.{◌≡◌, ◌↔◌, ◌⊎◌, Bool, true, false, List, ℕ, ◌+◌, ◌<◌, ℤ, Ok}
use Rattle.std.proofs.Common.{sym, ◌∙◌, inl, inr, arith}
use Rattle.std.proofs.Math.Decide.{dec_lt}
use Rattle.integers.specs.Laws.{never}
use Rattle.integers.specs.Lowest.{lowest, Passed, NonePassed, lowest_known}
use Rattle.lines.specs.Line.{line_count, lines_of, Assignment, assignment_of, Solves, Solvable}
use Rattle.lines.specs.Refusal.{validity_of}
use Rattle.lines.specs.Valid.{Workable, workable}
use Rattle.check_answers.specs.declared.CheckAnswer.TheVariants.{Yes}
use Rattle.check_refutation.specs.Answer.{refutation_answer}
use Rattle.check_soundness.specs.Carried.{EachStep}
use Rattle.theory_bounds.specs.Verdict.{verdict_of}
use Rattle.theory_bounds.specs.Answers.{model_of}
use Rattle.theory_answers.specs.Meaning.{model_is_model}
use Rattle.theory_answers.specs.Refuted.{Due, due_refutation}
use Rattle.theory_answers.specs.Decided.{lines_ok, yes_solvable, no_unsolvable, solvable_yes, due_accepted}
use Rattle.tree_reading.specs.declared.Kind.TheVariants.{AllOf}
use Rattle.tree_reading.specs.Tree.{Row, Fits, levels}
use Rattle.tree_reading.specs.Choices.{count}
use Rattle.tree_lists.specs.Refuted.{PickedStep, answers_picked}
use Rattle.tree_lists.specs.Condition.{choice_flags, choice_list, Condition, some_choice, choice_meets, choice_valid}

module _ (n : ℕ) (L : List ℤ) (t : Row) where
  -- the verdict on a choice is that on its list
  abbrev pub choice_verdict : ℕ → Bool
  choice_verdict k = verdict_of n (lines_of (choice_list L t k))

  -- the lowest choice whose verdict is yes, or the number of choices where there is none
  abbrev pub first_choice : ℕ
  first_choice = lowest choice_verdict 0 (count AllOf t)

  -- choice k has a solution, and none before it has
  pub record FirstSolvable (k : ℕ) : Type 0 where
    pub below : k < count AllOf t
    pub solvable : Solvable (lines_of (choice_list L t k))
    pub earlier : (j : ℕ) → j < k → Solvable (lines_of (choice_list L t j)) → ⊥

  module _ (valid : validity_of n L ≡ Ok tt) where
    choice_works : (k : ℕ) → Workable n (choice_list L t k)
    choice_works k = workable n (choice_list L t k) (choice_valid n L t k valid)

    pub first_solvable : first_choice < count AllOf t → FirstSolvable first_choice
    first_solvable h = go (lowest_known choice_verdict 0 (count AllOf t))
      where
        go : Passed choice_verdict 0 (0 + count AllOf t) first_choice ⊎ NonePassed choice_verdict 0 (0 + count AllOf t) first_choice → FirstSolvable first_choice
        go (inl p) =
            record {
              below = h;
              solvable = yes_solvable n (choice_list L t first_choice) (choice_works first_choice) p.passes;
              earlier = λ j l. no_unsolvable n (choice_list L t j) (choice_works j) (p.before j (omega arith) l);
            }
        go (inr p) = absurd (omega (arith, p.at_end))

    pub none_solvable : first_choice ≡ count AllOf t → (j : ℕ) → j < count AllOf t → Solvable (lines_of (choice_list L t j)) → ⊥
    none_solvable e j l = go (lowest_known choice_verdict 0 (count AllOf t))
      where
        go : Passed choice_verdict 0 (0 + count AllOf t) first_choice ⊎ NonePassed choice_verdict 0 (0 + count AllOf t) first_choice → Solvable (lines_of (choice_list L t j)) → ⊥
        go (inl p) = absurd (omega (arith, p.below))
        go (inr p) = no_unsolvable n (choice_list L t j) (choice_works j) (p.fails j (omega arith) (omega arith))

    -- there is no other first
    pub only_first : (k : ℕ) → FirstSolvable k → k ≡ first_choice
    only_first k f = go (lowest_known choice_verdict 0 (count AllOf t)) (dec_lt k first_choice) (dec_lt first_choice k)
      where
        yes_at : choice_verdict k ≡ true
        yes_at = solvable_yes n (choice_list L t k) (choice_works k) f.solvable

        apart : {A : Type 0} → choice_verdict k ≡ false → A
        apart e = never (cc (sym yes_at ∙ e))

        go : Passed choice_verdict 0 (0 + count AllOf t) first_choice ⊎ NonePassed choice_verdict 0 (0 + count AllOf t) first_choice → Dec (k < first_choice) → Dec (first_choice < k) → k ≡ first_choice
        go (inl p) (yes l) _ = apart (p.before k (omega arith) l)
        go (inl p) (no l) (yes m) = absurd (f.earlier first_choice m (yes_solvable n (choice_list L t first_choice) (choice_works first_choice) p.passes))
        go (inl p) (no l) (no m) = omega arith
        go (inr p) _ _ = apart (p.fails k (omega arith) (omega (arith, f.below)))

    -- ---- the condition
    module _ (fits : Fits (line_count L) AllOf levels t) where
      -- yes exactly if some assignment meets the condition
      pub yes_exactly : (first_choice < count AllOf t) ↔ ((s : Assignment) × Condition L t s)
      yes_exactly = (
        (λ h. let f = first_solvable h in (f.solvable.assignment, choice_meets L t f.solvable.assignment fits first_choice h f.solvable.solves)),
        (λ c. go c.0 (some_choice L t c.0 c.1) (lowest_known choice_verdict 0 (count AllOf t))),
      )
        where
          go : (s : Assignment) → (k : ℕ) × (k < count AllOf t) × Solves (lines_of (choice_list L t k)) s
              → Passed choice_verdict 0 (0 + count AllOf t) first_choice ⊎ NonePassed choice_verdict 0 (0 + count AllOf t) first_choice → first_choice < count AllOf t
          go s k (inl p) = omega (arith, p.below)
          go s k (inr p) = absurd (none_solvable (omega (arith, p.at_end)) k.0 k.1 (record { assignment = s; solves = k.2 }))

      -- no exactly if none meets it
      pub no_exactly : (first_choice ≡ count AllOf t) ↔ ((s : Assignment) → Condition L t s → ⊥)
      no_exactly = (
        (λ e s c. let k = some_choice L t s c in none_solvable e k.0 k.1 (record { assignment = s; solves = k.2 })),
        (λ f. go f (lowest_known choice_verdict 0 (count AllOf t))),
      )
        where
          go : ((s : Assignment) → Condition L t s → ⊥) → Passed choice_verdict 0 (0 + count AllOf t) first_choice ⊎ NonePassed choice_verdict 0 (0 + count AllOf t) first_choice → first_choice ≡ count AllOf t
          go f (inl p) = let y = yes_exactly.0 (omega (arith, p.below)) in absurd (f y.0 y.1)
          go f (inr p) = omega (arith, p.at_end)

      -- the first choice's model meets it
      pub model_meets : first_choice < count AllOf t → Condition L t (assignment_of (model_of n (lines_of (choice_list L t first_choice))))
      model_meets h =
          let model = model_of n (lines_of (choice_list L t first_choice)) in
          let verdict = solvable_yes n (choice_list L t first_choice) (choice_works first_choice) (first_solvable h).solvable in
          choice_meets L t (assignment_of model) fits first_choice h (model_is_model n _ (lines_ok n _ (choice_works first_choice)) verdict).solves

    -- ---- the refutation of a choice: of the due kind, with steps of the lines picked alone, and accepted against the whole list
    pub due_picked : (k : ℕ) (R : List ℕ) → Due n (choice_list L t k) R → (refutation_answer n L R ≡ Ok Yes) × EachStep (PickedStep (choice_flags L t k) L) R
    unfolding choice_list
    due_picked k R d = (answers_picked (choice_flags L t k) L n valid R).0 (due_accepted n (choice_list L t k) (choice_valid n L t k valid) R d)

    pub choice_refutation : (k : ℕ) → choice_verdict k ≡ false
        → (R : List ℕ) × Due n (choice_list L t k) R × (refutation_answer n L R ≡ Ok Yes) × EachStep (PickedStep (choice_flags L t k) L) R
    choice_refutation k e =
        let r = due_refutation n (choice_list L t k) e in
        let a = due_picked k r.0 r.1 in
        (r.0, r.1, a.0, a.1)
