-- Demand 3 of choices: what is learned of a choice holds of each choice, of the same list or of one lengthened at its end, that picks its lines and perhaps others.
--
-- Every solution of the second's list solves the first's, so that the laws of two lists (theory_answers/specs/Longer.antt) hold of them; and the number of a
-- step means the same in both.
use Rattle.std.specs.Prelude.{◌≡◌, refl, ◌↔◌, Bool, true, false, List, ◌++◌, ℕ, ◌%◌, ◌<◌, ℤ, length, Ok}
use Rattle.std.proofs.Common.{sym, subst}
use Rattle.std.proofs.Math.Decide.{dec_lt}
use Rattle.integers.specs.Laws.{never}
use Rattle.lines.specs.Limits.{line_size}
use Rattle.lines.specs.Line.{line_at, line_count, lines_of, Assignment, Meets, Solves, Entails}
use Rattle.lines.specs.LineNumbers.{line_left}
use Rattle.lines.specs.Refusal.{validity_of}
use Rattle.check_answers.specs.declared.CheckAnswer.TheVariants.{Yes}
use Rattle.check_refutation.specs.Answer.{refutation_answer}
use Rattle.check_soundness.specs.Carried.{EachStep}
use Rattle.check_soundness.specs.Answered.{answered_yes}
use Rattle.tree_reading.specs.Tree.{Row}
use Rattle.tree_lists.specs.Masked.{is_picked_lem}
use Rattle.tree_lists.specs.More.{more_entails, more_accepts}
use Rattle.tree_lists.specs.Condition.{choice_flags, choice_list, picked_exactly, choice_valid}
use Rattle.tree_answers.specs.Picked.{choice_at, Picks, is_in, in_exactly, solves_picked, StepOf, choice_solutions, choice_accepted}

-- of K, which is L or begins with all its lines, the second picks all that the first picks of L
abbrev pub PicksThese : (L K : List ℤ) (few many : List ℕ) → Type 0
PicksThese L K few many = (i : ℕ) → Picks L few i → Picks K many i

-- line i is added: the second picks it, and the first does not
pub record Added (L K : List ℤ) (few many : List ℕ) (i : ℕ) : Type 0 where
  pub is_picked : Picks K many i
  pub is_new : Picks L few i → ⊥

module _ (L M : List ℤ) (whole : length L % line_size ≡ 0) (t u : Row) (k j : ℕ) (these : PicksThese L (L ++ M) (choice_at t k) (choice_at u j)) where
  flags_more : (i : ℕ) → i < line_count L → is_picked_lem (choice_flags L t k) i ≡ true → is_picked_lem (choice_flags (L ++ M) u j) i ≡ true
  flags_more i l e = let p = these i (l, (picked_exactly L t k i l).0 e) in (picked_exactly (L ++ M) u j i p.0).1 p.1

  pub choice_entails : Entails (lines_of (choice_list (L ++ M) u j)) (lines_of (choice_list L t k))
  unfolding choice_list
  choice_entails = more_entails (choice_flags L t k) (choice_flags (L ++ M) u j) L M whole flags_more

  -- a refutation with steps of the first's lines alone has steps of the second's alone, and stays accepted
  pub counts_too : (n : ℕ) → validity_of n L ≡ Ok tt → validity_of n (L ++ M) ≡ Ok tt → (R : List ℕ) → (refutation_answer n L R ≡ Ok Yes) × EachStep (StepOf L (choice_at t k)) R
      → (refutation_answer n (L ++ M) R ≡ Ok Yes) × EachStep (StepOf (L ++ M) (choice_at u j)) R
  unfolding choice_list
  counts_too n v w R h =
      let few = (answered_yes n (choice_list L t k) R).0 ((choice_accepted L t k n v R).1 h) in
      let many = more_accepts (choice_flags L t k) (choice_flags (L ++ M) u j) L M whole flags_more R few.2 in
      (choice_accepted (L ++ M) u j n w R).0 ((answered_yes n (choice_list (L ++ M) u j) R).1 (choice_valid n (L ++ M) u j w, few.1, many))

  -- what solves the first's list solves the second's exactly if it meets each line that is added
  pub meets_added : (s : Assignment) → Solves (lines_of (choice_list L t k)) s
      → Solves (lines_of (choice_list (L ++ M) u j)) s ↔ ((i : ℕ) → Added L (L ++ M) (choice_at t k) (choice_at u j) i → Meets s (line_at (L ++ M) i))
  meets_added s h =
      let same = choice_solutions (L ++ M) u j s in
      let all = solves_picked (L ++ M) (choice_at u j) s in (
        (λ g i a. all.0 (same.0 g) i a.is_picked),
        (λ f. same.1 (all.1 (λ i p. go i p (dec_lt i (line_count L)) (is_in i (choice_at t k)) refl (f i)))),
      )
    where
      met : (i : ℕ) → Picks L (choice_at t k) i → Meets s (line_at L i)
      met = (solves_picked L (choice_at t k) s).0 ((choice_solutions L t k s).0 h)

      go : (i : ℕ) → Picks (L ++ M) (choice_at u j) i → Dec (i < line_count L) → (b : Bool) → is_in i (choice_at t k) ≡ b
          → (Added L (L ++ M) (choice_at t k) (choice_at u j) i → Meets s (line_at (L ++ M) i)) → Meets s (line_at (L ++ M) i)
      go i p (yes l) true e f = subst (Meets s) (sym (line_left L M whole i l)) (met i (l, (in_exactly i (choice_at t k)).0 e))
      go i p (yes l) false e f = f (record { is_picked = p; is_new = λ q. never (cc (sym ((in_exactly i (choice_at t k)).1 q.1), e)) })
      go i p (no l) b e f = f (record { is_picked = p; is_new = λ q. absurd (l q.0) })
