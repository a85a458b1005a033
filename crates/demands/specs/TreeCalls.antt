-- Calls about a tree, as the demands speak of them: what they answered, and what the lent buffers held before and after. A call that decides a choice is one of
-- deciding its list, in which each line that is not picked is 0 ≤ 0; on a yes it is one of deciding the lines picked, as a list of their own.
use Rattle.tree_deciding.specs.declared.ConditionRefusal.{ConditionRefusal}
use Rattle.std.specs.Prelude.{◌≡◌, refl, ◌↔◌, Bool, true, false, cond, List, [], ◌++◌, ℕ, ◌<◌, ltb, ℤ, take, drop, Err, None, Ok, Option, Result, Some}
use Rattle.std.proofs.Common.{sym, ap, ap₂, subst, ◌∙◌, arith, take_at}
use Rattle.integers.specs.Laws.{never}
use Rattle.lines.specs.Line.{line_count, lines_of, Assignment, assignment_of, Solvable, SameSolutions}
use Rattle.lines.specs.Refusal.{validity_of}
use Rattle.lines.specs.Valid.{Workable, workable}
use Rattle.check_soundness.specs.Head.{steps_in}
use Rattle.theory_bounds.specs.Verdict.{verdict_of}
use Rattle.theory_bounds.specs.Answers.{model_of}
use Rattle.theory_answers.specs.Semantics.{Written}
use Rattle.theory_answers.specs.Decided.{yes_solvable, no_unsolvable}
use Rattle.theory_answers.specs.Same.{same_verdict, same_written}
use Rattle.decide_buffers.specs.Room.{Lent, ModelLent, model_room_lem, bounds_room_lem, groups_room_lem}
use Rattle.decide_identifiers.specs.Identifiers.{identifiers_of, length_identifiers}
use Rattle.decide.specs.declared.Answer.TheVariants as decide
use Rattle.decide.specs.Decided.{NotRefused as Answered, cleared, decide_answer, OnYes, Leaves, answer_for, ok_decide}
use Rattle.decide.specs.Parts.{model_in_lem, bounds_in, groups_in, refutation_in, identifiers_in, refutation_in_law, steps_in_law}
use Rattle.tree_reading.specs.declared.Kind.TheVariants.{AllOf}
use Rattle.tree_reading.specs.Tree.{Row as Tree, tree_numbers, levels, Fits}
use Rattle.tree_reading.specs.Choices.{count, overs_of}
use Rattle.tree_reading.specs.declared.Node.{Node}
use Rattle.tree_reading.specs.Reading.{valid_tree_lem}
use Rattle.tree_reading.specs.Numbers.{one_tree}
use Rattle.tree_reading.specs.Taken.{tree_in, taken}
use Rattle.tree_choices.specs.Chosen.{choice_read}
use Rattle.tree_lists.specs.Condition.{choice_list, Condition, choice_valid}
use Rattle.tree_answers.specs.First.{choice_verdict, FirstSolvable}
use Rattle.tree_answers.specs.Picked.{choice_at, picked_list, list_picked, picked_valid, choice_solutions}
use Rattle.tree_deciding.specs.Answer.{choice_found, first_found_lem, tree_over, choice_answer_for, first_answer_for, ChoiceLeaves, model_left, work_left, DecidesChoice, AnswersFirst}
use Rattle.tree_deciding.specs.Meaning.{NotRefused, FirstTaken, first_taken, ChoiceTaken, choice_taken, first_yes_exactly, first_no_exactly, first_yes, choice_yes_exactly, choice_no_exactly}
use Rattle.demands.specs.Calls.{Call, verdict_yes, call_written}

-- A call that decides choice number k of the tree t and was not refused, whatever stood in the lent buffers before.
pub record ChoiceCall (n : ℕ) (L : List ℤ) (t : Tree) (k : ℕ) : Type 0 where
  pub answer : Result (Option ℕ) ConditionRefusal
  pub before : Lent
  pub after : Lent
  pub promised : DecidesChoice n L (tree_numbers t) k answer before after
  pub not_refused : NotRefused answer

-- A call that looks for the first choice of the tree t with a solution and was not refused.
pub record FirstCall (n : ℕ) (L : List ℤ) (t : Tree) : Type 0 where
  pub answer : Result (Option ℕ) ConditionRefusal
  pub before : ModelLent
  pub after : ModelLent
  pub promised : AnswersFirst n L (tree_numbers t) answer before after
  pub not_refused : NotRefused answer

pub choice_answers : (k : ℕ) (v : Bool) → NotRefused (choice_found k v)
choice_answers k true r e = never (cc)
choice_answers k false r e = never (cc)

pub first_answers : (total k : ℕ) → NotRefused (first_found_lem total k)
first_answers total k = go (ltb k total)
  where
    go : (t : Bool) → NotRefused (cond t (Ok (Some k)) (Ok None))
    go true r e = never (cc)
    go false r e = never (cc)

pub yes_or_no : (v : Bool) → Answered (cond v (Ok decide.Yes) (Ok decide.No))
yes_or_no true r e = never (cc)
yes_or_no false r e = never (cc)

-- ---- the tree
-- it was taken: it fits in a list of m lines, and none of its nodes has too many choices
pub record TakenTree (m : ℕ) (t : Tree) : Type 0 where
  pub fits : Fits m AllOf levels t
  pub few : overs_of t ≡ []
  pub same : tree_in (tree_numbers t) m ≡ t

pub taken_tree : (m : ℕ) (t : Tree) (b : Node) → valid_tree_lem (tree_numbers t) m ≡ Ok b → TakenTree m t × (b.choices ≡ count AllOf t)
taken_tree m t b e =
    let k = taken (tree_numbers t) m b e in
    let same : tree_in (tree_numbers t) m ≡ t = sym (one_tree t _ k.numbers.numbered) in
    (record { fits = subst (Fits m AllOf levels) same k.numbers.fits; few = ap overs_of (sym same) ∙ k.few; same = same }, k.counted ∙ ap (count AllOf) same)

-- ---- a choice
module _ {n : ℕ} {L : List ℤ} {t : Tree} {k : ℕ} (c : ChoiceCall n L t k) where
  answered : NotRefused (choice_answer_for n L (tree_numbers t) k c.before)
  answered r e = c.not_refused r (c.promised.is ∙ e)

  ok : ChoiceTaken n L (tree_numbers t) k c.before
  ok = choice_taken n L (tree_numbers t) k c.before answered

  pub choice_list_law : validity_of n L ≡ Ok tt
  choice_list_law = ok.list

  pub choice_tree : TakenTree (line_count L) t × (k < count AllOf t)
  choice_tree =
      let r = choice_read (tree_numbers t) (line_count L) k ok.root ok.read in
      let m = taken_tree (line_count L) t ok.root r.0 in
      (m.0, omega (arith, r.1, m.1))

  same : tree_over L (tree_numbers t) ≡ t
  same = choice_tree.0.same

  pub choice_works : Workable n (choice_list L t k)
  choice_works = workable n (choice_list L t k) (choice_valid n L t k choice_list_law)

  pub choice_answer_law : (v : Bool) → choice_verdict n L t k ≡ v → c.answer ≡ choice_found k v
  choice_answer_law true e =
      let s = subst (λ (u : Tree). Solvable (lines_of (choice_list L u k))) (sym same) (yes_solvable n (choice_list L t k) choice_works e) in
      c.promised.is ∙ (choice_yes_exactly n L (tree_numbers t) k c.before answered).1 s
  choice_answer_law false e =
      let f = subst (λ (u : Tree). Solvable (lines_of (choice_list L u k)) → ⊥) (sym same) (no_unsolvable n (choice_list L t k) choice_works e) in
      c.promised.is ∙ (choice_no_exactly n L (tree_numbers t) k c.before answered).1 f

  pub choice_left : (v : Bool) → choice_verdict n L t k ≡ v → ChoiceLeaves n L t k (choice_found k v) c.before c.after
  choice_left v e =
      subst (λ (x : Result (Option ℕ) ConditionRefusal). ChoiceLeaves n L t k x c.before c.after) (choice_answer_law v e)
      (subst (λ (u : Tree). ChoiceLeaves n L u k c.answer c.before c.after) same c.promised.leaves)

  -- with these buffers a valid list is answered by its verdict
  pub choice_decides : (K : List ℤ) → validity_of n K ≡ Ok tt → answer_for n K c.before ≡ cond (verdict_of n (lines_of K)) (Ok decide.Yes) (Ok decide.No)
  unfolding decide_answer
  choice_decides K v = rw (ok_decide n K c.before (record { list = v; rooms = ok.rooms }))

  -- it is a call of deciding the choice's list
  unfoldable pub as_call : Call n (choice_list L t k)
  as_call =
      record {
        answer = cond (choice_verdict n L t k) (Ok decide.Yes) (Ok decide.No);
        before = c.before;
        after = c.after;
        decided = record { is = sym (choice_decides (choice_list L t k) (choice_valid n L t k choice_list_law)); leaves = go (choice_verdict n L t k) refl };
        not_refused = yes_or_no (choice_verdict n L t k);
      }
    where
      go : (v : Bool) → choice_verdict n L t k ≡ v → Leaves n (choice_list L t k) (cond v (Ok decide.Yes) (Ok decide.No)) c.before c.after
      go true e = choice_left true e
      go false e = (choice_left false e).leaves

  -- the answer tells the verdict
  pub choice_yes : c.answer ≡ Ok (Some k) → choice_verdict n L t k ≡ true
  choice_yes e = go (choice_verdict n L t k) refl
    where
      go : (v : Bool) → choice_verdict n L t k ≡ v → v ≡ true
      go true p = refl
      go false p = never (cc (sym (choice_answer_law false p) ∙ e))

  pub choice_no : c.answer ≡ Ok None → choice_verdict n L t k ≡ false
  choice_no e = go (choice_verdict n L t k) refl
    where
      go : (v : Bool) → choice_verdict n L t k ≡ v → v ≡ false
      go true p = never (cc (sym (choice_answer_law true p) ∙ e))
      go false p = refl

  pub choice_written : c.answer ≡ Ok (Some k) → Written n (lines_of (choice_list L t k)) (model_in_lem n c.after) (bounds_in n c.after) (groups_in n c.after)
  unfolding as_call
  choice_written e = call_written as_call (verdict_yes as_call (choice_yes e))

  -- on a yes it is a call of deciding the lines picked, as a list of their own
  unfoldable pub as_alone : c.answer ≡ Ok (Some k) → Call n (picked_list L (choice_at t k))
  as_alone e =
      let K : List ℤ = picked_list L (choice_at t k) in
      let valid : validity_of n K ≡ Ok tt = picked_valid L (choice_at t k) n choice_list_law in
      let solutions : SameSolutions (lines_of (choice_list L t k)) (lines_of K) = rw (list_picked L (choice_at t k)) (choice_solutions L t k) in
      let yes_verdict = choice_yes e in
      let left : OnYes n (choice_list L t k) c.before c.after = choice_left true yes_verdict in
      let written = same_written n (choice_list L t k) K choice_works (workable n K valid) solutions yes_verdict in
      let verdict : verdict_of n (lines_of K) ≡ true = sym (same_verdict n (choice_list L t k) K choice_works (workable n K valid) solutions) ∙ yes_verdict in
      record {
        answer = Ok decide.Yes;
        before = c.before;
        after = c.after;
        decided =
            record {
              is = sym (choice_decides K valid ∙ ap (λ (v : Bool). cond v (Ok decide.Yes) (Ok decide.No)) verdict);
              leaves =
                  record {
                    model = left.model ∙ ap (λ (m : List ℤ). m ++ drop (model_room_lem n) c.before.model) written.0;
                    bounds = left.bounds ∙ ap (λ (m : List ℤ). m ++ drop (bounds_room_lem n) c.before.bounds) written.1;
                    groups = left.groups ∙ ap (λ (m : List ℕ). m ++ drop (groups_room_lem n) c.before.groups) written.2;
                    refutation = left.refutation;
                    identifiers = left.identifiers;
                    work = left.work;
                  };
            };
        not_refused = yes_or_no true;
      }

  -- on a no the identifiers are those of the whole list's lines
  pub choice_identifiers : c.answer ≡ Ok None → identifiers_in c.after ≡ identifiers_of L (refutation_in c.after)
  choice_identifiers e =
      let w = choice_left false (choice_no e) in
      let R = w.leaves.numbers in
      rw (refutation_in_law w.leaves, steps_in_law w.leaves) (ap (take (steps_in R)) w.identifiers ∙ take_at (identifiers_of L R) _ _ (length_identifiers L R))

-- ---- the first choice
module _ {n : ℕ} {L : List ℤ} {t : Tree} (c : FirstCall n L t) where
  first_answered : NotRefused (first_answer_for n L (tree_numbers t) c.before)
  first_answered r e = c.not_refused r (c.promised.is ∙ e)

  first_ok : FirstTaken n L (tree_numbers t) c.before
  first_ok = first_taken n L (tree_numbers t) c.before first_answered

  pub first_list : validity_of n L ≡ Ok tt
  first_list = first_ok.list

  pub first_tree : TakenTree (line_count L) t
  first_tree = (taken_tree (line_count L) t first_ok.root first_ok.read).0

  first_same : tree_over L (tree_numbers t) ≡ t
  first_same = first_tree.same

  -- what its answer means
  pub first_condition : ((k : ℕ) × (c.answer ≡ Ok (Some k))) ↔ ((a : Assignment) × Condition L t a)
  first_condition =
      let law = first_yes_exactly n L (tree_numbers t) c.before first_answered in
      subst (λ (u : Tree). ((k : ℕ) × (c.answer ≡ Ok (Some k))) ↔ ((a : Assignment) × Condition L u a)) first_same
      ((λ y. law.0 (y.0, sym c.promised.is ∙ y.1)), (λ h. let y = law.1 h in (y.0, c.promised.is ∙ y.1)))

  pub first_none : (c.answer ≡ Ok None) ↔ ((a : Assignment) → Condition L t a → ⊥)
  first_none =
      let law = first_no_exactly n L (tree_numbers t) c.before first_answered in
      subst (λ (u : Tree). (c.answer ≡ Ok None) ↔ ((a : Assignment) → Condition L u a → ⊥)) first_same
      ((λ e. law.0 (sym c.promised.is ∙ e)), (λ f. c.promised.is ∙ law.1 f))

  pub first_found : (k : ℕ) → c.answer ≡ Ok (Some k) → FirstSolvable n L t k × Condition L t (assignment_of (model_of n (lines_of (choice_list L t k))))
  first_found k e =
      subst (λ (u : Tree). FirstSolvable n L u k × Condition L u (assignment_of (model_of n (lines_of (choice_list L u k))))) first_same
      (first_yes n L (tree_numbers t) c.before first_answered k (sym c.promised.is ∙ e))

  -- what it leaves
  pub first_model : (k : ℕ) → c.answer ≡ Ok (Some k) → c.after.model ≡ model_of n (lines_of (choice_list L t k)) ++ drop (model_room_lem n) c.before.model
  first_model k e = c.promised.model ∙ ap₂ (λ (u : Tree) (x : Result (Option ℕ) ConditionRefusal). model_left n L u x c.before.model) first_same e

  pub first_no_model : c.answer ≡ Ok None → c.after.model ≡ c.before.model
  first_no_model e = c.promised.model ∙ ap₂ (λ (u : Tree) (x : Result (Option ℕ) ConditionRefusal). model_left n L u x c.before.model) first_same e

  pub first_work : c.after.work ≡ cleared n c.before.work
  first_work = c.promised.work ∙ go c.answer c.not_refused
    where
      go : (x : Result (Option ℕ) ConditionRefusal) → NotRefused x → work_left n x c.before.work ≡ cleared n c.before.work
      go (Ok (Some k)) h = refl
      go (Ok None) h = refl
      go (Err r) h = absurd (h r refl)
