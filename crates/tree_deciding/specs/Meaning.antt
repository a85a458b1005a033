-- What the answers on a tree mean, without any algorithm: of the first question whether some assignment meets the condition, of a choice whether its lines
-- have a solution; and that a choice's refutation is one of the whole list with steps of the lines picked alone.
use Rattle.tree_reading.specs.declared.TreeRefusal.{TreeRefusal}
use Rattle.lines.specs.declared.Refusal.{Refusal}
use Rattle.std.specs.Prelude.{◌≡◌, refl, ◌↔◌, Bool, true, false, List, ℕ, ◌≤◌, ℤ, Err, None, Ok, Option, Result, Some}
use Rattle.std.proofs.Common.{sym, subst, ◌∙◌, arith}
use Rattle.std.proofs.Math.Path.{ap}
use Rattle.integers.specs.Laws.{never}
use Rattle.integers.specs.Lowest.{lowest_at_most}
use Rattle.lines.specs.Line.{line_count, lines_of, Assignment, assignment_of, Solvable}
use Rattle.lines.specs.Refusal.{validity_of}
use Rattle.lines.specs.Valid.{Workable, workable}
use Rattle.check_answers.specs.declared.CheckAnswer.TheVariants as check
use Rattle.check_refutation.specs.Answer.{refutation_answer}
use Rattle.check_soundness.specs.Carried.{EachStep}
use Rattle.theory_bounds.specs.Answers.{model_of}
use Rattle.theory_answers.specs.Refuted.{Due}
use Rattle.theory_answers.specs.Decided.{yes_solvable, no_unsolvable, solvable_yes, unsolvable_no}
use Rattle.decide_buffers.specs.Room.{Lent, lengths_of, lent_rooms, ModelLent, model_lengths_of, model_rooms, HaveRoom, none_short, valid_room}
use Rattle.tree_reading.specs.declared.Kind.TheVariants.{AllOf}
use Rattle.tree_reading.specs.Tree.{Row, Fits, levels}
use Rattle.tree_reading.specs.Choices.{count}
use Rattle.tree_reading.specs.declared.Node.{Node}
use Rattle.tree_reading.specs.Reading.{valid_tree_lem}
use Rattle.tree_reading.specs.Numbers.{one_tree}
use Rattle.tree_reading.specs.Refused.{NumbersOf}
use Rattle.tree_reading.specs.Taken.{taken}
use Rattle.tree_choices.specs.Choosing.{choice_of}
use Rattle.tree_lists.specs.Refuted.{PickedStep}
use Rattle.tree_lists.specs.Condition.{choice_flags, choice_list, Condition, choice_valid}
use Rattle.tree_answers.specs.First.{choice_verdict, first_choice, FirstSolvable, first_solvable, yes_exactly, no_exactly, model_meets, due_picked}
use Rattle.tree_deciding.specs.declared.ConditionRefusal.{ConditionRefusal}
use Rattle.tree_deciding.specs.Answer.{TreeValidity, valid, refused, ◌or_next◌, of_deciding, of_tree, choice_validity, first_validity, unless_refused, tree_over, choice_found, first_found_lem, choice_answer, first_answer, choice_answer_for, first_answer_for, ChoiceNo}
use Rattle.tree_deciding.specs.Found.{found_yes, found_no, yes_found, no_found}

abbrev pub NotRefused : Result (Option ℕ) ConditionRefusal → Type 0
NotRefused x = (r : ConditionRefusal) → x ≡ Err r → ⊥

-- ---- what is answered is valid
or_valid : (u v : TreeValidity) → (u or_next v) ≡ valid → (u ≡ valid) × (v ≡ valid)
or_valid valid v e = (refl, e)
or_valid (refused r) v e = never (cc)

deciding_valid : (v : Result Unit Refusal) → of_deciding v ≡ valid → v ≡ Ok tt
deciding_valid (Ok _) e = refl
deciding_valid (Err r) e = never (cc)

tree_valid : (r : Result Node TreeRefusal) → of_tree r ≡ valid → (b : Node) × (r ≡ Ok b)
tree_valid (Ok b) e = (b, refl)
tree_valid (Err r) e = never (cc)

answered_valid : (v : TreeValidity) (x : Result (Option ℕ) ConditionRefusal) → NotRefused (unless_refused v x) → v ≡ valid
answered_valid valid x h = refl
answered_valid (refused r) x h = absurd (h r refl)

-- the list is valid, s are the numbers of a tree over it with few enough choices, and there is room
pub record FirstTaken (n : ℕ) (L : List ℤ) (s : List ℕ) (b : ModelLent) : Type 0 where
  pub list : validity_of n L ≡ Ok tt
  pub root : Node
  pub read : valid_tree_lem s (line_count L) ≡ Ok root
  pub rooms : HaveRoom model_rooms n (model_lengths_of b)

pub first_taken : (n : ℕ) (L : List ℤ) (s : List ℕ) (b : ModelLent) → NotRefused (first_answer_for n L s b) → FirstTaken n L s b
unfolding first_answer first_validity
first_taken n L s b h =
    let p = or_valid (of_deciding (validity_of n L)) _ (answered_valid (first_validity n L s (model_lengths_of b)) _ h) in
    let q = or_valid (of_tree (valid_tree_lem s (line_count L))) _ p.1 in
    let r = tree_valid (valid_tree_lem s (line_count L)) q.0 in
    record { list = deciding_valid _ p.0; root = r.0; read = r.1; rooms = none_short model_rooms n (model_lengths_of b) (deciding_valid _ q.1) }

-- the same, and the tree has choice k
pub record ChoiceTaken (n : ℕ) (L : List ℤ) (s : List ℕ) (k : ℕ) (b : Lent) : Type 0 where
  pub list : validity_of n L ≡ Ok tt
  pub root : Node
  pub read : choice_of s (line_count L) k ≡ Ok root
  pub rooms : HaveRoom lent_rooms n (lengths_of b)

pub choice_taken : (n : ℕ) (L : List ℤ) (s : List ℕ) (k : ℕ) (b : Lent) → NotRefused (choice_answer_for n L s k b) → ChoiceTaken n L s k b
unfolding choice_answer choice_validity
choice_taken n L s k b h =
    let p = or_valid (of_deciding (validity_of n L)) _ (answered_valid (choice_validity n L s k (lengths_of b)) _ h) in
    let q = or_valid (of_tree (choice_of s (line_count L) k)) _ p.1 in
    let r = tree_valid (choice_of s (line_count L) k) q.0 in
    record { list = deciding_valid _ p.0; root = r.0; read = r.1; rooms = valid_room n (lengths_of b) (deciding_valid _ q.1) }

-- the tree that the answers speak of is the one that has the numbers s
pub one_taken : (L : List ℤ) (s : List ℕ) (root : Node) → valid_tree_lem s (line_count L) ≡ Ok root → (t : Row) → NumbersOf s (line_count L) t → tree_over L s ≡ t
one_taken L s root e t d = one_tree (tree_over L s) t (sym (taken s (line_count L) root e).numbers.numbered ∙ d.numbered)

-- ---- the first question
module _ (n : ℕ) (L : List ℤ) (s : List ℕ) (b : ModelLent) (answered : NotRefused (first_answer_for n L s b)) where
  abbrev tree : Row
  tree = tree_over L s

  ok : FirstTaken n L s b
  ok = first_taken n L s b answered

  fits : Fits (line_count L) AllOf levels tree
  fits = (taken s (line_count L) ok.root ok.read).numbers.fits

  first_is : first_answer_for n L s b ≡ first_found_lem (count AllOf tree) (first_choice n L tree)
  unfolding first_answer
  first_is = ap (λ (v : TreeValidity). unless_refused v (first_found_lem (count AllOf tree) (first_choice n L tree)))
      (answered_valid (first_validity n L s (model_lengths_of b)) (first_found_lem (count AllOf tree) (first_choice n L tree)) answered)

  -- yes exactly if some assignment meets the condition
  pub first_yes_exactly : ((k : ℕ) × (first_answer_for n L s b ≡ Ok (Some k))) ↔ ((a : Assignment) × Condition L tree a)
  first_yes_exactly = (
    (λ y. (yes_exactly n L tree ok.list fits).0 (yes_found (count AllOf tree) (first_choice n L tree) y.0 (sym first_is ∙ y.1)).0),
    (λ c.
        let below = (yes_exactly n L tree ok.list fits).1 c in
        (first_choice n L tree, first_is ∙ found_yes (count AllOf tree) (first_choice n L tree) below)),
  )

  -- no exactly if none does
  pub first_no_exactly : (first_answer_for n L s b ≡ Ok None) ↔ ((a : Assignment) → Condition L tree a → ⊥)
  first_no_exactly = (
    (λ e.
        let high = no_found (count AllOf tree) (first_choice n L tree) (sym first_is ∙ e) in
        (no_exactly n L tree ok.list fits).0 (omega (arith, high, lowest_at_most (choice_verdict n L tree) (count AllOf tree)))),
    (λ f.
        let all_tried : count AllOf tree ≤ first_choice n L tree = omega (arith, (no_exactly n L tree ok.list fits).1 f) in
        first_is ∙ found_no (count AllOf tree) (first_choice n L tree) all_tried),
  )

  -- the choice is the first with a solution, and its model meets the condition
  pub first_yes : (k : ℕ) → first_answer_for n L s b ≡ Ok (Some k) → FirstSolvable n L tree k × Condition L tree (assignment_of (model_of n (lines_of (choice_list L tree k))))
  first_yes k e =
      let f = yes_found (count AllOf tree) (first_choice n L tree) k (sym first_is ∙ e) in
      subst (λ (j : ℕ). FirstSolvable n L tree j × Condition L tree (assignment_of (model_of n (lines_of (choice_list L tree j))))) f.1
      (first_solvable n L tree ok.list f.0, model_meets n L tree ok.list fits f.0)

-- ---- a choice
verdict_yes : (k : ℕ) (t : Bool) → choice_found k t ≡ Ok (Some k) → t ≡ true
verdict_yes k true e = refl
verdict_yes k false e = never (cc)

verdict_no : (k : ℕ) (t : Bool) → choice_found k t ≡ Ok None → t ≡ false
verdict_no k true e = never (cc)
verdict_no k false e = refl

module _ (n : ℕ) (L : List ℤ) (s : List ℕ) (k : ℕ) (b : Lent) (answered : NotRefused (choice_answer_for n L s k b)) where
  abbrev listed : List ℤ
  listed = choice_list L (tree_over L s) k

  works : Workable n listed
  works = workable n listed (choice_valid n L (tree_over L s) k (choice_taken n L s k b answered).list)

  choice_is : choice_answer_for n L s k b ≡ choice_found k (choice_verdict n L (tree_over L s) k)
  unfolding choice_answer
  choice_is = ap (λ (v : TreeValidity). unless_refused v (choice_found k (choice_verdict n L (tree_over L s) k)))
      (answered_valid (choice_validity n L s k (lengths_of b)) (choice_found k (choice_verdict n L (tree_over L s) k)) answered)

  pub choice_yes_exactly : (choice_answer_for n L s k b ≡ Ok (Some k)) ↔ Solvable (lines_of listed)
  choice_yes_exactly = (
    (λ e. yes_solvable n listed works (verdict_yes k _ (sym choice_is ∙ e))),
    (λ h. choice_is ∙ ap (choice_found k) (solvable_yes n listed works h)),
  )

  pub choice_no_exactly : (choice_answer_for n L s k b ≡ Ok None) ↔ (Solvable (lines_of listed) → ⊥)
  choice_no_exactly = (
    (λ e. no_unsolvable n listed works (verdict_no k _ (sym choice_is ∙ e))),
    (λ h. choice_is ∙ ap (choice_found k) (unsolvable_no n listed works h)),
  )

-- what refutes a choice: of the kind due to its list and with at most 4n steps, or that of its lowest false line; accepted against the whole list; each step is
-- of a line that the choice picks
pub record RefutesChoice (n : ℕ) (L : List ℤ) (t : Row) (k : ℕ) (R : List ℕ) : Type 0 where
  pub due : Due n (choice_list L t k) R
  pub accepted : refutation_answer n L R ≡ Ok check.Yes
  pub picked : EachStep (PickedStep (choice_flags L t k) L) R

pub choice_refuted : (n : ℕ) (L : List ℤ) (t : Row) (k : ℕ) → validity_of n L ≡ Ok tt → {b a : Lent} (c : ChoiceNo n L t k b a) → RefutesChoice n L t k c.leaves.numbers
choice_refuted n L t k v c =
    let p = due_picked n L t v k c.leaves.numbers c.leaves.due in
    record { due = c.leaves.due; accepted = p.0; picked = p.1 }
