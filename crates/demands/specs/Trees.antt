-- What was asked of conditions with alternatives, in the words of docs/SPECIFICATION.md, each statement proved by citing the rest: a tree over the lines of a list,
-- its choices, and the answers to both questions about it.
--
-- A reader has to believe what a tree is, with its numbers (`Row`, `tree_numbers` in tree_reading/specs/Tree.antt), what is at fault in numbers and when they are
-- refused (`Fault` in Faults.antt and `TreeRefused` in Refused.antt beside it, `ChoiceRefused` in tree_choices/specs/Missing.antt), the choices (`choices` in
-- tree_reading/specs/Choices.antt), the tree as a formula (`Condition` in tree_lists/specs/Condition.antt), the lines that a choice picks (`picked_lines` in
-- tree_answers/specs/Picked.antt), what a call is (`ChoiceCall` and `FirstCall` in TreeCalls.antt) and the words of Demands.antt, and nothing of how the answers
-- are computed. The promises of the code are `DecidesChoice` and `AnswersFirst` (tree_deciding/specs/Answer.antt), for every input; the exported functions
-- return `ChoiceReturns` and `FirstReturns`.
use Rattle.tree_reading.specs.declared.Node.{Node}
use Rattle.std.specs.Prelude.{◌≡◌, ◌↔◌, ◌⊎◌, Bool, true, false, List, [], ◌∷◌, ◌++◌, ℕ, ◌+◌, ◌*◌, ◌<◌, ◌≤◌, ℤ, pos, length, get_or, take, Err, None, Ok, Option, Result, Some}
use Rattle.std.proofs.Math.Path.{refl, sym, ap}
use Rattle.std.proofs.Common.{ap₂, subst, ◌∙◌, inl, inr, ⊎_elim, append-nil, arith}
use Rattle.std.proofs.Math.ListN.{drop}
use Rattle.std.proofs.Math.Seq.{take_at, drop_at, ext_get_or}
use Rattle.integers.specs.Integer.{◌⩽◌, Within}
use Rattle.integers.specs.Laws.{never}
use Rattle.integers.specs.Sequence.{length_tabulate}
use Rattle.lines.specs.declared.Line.{Line}
use Rattle.lines.specs.Limits.{max_constant}
use Rattle.lines.specs.declared.Refusal.{Refusal}
use Rattle.lines.specs.Line.{line_at, line_count, lines_of, Assignment, assignment_of, Meets, Solvable, SameSolutions, is_false_lem}
use Rattle.lines.specs.Refusal.{validity_of}
use Rattle.lines.specs.Valid.{Workable, valid_list, workable}
use Rattle.check_soundness.specs.Head.{kind_of, steps_in}
use Rattle.check_soundness.specs.Carried.{EachStep}
use Rattle.theory_answers.specs.Semantics.{IsModel, AlwaysZero, SameVariable, Written}
use Rattle.theory_bounds.specs.Answers.{model_of, bounds_of, groups_of}
use Rattle.theory_answers.specs.Meaning.{computed_written, only_model}
use Rattle.theory_answers.specs.Refuted.{Due, due_refutation}
use Rattle.theory_answers.specs.Decided.{DueKind, lines_ok, names_the_lowest, solvable_yes, unsolvable_no, due_accepted, accepted_no, kind_due}
use Rattle.theory_answers.specs.Longer.{no_stays, yes_before, least_stays_or_rises, greatest_stays_or_falls, groups_kept, equal_kept, different_kept, model_kept}
use Rattle.theory_answers.specs.Same.{written_too}
use Rattle.decide_buffers.specs.Room.{Lent, lengths_of, ModelLent, model_lengths_of, model_room_lem, work_room_lem, model_rooms, lent_rooms, first_short, rooms_validity}
use Rattle.decide_identifiers.specs.Identifiers.{length_identifiers, identifier_whole}
use Rattle.decide.specs.declared.Answer.TheVariants as decide
use Rattle.decide.specs.Decided.{cleared, DecideOk}
use Rattle.decide.specs.Parts.{model_in_lem, bounds_in, groups_in, refutation_in, identifiers_in, model_in as model_at}
use Rattle.c_codes.specs.Codes.{no_code}
use Rattle.tree_reading.specs.declared.Kind.{Kind}
use Rattle.tree_reading.specs.declared.Kind.TheVariants.{AllOf, AnyOf}
use Rattle.tree_reading.specs.Tree.{Row as Tree, tree_numbers, max_depth, levels, Fits}
use Rattle.tree_reading.specs.Choices.{joined, choices, count, overs_of}
use Rattle.tree_reading.specs.Shape.{Alternates, depth_of, Listed, shape, fits, depth_levels}
use Rattle.tree_reading.specs.declared.TreeRefusal.{TreeRefusal}
use Rattle.tree_reading.specs.Reading.{valid_tree_lem}
use Rattle.tree_reading.specs.Numbers.{one_tree}
use Rattle.tree_reading.specs.Counted.{count_choices}
use Rattle.tree_reading.specs.Faults.{Fault, FirstFault}
use Rattle.tree_reading.specs.FirstFault.{one_first, Faultless, tree_or_fault, tree_has_no_fault}
use Rattle.tree_reading.specs.Refused.{NumbersOf, TreeRefused, tree_refused, tree_taken}
use Rattle.tree_choices.specs.Choosing.{choice_of}
use Rattle.tree_choices.specs.Missing.{ChoiceRefused, choice_refused_exactly}
use Rattle.tree_lists.specs.Condition.{choice_list, Condition, choice_meets, choice_valid}
use Rattle.tree_answers.specs.First.{choice_verdict, first_choice, FirstSolvable, only_first}
use Rattle.tree_answers.specs.Small.{choice_model_small}
use Rattle.tree_answers.specs.Order.{earlier_first, later_behind, last_fastest}
use Rattle.tree_answers.specs.Picked.{choice_at, Picks, picked_lines, picked_list, list_picked, StepOf, PickedKind, LowestFalsePicked, choice_solutions, choice_solvable, choice_refutes, choice_accepted, kind_picked, picked_false, lowest_picked}
use Rattle.tree_answers.specs.Longer.{PicksThese, Added, choice_entails, counts_too, meets_added}
use Rattle.tree_deciding.specs.declared.ConditionRefusal.{ConditionRefusal}
use Rattle.tree_deciding.specs.declared.ConditionRefusal.TheVariants as refusal
use Rattle.tree_deciding.specs.Answer.{TreeValidity, valid, refused, ◌or_next◌, of_deciding, of_tree, unless_refused, choice_validity, first_validity, tree_over, choice_answer, first_answer, choice_answer_for, first_answer_for, DecidesChoice, AnswersFirst}
use Rattle.tree_deciding.specs.Refusal.{condition_number, condition_place, one_condition}
use Rattle.tree_deciding.specs.Meaning.{NotRefused}
use Rattle.c_trees.specs.declared.CChoice.{CChoice}
use Rattle.c_trees.specs.Calls.{refused_result, choice_returned, FirstReturns, ChoiceReturns}
use Rattle.c_trees.specs.Laws.{refusal_told, choices_apart}
use Rattle.demands.specs.Calls.{Call, call_yes, call_no, verdict_yes, verdict_no, call_due}
use Rattle.demands.specs.Refusals.{Row, list_table, rooms_table, FirstApplies}
use Rattle.demands.specs.Refused.{Gives, gives_refused, list_gives, rooms_give}
use Rattle.demands.specs.Demands.{ValidFor, Accepted, EachIdentifier, GoOnSharing, right_answer}
use Rattle.demands.specs.TreeCalls.{choice_answers, first_answers, ChoiceCall, FirstCall, choice_list_law, choice_tree, choice_answer_law, choice_left, choice_yes, choice_no, choice_written, as_call, as_alone, choice_identifiers, first_list, first_tree, first_condition, first_none, first_found, first_model, first_no_model, first_work}
use Rattle.demands.specs.TreeVersions.{right_choice, right_choice_keeps, right_first, right_first_keeps}
use Rattle.demands.specs.TreeExists.{a_choice_call, a_first_call, choice_call_of, first_call_of}

-- ---- a tree and its numbers

-- A tree fits in a list of m lines exactly if all-of nodes hold lines and any-of nodes, any-of nodes hold lines and all-of nodes, its depth is at most the greatest, and
-- its lines are in the list. (The root is all-of, and t are its children.)
pub fits_exactly_if : (m : ℕ) (t : Tree) → Fits m AllOf levels t ↔ (Alternates AllOf t × (depth_of t ≤ max_depth) × Listed m t)
fits_exactly_if m t = (
  (λ f. let s = shape m AllOf levels t f in (s.alternates, depth_levels t s.low, s.listed)),
  (λ h. fits m AllOf levels t (record { alternates = h.0; low = omega (arith, h.1); listed = h.2 })),
)

-- No two trees have the same numbers.
pub numbers_of_one_tree : (t u : Tree) → tree_numbers t ≡ tree_numbers u → t ≡ u
numbers_of_one_tree = one_tree

-- Numbers are refused, by 41, 42 or 40, or else they are the numbers of one tree that fits, without a node that has too many choices; and not both.
pub refused_or_one_tree : (s : List ℕ) (m : ℕ)
    → ((r : TreeRefusal) × TreeRefused s m r) ⊎ ((t : Tree) × NumbersOf s m t × (overs_of t ≡ []) × ((u : Tree) → NumbersOf s m u → u ≡ t) × ((r : TreeRefusal) → TreeRefused s m r → ⊥))
refused_or_one_tree s m = go (valid_tree_lem s m) refl
  where
    go : (x : Result Node TreeRefusal) → valid_tree_lem s m ≡ x
        → ((r : TreeRefusal) × TreeRefused s m r) ⊎ ((t : Tree) × NumbersOf s m t × (overs_of t ≡ []) × ((u : Tree) → NumbersOf s m u → u ≡ t) × ((r : TreeRefusal) → TreeRefused s m r → ⊥))
    go (Err r) e = inl (r, (tree_refused s m r).0 e)
    go (Ok b) e =
        let t = tree_taken s m b e in
        inr (t.0, t.1, t.2, (λ u d. one_tree u t.0 (sym d.numbered ∙ t.1.numbered)), (λ r f. never (cc (sym e ∙ (tree_refused s m r).1 f))))

-- Apart from 40: numbers are those of a tree that fits, and then nothing is at fault; or something is, and then there is a first fault, the one with the lowest index,
-- and of those the one with 42.
pub tree_or_first_fault : (s : List ℕ) (m : ℕ) → Faultless s m ⊎ ((r : TreeRefusal) × FirstFault s m r)
tree_or_first_fault = tree_or_fault

pub no_fault_in_a_tree : (t : Tree) (m : ℕ) → Fits m AllOf levels t → (q : TreeRefusal) → Fault (tree_numbers t) m q → ⊥
no_fault_in_a_tree = tree_has_no_fault

pub one_first_fault : (s : List ℕ) (m : ℕ) (r q : TreeRefusal) → FirstFault s m r → FirstFault s m q → r ≡ q
one_first_fault = one_first

-- ---- its choices

-- There are as many as are counted: a line has one choice, any-of the sum of its children's, all-of the product.
pub as_many_as_counted : (k : Kind) (children : Tree) → length (choices k children) ≡ count k children
as_many_as_counted = count_choices

-- The choices of a child, a line's being the one that picks it, are joined with those of the children after it. In any-of those of an earlier branch come first, and
-- those of the branches after it follow in their order.
pub earlier_branch_first : (child after : List (List ℕ)) (i : ℕ) → i < length child → get_or (joined AnyOf child after) i [] ≡ get_or child i []
earlier_branch_first = earlier_first

pub later_branches_follow : (child after : List (List ℕ)) (j : ℕ) → get_or (joined AnyOf child after) (length child + j) [] ≡ get_or after j []
later_branches_follow = later_behind

-- In all-of each choice of a child comes with each choice of the children after it, and these change faster.
pub last_child_fastest : (child after : List (List ℕ)) (i j : ℕ) → i < length child → j < length after
    → get_or (joined AllOf child after) (i * length after + j) [] ≡ get_or child i [] ++ get_or after j []
last_child_fastest = last_fastest

-- ---- refusals

-- The list's; then what is at fault with the tree, as `Faulty` says; then 7 and 8.
pub data RefusedBy (n : ℕ) (L : List ℤ) (Faulty : TreeRefusal → Type 0) (rooms : List Row) : ConditionRefusal → Type 1 where
  by_list : (r : Refusal) → FirstApplies (list_table n L) r → RefusedBy n L Faulty rooms (refusal.Deciding r)
  by_tree : ValidFor n L → (r : TreeRefusal) → Faulty r → RefusedBy n L Faulty rooms (refusal.Tree r)
  by_room : ValidFor n L → ((q : TreeRefusal) → Faulty q → ⊥) → (r : Refusal) → FirstApplies rooms r → RefusedBy n L Faulty rooms (refusal.Deciding r)

-- what is computed is refused exactly so
module _ (n : ℕ) (L : List ℤ) (Faulty : TreeRefusal → Type 0) (rooms : List Row) (x : Result Node TreeRefusal) (w : Result Unit Refusal)
    (tree : (q : TreeRefusal) → (x ≡ Err q) ↔ Faulty q) (room : Gives rooms w) where
  abbrev computed : TreeValidity
  computed = of_deciding (validity_of n L) or_next of_tree x or_next of_deciding w

  first_refused : (r : ConditionRefusal) (u : Result Unit Refusal) → validity_of n L ≡ u → (y : Result Node TreeRefusal) → x ≡ y → (v : Result Unit Refusal) → w ≡ v
      → (of_deciding u or_next of_tree y or_next of_deciding v) ≡ refused r → RefusedBy n L Faulty rooms r
  first_refused r (Err q) e y p v o h = let same : refusal.Deciding q ≡ r = cc in subst (RefusedBy n L Faulty rooms) same (by_list q ((gives_refused (list_gives n L) q).0 e))
  first_refused r (Ok _) e (Err q) p v o h = let same : refusal.Tree q ≡ r = cc in subst (RefusedBy n L Faulty rooms) same (by_tree e q ((tree q).0 p))
  first_refused r (Ok _) e (Ok b) p (Err q) o h =
      let same : refusal.Deciding q ≡ r = cc in
      subst (RefusedBy n L Faulty rooms) same (by_room e (λ f g. never (cc (sym p ∙ (tree f).1 g))) q ((gives_refused room q).0 o))
  first_refused r (Ok _) e (Ok b) p (Ok _) o h = absurd (never {A = ⊥} (cc))

  refused_first : (r : ConditionRefusal) → RefusedBy n L Faulty rooms r → computed ≡ refused r
  refused_first _ (by_list r f) = rw ((gives_refused (list_gives n L) r).1 f)
  refused_first _ (by_tree v r f) = rw (v, (tree r).1 f)
  refused_first _ (by_room v none r f) = rw (v, (gives_refused room r).1 f) (go x refl)
    where
      go : (y : Result Node TreeRefusal) → x ≡ y → (of_tree y or_next refused (refusal.Deciding r)) ≡ refused (refusal.Deciding r)
      go (Ok b) p = refl
      go (Err q) p = absurd (none q ((tree q).0 p))

  -- and so is the answer, where else it is no refusal
  answer_refused : (y : Result (Option ℕ) ConditionRefusal) → NotRefused y → (r : ConditionRefusal) → (unless_refused computed y ≡ Err r) ↔ RefusedBy n L Faulty rooms r
  answer_refused y h r = ((λ e. first_refused r (validity_of n L) refl x refl w refl (go computed e)), (λ f. ap (λ (v : TreeValidity). unless_refused v y) (refused_first r f)))
    where
      go : (v : TreeValidity) → unless_refused v y ≡ Err r → v ≡ refused r
      go valid e = absurd (h r e)
      go (refused q) e = cc

-- Deciding choice number k of the numbers s: of the tree it is 41 or 42 at the first fault, else 40 at the first node with too many choices, else 43 where it has at
-- most k choices. The call answers by the first refusal that applies, and by yes or no exactly if none does.
pub choice_refused_exactly_if : (n : ℕ) (L : List ℤ) (s : List ℕ) (k : ℕ) (x : Result (Option ℕ) ConditionRefusal) (b a : Lent) → DecidesChoice n L s k x b a
    → (r : ConditionRefusal) → (x ≡ Err r) ↔ RefusedBy n L (ChoiceRefused s (line_count L) k) (rooms_table lent_rooms n (lengths_of b)) r
unfolding choice_answer choice_validity rooms_validity
choice_refused_exactly_if n L s k x b a d r =
    let f = answer_refused n L (ChoiceRefused s (line_count L) k) (rooms_table lent_rooms n (lengths_of b)) (choice_of s (line_count L) k) (first_short lent_rooms n (lengths_of b))
    (choice_refused_exactly s (line_count L) k) (rooms_give lent_rooms n (lengths_of b)) _ (choice_answers k (choice_verdict n L (tree_over L s) k)) r in
    ((λ e. f.0 (sym d.is ∙ e)), (λ g. d.is ∙ f.1 g))

-- The first choice of the numbers s: as before without 43, and of what is lent the model and the work area.
pub first_refused_exactly_if : (n : ℕ) (L : List ℤ) (s : List ℕ) (x : Result (Option ℕ) ConditionRefusal) (b a : ModelLent) → AnswersFirst n L s x b a
    → (r : ConditionRefusal) → (x ≡ Err r) ↔ RefusedBy n L (TreeRefused s (line_count L)) (rooms_table model_rooms n (model_lengths_of b)) r
unfolding first_answer first_validity
first_refused_exactly_if n L s x b a d r =
    let f = answer_refused n L (TreeRefused s (line_count L)) (rooms_table model_rooms n (model_lengths_of b)) (valid_tree_lem s (line_count L)) (first_short model_rooms n (model_lengths_of b))
    (tree_refused s (line_count L)) (rooms_give model_rooms n (model_lengths_of b)) _ (first_answers (count AllOf (tree_over L s)) (first_choice n L (tree_over L s))) r in
    ((λ e. f.0 (sym d.is ∙ e)), (λ g. d.is ∙ f.1 g))

-- A refusal leaves every lent buffer as it was. That the calls end is part of their promises.
pub refused_choice_changes_nothing : (n : ℕ) (L : List ℤ) (s : List ℕ) (k : ℕ) (r : ConditionRefusal) (b a : Lent) → DecidesChoice n L s k (Err r) b a → a ≡ b
refused_choice_changes_nothing n L s k r b a d = d.leaves

pub refused_first_changes_nothing : (n : ℕ) (L : List ℤ) (s : List ℕ) (r : ConditionRefusal) (b a : ModelLent) → AnswersFirst n L s (Err r) b a → a ≡ b
refused_first_changes_nothing n L s r b a d = ap₂ both d.model d.work
  where
    both : List ℤ → List ℤ → ModelLent
    both m w = record { model = m; work = w }

-- ---- the calls that are not refused

-- Every call is answered or refused, whatever is asked and whatever stands in the buffers: what is stated here is of something.
pub choice_answers_exist : (n : ℕ) (L : List ℤ) (s : List ℕ) (k : ℕ) (b : Lent) → (x : Result (Option ℕ) ConditionRefusal) × (a : Lent) × DecidesChoice n L s k x b a
choice_answers_exist n L s k b = let o = right_choice n L s k b in (o.answer, o.after, right_choice_keeps n L s k b)

pub first_answers_exist : (n : ℕ) (L : List ℤ) (s : List ℕ) (b : ModelLent) → (x : Result (Option ℕ) ConditionRefusal) × (a : ModelLent) × AnswersFirst n L s x b a
first_answers_exist n L s b = let o = right_first n L s b in (o.answer, o.after, right_first_keeps n L s b)

-- A valid list, a tree that fits, without a node that has too many choices, one of its choices, and buffers that have room: there is a call that is not refused.
pub choice_calls_exist : (n : ℕ) (L : List ℤ) (t : Tree) → Fits (line_count L) AllOf levels t → overs_of t ≡ [] → (k : ℕ) → k < count AllOf t → (b : Lent) → DecideOk n L b
    → (c : ChoiceCall n L t k) × (c.before ≡ b)
choice_calls_exist = a_choice_call

pub first_calls_exist : (n : ℕ) (L : List ℤ) (t : Tree) → Fits (line_count L) AllOf levels t → overs_of t ≡ [] → (b : ModelLent) → ValidFor n L
    → model_room_lem n ≤ length b.model → work_room_lem n ≤ length b.work → (c : FirstCall n L t) × (c.before ≡ b)
first_calls_exist = a_first_call

-- Whatever numbers are not refused are those of a tree, so that what follows holds of every call that is not.
pub choice_is_of_a_tree : (n : ℕ) (L : List ℤ) (s : List ℕ) (x : Result (Option ℕ) ConditionRefusal) → NotRefused x → (k : ℕ) (b a : Lent) → DecidesChoice n L s k x b a
    → (t : Tree) × (s ≡ tree_numbers t) × (c : ChoiceCall n L t k) × (c.answer ≡ x) × (c.before ≡ b) × (c.after ≡ a)
choice_is_of_a_tree = choice_call_of

pub first_is_of_a_tree : (n : ℕ) (L : List ℤ) (s : List ℕ) (x : Result (Option ℕ) ConditionRefusal) → NotRefused x → (b a : ModelLent) → AnswersFirst n L s x b a
    → (t : Tree) × (s ≡ tree_numbers t) × (c : FirstCall n L t) × (c.answer ≡ x) × (c.before ≡ b) × (c.after ≡ a)
first_is_of_a_tree = first_call_of

-- ---- a choice

-- A refutation counts against the lines picked if the checker accepts it against the whole list and it takes steps of these lines alone.
pub record CountsAgainst (n : ℕ) (L : List ℤ) (xs R : List ℕ) : Type 0 where
  pub is_accepted : Accepted n L R
  pub steps : EachStep (StepOf L xs) R

-- One of the due kind: kind 3 with the lowest false line that is picked, or one with at most 4n steps in all, of kind 1 if a closed walk of negative sum of these
-- lines exists, else of kind 2.
pub record ShowsChoice (n : ℕ) (L : List ℤ) (xs R : List ℕ) : Type 0 where
  pub kind : PickedKind L xs (kind_of R)
  pub lowest : (i : ℕ) → Picks L xs i → is_false_lem (line_at L i) ≡ true → (j : ℕ) × LowestFalsePicked L xs j × (R ≡ 3 ∷ 1 ∷ 0 ∷ 2 * j ∷ [])
  pub few : (kind_of R ≡ 3 → ⊥) → steps_in R ≤ 4 * n
  pub counts : CountsAgainst n L xs R

shows_choice : (n : ℕ) (L : List ℤ) (t : Tree) (k : ℕ) (R : List ℕ) → ValidFor n L → Due n (choice_list L t k) R → ShowsChoice n L (choice_at t k) R
shows_choice n L t k R v d =
    let w = choice_valid n L t k v in
    let o = workable n (choice_list L t k) w in
    let a = (choice_accepted L t k n v R).0 (due_accepted n (choice_list L t k) w R d) in
    record {
      kind = kind_picked L t k (kind_of R) (subst (DueKind (choice_list L t k)) (sym d.kind) (kind_due n (choice_list L t k) o));
      lowest = λ i p e.
          let f = picked_false L t k i p e in
          let h = names_the_lowest n (choice_list L t k) o R d i f.0 f.1 in
          (h.0, lowest_picked L t k h.0 h.1, h.2);
      few = λ z. d.few (λ e. z (d.kind ∙ e));
      counts = record { is_accepted = a.0; steps = a.1 };
    }

-- Choice number k picks the lines `choice_at t k`; a line picked twice counts once, and lines keep list order and their own numbers (`picked_lines`).
pub record RightChoice (n : ℕ) (L : List ℤ) (t : Tree) (k : ℕ) (c : ChoiceCall n L t k) : Type 0 where
  -- It is yes, with the number that was asked for, exactly if whole numbers exist that meet every line picked; else it is no.
  pub yes_or_no : (c.answer ≡ Ok (Some k)) ⊎ (c.answer ≡ Ok None)
  pub yes_exactly : (c.answer ≡ Ok (Some k)) ↔ Solvable (picked_lines L (choice_at t k))
  pub no_exactly : (c.answer ≡ Ok None) ↔ (Solvable (picked_lines L (choice_at t k)) → ⊥)
  -- On a yes the one model, the tightest bounds and the groups are written. It is a call of deciding these lines as a list of their own, so that all that was
  -- demanded of such a call holds of it (`right_answer`), of what lies beyond and of the work area too.
  pub written : c.answer ≡ Ok (Some k) → Written n (picked_lines L (choice_at t k)) (model_in_lem n c.after) (bounds_in n c.after) (groups_in n c.after)
  pub decided_alone : c.answer ≡ Ok (Some k) → (d : Call n (picked_list L (choice_at t k))) × (d.answer ≡ Ok decide.Yes) × (d.before ≡ c.before) × (d.after ≡ c.after)
  -- On a no a refutation of the due kind and the identifiers of its steps are written and nothing else, and only as many numbers as they have.
  pub shown : c.answer ≡ Ok None → ShowsChoice n L (choice_at t k) (refutation_in c.after)
  pub identifiers : c.answer ≡ Ok None → EachIdentifier L (refutation_in c.after) (identifiers_in c.after)
  pub no_model : c.answer ≡ Ok None → (c.after.model ≡ c.before.model) × (c.after.bounds ≡ c.before.bounds) × (c.after.groups ≡ c.before.groups)
  pub refutation_only : c.answer ≡ Ok None → c.after.refutation ≡ refutation_in c.after ++ drop (length (refutation_in c.after)) c.before.refutation
  pub identifiers_only : c.answer ≡ Ok None → c.after.identifiers ≡ identifiers_in c.after ++ drop (length (identifiers_in c.after)) c.before.identifiers
  -- The named part of the work area is all zeros, and the rest is untouched.
  pub work : c.after.work ≡ cleared n c.before.work

pub right_choice_law : (n : ℕ) (L : List ℤ) (t : Tree) (k : ℕ) (c : ChoiceCall n L t k) → RightChoice n L t k c
unfolding as_call as_alone
right_choice_law n L t k c =
    let K = choice_list L t k in
    let d = as_call c in
    let r = right_answer n K d in
    let s = choice_solvable L t k in
    record {
      yes_or_no = either (choice_verdict n L t k) (choice_answer_law c true) (choice_answer_law c false);
      yes_exactly = (
        (λ e. s.0 (r.yes_exactly.0 (verdict_yes d (choice_yes c e)))),
        (λ h. choice_answer_law c true (call_yes d (r.yes_exactly.1 (s.1 h)))),
      );
      no_exactly = (
        (λ e h. r.no_exactly.0 (verdict_no d (choice_no c e)) (s.1 h)),
        (λ f. choice_answer_law c false (call_no d (r.no_exactly.1 (λ h. f (s.0 h))))),
      );
      written = λ e. written_too (lines_of K) (picked_lines L (choice_at t k)) (choice_solutions L t k) (choice_written c e);
      decided_alone = λ e. (as_alone c e, refl, refl, refl);
      shown = λ e. shows_choice n L t k (refutation_in c.after) (choice_list_law c) (call_due d (verdict_no d (choice_no c e)));
      identifiers = identified;
      no_model = λ e. r.no_model (verdict_no d (choice_no c e));
      refutation_only = λ e. r.refutation_only (verdict_no d (choice_no c e));
      identifiers_only = λ e. r.identifiers_only (verdict_no d (choice_no c e));
      work = r.work;
    }
  where
    either : {A B : Type 0} (v : Bool) → (v ≡ true → A) → (v ≡ false → B) → A ⊎ B
    either true f g = inl (f refl)
    either false f g = inr (g refl)

    identified : c.answer ≡ Ok None → EachIdentifier L (refutation_in c.after) (identifiers_in c.after)
    identified e =
        let R = refutation_in c.after in
        let refutes = ((choice_refutes L t k R).0 (call_due (as_call c) (verdict_no (as_call c) (choice_no c e))).refutes).0 in
        rw (choice_identifiers c e) (record { count = length_identifiers L R; each = identifier_whole n L R (valid_list n L (choice_list_law c)).lines refutes })

-- ---- demand 3 of choices

-- One claim over any two calls that were not refused, on a choice of a list L and on a choice of K, which is L or L lengthened at its end, that picks these lines and
-- perhaps others. (That the others have higher numbers than all of these is not needed.)
pub record ChoiceUnlearned (n : ℕ) (L K : List ℤ) (t u : Tree) (k j : ℕ) (c : ChoiceCall n L t k) (d : ChoiceCall n K u j) : Type 0 where
  -- A no hands over a refutation of the due kind, and the checker accepts it against the whole list.
  pub shown : c.answer ≡ Ok None → ShowsChoice n L (choice_at t k) (refutation_in c.after)
  -- The answer is no exactly if some refutation counts against it, whoever proposed it.
  pub no_exactly_if_refuted : (c.answer ≡ Ok None) ↔ ((R : List ℕ) × CountsAgainst n L (choice_at t k) R)
  -- What counts against it counts against the other, unchanged.
  pub counts_stays : (R : List ℕ) → CountsAgainst n L (choice_at t k) R → CountsAgainst n K (choice_at u j) R
  -- A no stays a no; and if the longer is a yes, so is the shorter.
  pub no_stays_no : c.answer ≡ Ok None → d.answer ≡ Ok None
  pub yes_was_yes : d.answer ≡ Ok (Some j) → c.answer ≡ Ok (Some k)
  -- Where both are a yes: least values stay or rise and greatest stay or fall, as the numbers written, absent ones included.
  pub least : c.answer ≡ Ok (Some k) → d.answer ≡ Ok (Some j) → (x : ℕ) → x < n
      → get_or (bounds_in n c.after) (2 * x) (pos 0) ⩽ get_or (bounds_in n d.after) (2 * x) (pos 0)
  pub greatest : c.answer ≡ Ok (Some k) → d.answer ≡ Ok (Some j) → (x : ℕ) → x < n
      → get_or (bounds_in n d.after) (2 * x + 1) (pos 0) ⩽ get_or (bounds_in n c.after) (2 * x + 1) (pos 0)
  -- Two events in one group stay in one group, equal ones equal and mirrored ones mirrored.
  pub groups : c.answer ≡ Ok (Some k) → d.answer ≡ Ok (Some j) → (x y : ℕ) → x < n → y < n
      → SameVariable (groups_in n c.after) x y → GoOnSharing (picked_list K (choice_at u j)) (groups_in n c.after) (groups_in n d.after) x y
  -- The model is the same exactly if the shorter list's model meets every added line.
  pub model : c.answer ≡ Ok (Some k) → d.answer ≡ Ok (Some j)
      → (model_in_lem n d.after ≡ model_in_lem n c.after) ↔ ((i : ℕ) → Added L K (choice_at t k) (choice_at u j) i → Meets (assignment_of (model_in_lem n c.after)) (line_at K i))

lengthened : (n : ℕ) (L M : List ℤ) (t u : Tree) (k j : ℕ) (c : ChoiceCall n L t k) (d : ChoiceCall n (L ++ M) u j)
    → PicksThese L (L ++ M) (choice_at t k) (choice_at u j) → ChoiceUnlearned n L (L ++ M) t u k j c d
lengthened n L M t u k j c d these =
    let K = choice_list L t k in
    let N = choice_list (L ++ M) u j in
    let v = choice_list_law c in
    let w = choice_list_law d in
    let o = workable n K (choice_valid n L t k v) in
    let p = workable n N (choice_valid n (L ++ M) u j w) in
    let whole = (valid_list n L v).whole in
    let more = choice_entails L M whole t u k j these in
    let r = right_choice_law n L t k c in
    record {
      shown = r.shown;
      no_exactly_if_refuted = (
        (λ e. (refutation_in c.after, (r.shown e).counts)),
        (λ h. choice_answer_law c false (accepted_no n K (choice_valid n L t k v) h.0 ((choice_accepted L t k n v h.0).1 (h.1.is_accepted, h.1.steps)))),
      );
      counts_stays = λ R h. let a = counts_too L M whole t u k j these n v w R (h.is_accepted, h.steps) in record { is_accepted = a.0; steps = a.1 };
      no_stays_no = λ e. choice_answer_law d false (no_stays n K N o p more (choice_no c e));
      yes_was_yes = λ e. choice_answer_law c true (yes_before n K N o p more (choice_yes d e));
      least = λ a b. least_stays_or_rises n K N o p more _ _ _ _ _ _ (choice_written c a) (choice_written d b);
      greatest = λ a b. greatest_stays_or_falls n K N o p more _ _ _ _ _ _ (choice_written c a) (choice_written d b);
      groups = λ a b x y h i e.
          record {
            variable = groups_kept n K N o p more _ _ _ _ _ _ (choice_written c a) (choice_written d b) x y h i e;
            equal = equal_kept n K N o p more _ _ _ _ _ _ (choice_written c a) (choice_written d b) x y h i e;
            different = λ z. zero_too (different_kept n K N o p more _ _ _ _ _ _ (choice_written c a) (choice_written d b) x y h i e z);
          };
      model = λ a b.
          let same = model_kept n K N o p more _ _ _ _ _ _ (choice_written c a) (choice_written d b) in
          let added = meets_added L M whole t u k j these _ (choice_written c a).model_is.solves in
          ((λ e. added.0 (same.0 e)), (λ f. same.1 (added.1 f)));
    }
  where
    solutions : SameSolutions (lines_of (choice_list (L ++ M) u j)) (lines_of (picked_list (L ++ M) (choice_at u j)))
    solutions = rw (list_picked (L ++ M) (choice_at u j)) (choice_solutions (L ++ M) u j)

    zero_too : {A : Type 0} {x y : ℕ} → A ⊎ (AlwaysZero (lines_of (choice_list (L ++ M) u j)) x × AlwaysZero (lines_of (choice_list (L ++ M) u j)) y)
        → A ⊎ (AlwaysZero (lines_of (picked_list (L ++ M) (choice_at u j))) x × AlwaysZero (lines_of (picked_list (L ++ M) (choice_at u j))) y)
    zero_too (inl a) = inl a
    zero_too (inr z) = inr ((λ s h. z.0 s ((solutions s).1 h)), (λ s h. z.1 s ((solutions s).1 h)))

pub choice_unlearned : (n : ℕ) (L M K : List ℤ) → K ≡ L ++ M → (t u : Tree) (k j : ℕ) (c : ChoiceCall n L t k) (d : ChoiceCall n K u j)
    → PicksThese L K (choice_at t k) (choice_at u j) → ChoiceUnlearned n L K t u k j c d
choice_unlearned n L M K e t u k j c =
    subst (λ (N : List ℤ). (d : ChoiceCall n N u j) → PicksThese L N (choice_at t k) (choice_at u j) → ChoiceUnlearned n L N t u k j c d) (sym e) (lengthened n L M t u k j c)

-- So of two choices of one list, of the same tree or of two.
pub choice_unlearned_in_one_list : (n : ℕ) (L : List ℤ) (t u : Tree) (k j : ℕ) (c : ChoiceCall n L t k) (d : ChoiceCall n L u j)
    → PicksThese L L (choice_at t k) (choice_at u j) → ChoiceUnlearned n L L t u k j c d
choice_unlearned_in_one_list n L = choice_unlearned n L [] L (sym (append-nil L))

-- ---- the first choice with a solution

pub record FirstWithSolution (L : List ℤ) (t : Tree) (k : ℕ) : Type 0 where
  pub below : k < count AllOf t
  pub solvable : Solvable (picked_lines L (choice_at t k))
  pub earlier : (j : ℕ) → j < k → Solvable (picked_lines L (choice_at t j)) → ⊥

-- m are the values of the one model of these lines
pub record ModelOf (n : ℕ) (ls : List Line) (m : List ℤ) : Type 0 where
  pub model_length : length m ≡ n
  pub model_is : IsModel n ls (assignment_of m)

pub record RightFirst (n : ℕ) (L : List ℤ) (t : Tree) (c : FirstCall n L t) : Type 0 where
  -- It is yes exactly if some assignment meets the condition, the tree read as a formula, and no exactly if none does.
  pub yes_exactly : ((k : ℕ) × (c.answer ≡ Ok (Some k))) ↔ ((s : Assignment) × Condition L t s)
  pub no_exactly : (c.answer ≡ Ok None) ↔ ((s : Assignment) → Condition L t s → ⊥)
  -- The number is that of the first choice with a solution.
  pub number_exactly : (k : ℕ) → (c.answer ≡ Ok (Some k)) ↔ FirstWithSolution L t k
  -- Its model is written: the one that deciding this choice writes. It meets the condition, and nothing else has its meaning.
  pub model : (k : ℕ) → c.answer ≡ Ok (Some k) → ModelOf n (picked_lines L (choice_at t k)) (take (model_room_lem n) c.after.model)
  pub only_model : (k : ℕ) → c.answer ≡ Ok (Some k) → (m : List ℤ) → ModelOf n (picked_lines L (choice_at t k)) m → m ≡ take (model_room_lem n) c.after.model
  pub meets : (k : ℕ) → c.answer ≡ Ok (Some k) → Condition L t (assignment_of (take (model_room_lem n) c.after.model))
  pub as_decided : (k : ℕ) → c.answer ≡ Ok (Some k) → (d : ChoiceCall n L t k) → (d.answer ≡ Ok (Some k)) × (model_in_lem n d.after ≡ take (model_room_lem n) c.after.model)
  -- On a no each choice is a no, and there is a refutation of each.
  pub each_is_no : c.answer ≡ Ok None → (k : ℕ) (d : ChoiceCall n L t k) → d.answer ≡ Ok None
  pub each_is_shown : c.answer ≡ Ok None → (k : ℕ) → k < count AllOf t → (R : List ℕ) × ShowsChoice n L (choice_at t k) R
  -- A no writes no model, and what lies beyond its room is untouched.
  pub no_model : c.answer ≡ Ok None → c.after.model ≡ c.before.model
  pub beyond_model : drop (model_room_lem n) c.after.model ≡ drop (model_room_lem n) c.before.model
  -- The named part of the work area is all zeros, and the rest is untouched.
  pub work : c.after.work ≡ cleared n c.before.work

module _ {n : ℕ} {L : List ℤ} {t : Tree} (c : FirstCall n L t) where
  works : (k : ℕ) → Workable n (choice_list L t k)
  works k = workable n (choice_list L t k) (choice_valid n L t k (first_list c))

  yes_at : (k : ℕ) → c.answer ≡ Ok (Some k) → choice_verdict n L t k ≡ true
  yes_at k e = solvable_yes n (choice_list L t k) (works k) (first_found c k e).0.solvable

  first_lines : (k : ℕ) → FirstSolvable n L t k ↔ FirstWithSolution L t k
  first_lines k = (
    (λ f. record { below = f.below; solvable = (choice_solvable L t k).0 f.solvable; earlier = λ j l s. f.earlier j l ((choice_solvable L t j).1 s) }),
    (λ f. record { below = f.below; solvable = (choice_solvable L t k).1 f.solvable; earlier = λ j l s. f.earlier j l ((choice_solvable L t j).0 s) }),
  )

  -- there is one first choice with a solution, and where there is one some assignment meets the condition
  number_of : (k : ℕ) → FirstSolvable n L t k → c.answer ≡ Ok (Some k)
  number_of k f =
      let v = first_list c in
      let s = f.solvable in
      let y = (first_condition c).1 (s.assignment, choice_meets L t s.assignment (first_tree c).fits k f.below s.solves) in
      let same : y.0 ≡ k = only_first n L t v y.0 (first_found c y.0 y.1).0 ∙ sym (only_first n L t v k f) in
      y.1 ∙ ap (λ (j : ℕ). Ok (Some j)) same

  model_in : (k : ℕ) → c.answer ≡ Ok (Some k) → take (model_room_lem n) c.after.model ≡ model_of n (lines_of (choice_list L t k))
  unfolding model_of
  model_in k e = ap (take (model_room_lem n)) (first_model c k e) ∙ take_at (model_of n (lines_of (choice_list L t k))) _ (model_room_lem n) (length_tabulate (model_room_lem n) _)

  no_at : c.answer ≡ Ok None → (k : ℕ) → k < count AllOf t → choice_verdict n L t k ≡ false
  no_at e k l =
      unsolvable_no n (choice_list L t k) (works k)
      (λ s. (first_none c).0 e s.assignment (choice_meets L t s.assignment (first_tree c).fits k l s.solves))

  written : (k : ℕ) → c.answer ≡ Ok (Some k)
      → Written n (picked_lines L (choice_at t k)) (model_of n (lines_of (choice_list L t k))) (bounds_of n (lines_of (choice_list L t k))) (groups_of n (lines_of (choice_list L t k)))
  written k e =
      let K = choice_list L t k in
      written_too (lines_of K) (picked_lines L (choice_at t k)) (choice_solutions L t k) (computed_written n (lines_of K) (lines_ok n K (works k)) (yes_at k e))

  one_model : (k : ℕ) → c.answer ≡ Ok (Some k) → (m : List ℤ) → ModelOf n (picked_lines L (choice_at t k)) m → m ≡ model_of n (lines_of (choice_list L t k))
  unfolding model_of
  one_model k e m h =
      let K = choice_list L t k in
      let same = choice_solutions L t k in
      let moved : IsModel n (lines_of K) (assignment_of m) =
      record { solves = (same _).1 h.model_is.solves; nearest = λ x l s g a. h.model_is.nearest x l s ((same s).0 g) a } in
      let one = only_model n (lines_of K) (lines_ok n K (works k)) (yes_at k e) (assignment_of m) moved in
      ext_get_or (pos 0) m (model_of n (lines_of K)) (h.model_length ∙ sym (length_tabulate n _)) (λ x l. one x (omega (arith, h.model_length)))

  beyond_first : drop (model_room_lem n) c.after.model ≡ drop (model_room_lem n) c.before.model
  unfolding model_of
  beyond_first = go c.answer refl
    where
      go : (x : Result (Option ℕ) ConditionRefusal) → c.answer ≡ x → drop (model_room_lem n) c.after.model ≡ drop (model_room_lem n) c.before.model
      go (Ok (Some k)) e = ap (drop (model_room_lem n)) (first_model c k e) ∙ drop_at (model_of n (lines_of (choice_list L t k))) _ (model_room_lem n) (length_tabulate (model_room_lem n) _)
      go (Ok None) e = ap (drop (model_room_lem n)) (first_no_model c e)
      go (Err r) e = absurd (c.not_refused r e)

pub right_first_law : (n : ℕ) (L : List ℤ) (t : Tree) (c : FirstCall n L t) → RightFirst n L t c
right_first_law n L t c =
    record {
      yes_exactly = first_condition c;
      no_exactly = first_none c;
      number_exactly = λ k. ((λ e. (first_lines c k).0 (first_found c k e).0), (λ f. number_of c k ((first_lines c k).1 f)));
      model = λ k e. let w = written c k e in rw (model_in c k e) (record { model_length = w.model_length; model_is = w.model_is });
      only_model = λ k e m h. one_model c k e m h ∙ sym (model_in c k e);
      meets = λ k e. rw (model_in c k e) (first_found c k e).1;
      as_decided = λ k e d. (choice_answer_law d true (yes_at c k e), model_at (choice_left d true (yes_at c k e)) ∙ sym (model_in c k e));
      each_is_no = λ e k d. choice_answer_law d false (no_at c e k (choice_tree d).1);
      each_is_shown = λ e k l. let r = due_refutation n (choice_list L t k) (no_at c e k l) in (r.0, shows_choice n L t k r.0 (first_list c) r.1);
      no_model = first_no_model c;
      beyond_model = beyond_first c;
      work = first_work c;
    }

-- Every value of a model lies within n times the limit on d, of a choice that was asked for and of the first.
pub choice_model_within : (n : ℕ) (L : List ℤ) (t : Tree) (k : ℕ) (c : ChoiceCall n L t k) → c.answer ≡ Ok (Some k)
    → (x : ℕ) → x < n → Within (n * max_constant) (get_or (model_in_lem n c.after) x (pos 0))
choice_model_within n L t k c e x h = rw (model_at (choice_left c true (choice_yes c e))) (choice_model_small n L t (choice_list_law c) k (choice_yes c e) x h)

pub first_model_within : (n : ℕ) (L : List ℤ) (t : Tree) (c : FirstCall n L t) (k : ℕ) → c.answer ≡ Ok (Some k)
    → (x : ℕ) → x < n → Within (n * max_constant) (get_or (take (model_room_lem n) c.after.model) x (pos 0))
first_model_within n L t c k e x h = rw (model_in c k e) (choice_model_small n L t (first_list c) k (yes_at c k e) x h)

-- ---- the exported calls

-- What C gets: a yes with the number of the choice, a no, or a refusal with its number and its place.
abbrev pub yes_returned : ℕ → CChoice
yes_returned k = record { result = pos 0; refusal = 0; place = 0; choice = k }

abbrev pub no_returned : ℕ → CChoice
no_returned k = record { result = pos no_code; refusal = 0; place = 0; choice = k }

abbrev pub refusal_returned : ConditionRefusal → CChoice
refusal_returned q = record { result = refused_result; refusal = condition_number q; place = condition_place q; choice = 0 }

-- A result other than -1 is that of a call which was not refused, on the tree that has these numbers, so that all this holds of it. The choice is the one asked for.
pub record ReturnedChoice (n : ℕ) (L : List ℤ) (s : List ℕ) (k : ℕ) (r : CChoice) (b a : Lent) : Type 0 where
  pub tree : Tree
  pub numbered : s ≡ tree_numbers tree
  pub call : ChoiceCall n L tree k
  pub before : call.before ≡ b
  pub after : call.after ≡ a
  pub yes : (call.answer ≡ Ok (Some k)) ↔ (r ≡ yes_returned k)
  pub no : (call.answer ≡ Ok None) ↔ (r ≡ no_returned k)
  pub yes_or_no : (r ≡ yes_returned k) ⊎ (r ≡ no_returned k)

-- Of the first choice the number found is returned, and 0 where none has a solution.
pub record ReturnedFirst (n : ℕ) (L : List ℤ) (s : List ℕ) (r : CChoice) (b a : ModelLent) : Type 0 where
  pub tree : Tree
  pub numbered : s ≡ tree_numbers tree
  pub call : FirstCall n L tree
  pub before : call.before ≡ b
  pub after : call.after ≡ a
  pub yes : (k : ℕ) → (call.answer ≡ Ok (Some k)) ↔ (r ≡ yes_returned k)
  pub no : (call.answer ≡ Ok None) ↔ (r ≡ no_returned 0)
  pub yes_or_no : ((k : ℕ) × (r ≡ yes_returned k)) ⊎ (r ≡ no_returned 0)

-- the struct tells the answer, since no two answers have one
told : (asked : ℕ) (r : CChoice) (x : Result (Option ℕ) ConditionRefusal) → r ≡ choice_returned asked x → (y : Result (Option ℕ) ConditionRefusal) → (x ≡ y) ↔ (r ≡ choice_returned asked y)
told asked r x d y = ((λ e. d ∙ ap (choice_returned asked) e), (λ e. choices_apart asked x y (sym d ∙ e)))

module _ (n : ℕ) (L : List ℤ) (s : List ℕ) (k : ℕ) (r : CChoice) (b a : Lent) (d : ChoiceReturns n L s k r b a) where
  pub returned_choice_is_a_call : (r.result ≡ refused_result → ⊥) → ReturnedChoice n L s k r b a
  returned_choice_is_a_call h =
      let c = choice_call_of n L s (choice_answer_for n L s k b) (λ q e. h (ap (λ (z : CChoice). z.result) (d.is ∙ ap (choice_returned k) e))) k b a d.decides in
      let answer = told k r c.2.answer (d.is ∙ ap (choice_returned k) (sym c.3)) in
      record {
        tree = c.0;
        numbered = c.1;
        call = c.2;
        before = c.4;
        after = c.5;
        yes = answer (Ok (Some k));
        no = answer (Ok None);
        yes_or_no = ⊎_elim (λ e. inl ((answer (Ok (Some k))).0 e)) (λ e. inr ((answer (Ok None)).0 e)) (right_choice_law n L c.0 k c.2).yes_or_no;
      }

  -- -1 is the first refusal that applies, and then the buffers are as they were.
  pub choice_refusal_returned : (q : ConditionRefusal) → (r ≡ refusal_returned q) ↔ RefusedBy n L (ChoiceRefused s (line_count L) k) (rooms_table lent_rooms n (lengths_of b)) q
  choice_refusal_returned q =
      let f = choice_refused_exactly_if n L s k (choice_answer_for n L s k b) b a d.decides q in
      let t = told k r (choice_answer_for n L s k b) d.is (Err q) in
      ((λ e. f.0 (t.1 e)), (λ g. t.0 (f.1 g)))

  pub returned_choice_refusal_changes_nothing : r.result ≡ refused_result → a ≡ b
  returned_choice_refusal_changes_nothing e =
      let q = refusal_told k (choice_answer_for n L s k b) (ap (λ (z : CChoice). z.result) (sym d.is) ∙ e) in
      refused_choice_changes_nothing n L s k q.0 b a (subst (λ (x : Result (Option ℕ) ConditionRefusal). DecidesChoice n L s k x b a) q.1 d.decides)

module _ (n : ℕ) (L : List ℤ) (s : List ℕ) (r : CChoice) (b a : ModelLent) (d : FirstReturns n L s r b a) where
  pub returned_first_is_a_call : (r.result ≡ refused_result → ⊥) → ReturnedFirst n L s r b a
  returned_first_is_a_call h =
      let c = first_call_of n L s (first_answer_for n L s b) (λ q e. h (ap (λ (z : CChoice). z.result) (d.is ∙ ap (choice_returned 0) e))) b a d.answers in
      let answer = told 0 r c.2.answer (d.is ∙ ap (choice_returned 0) (sym c.3)) in
      record {
        tree = c.0;
        numbered = c.1;
        call = c.2;
        before = c.4;
        after = c.5;
        yes = λ k. answer (Ok (Some k));
        no = answer (Ok None);
        yes_or_no = either c.2.answer c.2.not_refused (λ k e. (answer (Ok (Some k))).0 e) (λ e. (answer (Ok None)).0 e);
      }
    where
      either : (x : Result (Option ℕ) ConditionRefusal) → NotRefused x → ((k : ℕ) → x ≡ Ok (Some k) → r ≡ yes_returned k) → (x ≡ Ok None → r ≡ no_returned 0) → ((k : ℕ) × (r ≡ yes_returned k)) ⊎ (r ≡ no_returned 0)
      either (Ok (Some k)) u f g = inl (k, f k refl)
      either (Ok None) u f g = inr (g refl)
      either (Err q) u f g = absurd (u q refl)

  pub first_refusal_returned : (q : ConditionRefusal) → (r ≡ refusal_returned q) ↔ RefusedBy n L (TreeRefused s (line_count L)) (rooms_table model_rooms n (model_lengths_of b)) q
  first_refusal_returned q =
      let f = first_refused_exactly_if n L s (first_answer_for n L s b) b a d.answers q in
      let t = told 0 r (first_answer_for n L s b) d.is (Err q) in
      ((λ e. f.0 (t.1 e)), (λ g. t.0 (f.1 g)))

  pub returned_first_refusal_changes_nothing : r.result ≡ refused_result → a ≡ b
  returned_first_refusal_changes_nothing e =
      let q = refusal_told 0 (first_answer_for n L s b) (ap (λ (z : CChoice). z.result) (sym d.is) ∙ e) in
      refused_first_changes_nothing n L s q.0 b a (subst (λ (x : Result (Option ℕ) ConditionRefusal). AnswersFirst n L s x b a) q.1 d.answers)

-- A refusal is known by its number and its place, and no two answers are returned alike.
pub refusals_apart : (q p : ConditionRefusal) → condition_number q ≡ condition_number p → condition_place q ≡ condition_place p → q ≡ p
refusals_apart = one_condition

pub choices_returned_apart : (asked : ℕ) (x y : Result (Option ℕ) ConditionRefusal) → choice_returned asked x ≡ choice_returned asked y → x ≡ y
choices_returned_apart = choices_apart
