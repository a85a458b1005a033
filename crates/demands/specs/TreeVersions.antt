-- Versions of the two calls about a tree that go wrong in one thing, each a definition, and at a named tree what breaks the promise. Beside them the versions that
-- keep it, so that those break it only by what they do otherwise.
use Rattle.tree_reading.specs.declared.TreeRefusal.{TreeRefusal}
use Rattle.tree_reading.specs.declared.Node.{Node}
use Rattle.tree_deciding.specs.declared.ConditionRefusal.{ConditionRefusal}
use Rattle.lines.specs.declared.Refusal.{Refusal}
use Rattle.std.specs.Prelude.{◌≡◌, refl, Bool, true, false, cond, List, [], ◌∷◌, ◌++◌, map, ℕ, zero, suc, ◌+◌, ◌*◌, ◌<◌, ltb, ℤ, pos, neg_ℤ, length, get_or, drop, replicate, Err, None, Ok, Option, Result, Some}
use Rattle.std.proofs.Common.{sym, ap, ◌∙◌, arith}
use Rattle.std.proofs.Math.Path.{subst}
use Rattle.integers.specs.Laws.{never}
use Rattle.integers.specs.Lowest.{lowest}
use Rattle.lines.specs.declared.Line.{Line}
use Rattle.lines.specs.Line.{line_numbers_lem, numbers_of, line_at, line_count, lines_of, is_false_lem}
use Rattle.lines.specs.Refusal.{line_tests, lines_validity_lem, validity_of}
use Rattle.steps.specs.Table.{entry, digit}
use Rattle.steps.specs.Step.{step_of, steps_of}
use Rattle.theory_walks.specs.Negative.{no_negative}
use Rattle.theory_bounds.specs.Verdict.{has_false, first_false_lem, consistent_halves, verdict_of, due_kind}
use Rattle.decide_buffers.specs.Room.{Lent, lengths_of, ModelLent, model_lengths_of, work_room_lem, model_rooms, first_short, rooms_validity, decide_validity_lem}
use Rattle.decide.specs.declared.Answer.{Answer}
use Rattle.decide.specs.declared.Answer.TheVariants as decide
use Rattle.decide.specs.Decided.{decide_answer, answer_for, OnNo, Leaves}
use Rattle.tree_reading.specs.declared.Kind.{Kind}
use Rattle.tree_reading.specs.declared.Kind.TheVariants.{AllOf, AnyOf}
use Rattle.tree_reading.specs.Tree.{Row as Tree, none, line, node, tree_numbers, max_depth, levels, Fits}
use Rattle.tree_reading.specs.Choices.{max_choices, no_children, joined, unit_of, count, overs_of}
use Rattle.tree_reading.specs.declared.TreeRefusal.TheVariants.{TooManyChoices, Malformed}
use Rattle.tree_reading.specs.Reading.{line_head_lem, children_head_lem, head_of, children_of, node_of, whole_tree_lem, root_is_line_lem, tree_of, few_choices_lem, valid_tree_lem}
use Rattle.tree_reading.specs.Taken.{tree_in_law}
use Rattle.tree_choices.specs.Choosing.{marked, choice_of}
use Rattle.tree_choices.specs.Chosen.{choice_read}
use Rattle.tree_lists.specs.Masked.{masked_number_lem, masked}
use Rattle.tree_lists.specs.Condition.{flags_of, choice_list}
use Rattle.tree_lists.specs.Numbered.{numbered_list_law}
use Rattle.tree_answers.specs.First.{choice_verdict, first_choice}
use Rattle.tree_answers.specs.Picked.{choice_at}
use Rattle.tree_deciding.specs.declared.ConditionRefusal.TheVariants as refusal
use Rattle.tree_deciding.specs.Answer.{TreeValidity, valid, refused, ◌or_next◌, of_deciding, of_tree, choice_validity, first_validity, unless_refused, tree_over, choice_found, first_found_lem, choice_answer, first_answer, ChoiceNo, ChoiceLeaves, model_left, work_left, DecidesChoice, AnswersFirst}
use Rattle.tree_deciding.specs.Choice.{as_tree_answer_lem, listed_decides, decides}
use Rattle.tree_deciding.specs.Meaning.{choice_taken}
use Rattle.demands.specs.RightVersion.{right, right_keeps, room_with}
use Rattle.demands.specs.TreeCalls.{choice_answers}

-- ---- what a call gives back, and its promise, of any version of it
pub record Outcome : Type 0 where
  pub answer : Result (Option ℕ) ConditionRefusal
  pub after : Lent

pub record FirstOutcome : Type 0 where
  pub answer : Result (Option ℕ) ConditionRefusal
  pub after : ModelLent

abbrev pub Version : Type 0
Version = ℕ → List ℤ → List ℕ → ℕ → Lent → Outcome

abbrev pub FirstVersion : Type 0
FirstVersion = ℕ → List ℤ → List ℕ → ModelLent → FirstOutcome

abbrev pub Keeps : Version → Type 0
Keeps f = (n : ℕ) (L : List ℤ) (s : List ℕ) (k : ℕ) (b : Lent) → DecidesChoice n L s k (f n L s k b).answer b (f n L s k b).after

abbrev pub KeepsFirst : FirstVersion → Type 0
KeepsFirst f = (n : ℕ) (L : List ℤ) (s : List ℕ) (b : ModelLent) → AnswersFirst n L s (f n L s b).answer b (f n L s b).after

-- ---- versions that decide a choice: refused right, and else the verdict of one list, with what deciding another leaves
abbrev Listing : Type 0
Listing = List ℤ → Tree → ℕ → List ℤ

abbrev left_by : Result (Option ℕ) ConditionRefusal → (before after : Lent) → Lent
left_by (Ok (Some k)) b a = a
left_by (Ok None) b a = a
left_by (Err r) b a = b

abbrev outcome : Result (Option ℕ) ConditionRefusal → (before after : Lent) → Outcome
outcome x b a = record { answer = x; after = left_by x b a }

abbrev deciding : (verdicts lefts : Listing) → Version
deciding v w n L s k b =
    outcome (unless_refused (choice_validity n L s k (lengths_of b)) (choice_found k (verdict_of n (lines_of (v L (tree_over L s) k))))) b (right n (w L (tree_over L s) k) b).after

pub right_choice : Version
right_choice = deciding choice_list choice_list

-- ---- versions of the first choice: the tree read so, and else this answer, with what is due to it left
abbrev Reader : Type 0
Reader = Tree → List ℕ → ℕ → Result Node TreeRefusal

abbrev refused_by : Reader → ℕ → List ℤ → Tree → List ℕ → ModelLent → TreeValidity
refused_by f n L t s b = of_deciding (validity_of n L) or_next of_tree (f t s (line_count L)) or_next of_deciding (first_short model_rooms n (model_lengths_of b))

abbrev saying : Reader → (ℕ → List ℤ → Tree → Result (Option ℕ) ConditionRefusal) → ℕ → List ℤ → Tree → List ℕ → ModelLent → Result (Option ℕ) ConditionRefusal
saying f x n L t s b = unless_refused (refused_by f n L t s b) (x n L t)

abbrev first_left : ℕ → List ℤ → Tree → Result (Option ℕ) ConditionRefusal → ModelLent → FirstOutcome
first_left n L t x b = record { answer = x; after = record { model = model_left n L t x b.model; work = work_left n x b.work } }

abbrev looking : Reader → (ℕ → List ℤ → Tree → Result (Option ℕ) ConditionRefusal) → FirstVersion
looking f x n L s b = first_left n L (tree_over L s) (saying f x n L (tree_over L s) s b) b

abbrev rightly : Reader
rightly t s m = valid_tree_lem s m

abbrev first_of : ℕ → List ℤ → Tree → Result (Option ℕ) ConditionRefusal
first_of n L t = first_found_lem (count AllOf t) (first_choice n L t)

pub right_first : FirstVersion
right_first = looking rightly first_of

pub right_first_keeps : KeepsFirst right_first
unfolding right_first first_answer first_validity
right_first_keeps n L s b = record { is = refl; model = refl; work = refl }

-- deciding a choice's list as deciding is promised keeps the promise of the choice
choice_kept : (n : ℕ) (L : List ℤ) (s : List ℕ) (k : ℕ) (b : Lent) → choice_validity n L s k (lengths_of b) ≡ valid
    → DecidesChoice n L s k (as_tree_answer_lem k (right n (choice_list L (tree_over L s) k) b).answer) b (right n (choice_list L (tree_over L s) k) b).after
unfolding choice_answer
choice_kept n L s k b p =
    let found : Result (Option ℕ) ConditionRefusal = choice_found k (choice_verdict n L (tree_over L s) k) in
    let t = choice_taken n L s k b (λ r e. choice_answers k (choice_verdict n L (tree_over L s) k) r (sym (ap (λ (v : TreeValidity). unless_refused v found) p) ∙ e)) in
    let read = choice_read s (line_count L) k t.root t.read in
    let listed = listed_decides (sym (numbered_list_law s L t.root read.0 k read.1)) (right_keeps n (choice_list L (tree_over L s) k) b) refl in
    decides n L s k b t.list t.root t.read listed

pub right_choice_keeps : Keeps right_choice
unfolding right_choice choice_answer
right_choice_keeps n L s k b = record { is = refl; leaves = go (choice_validity n L s k (lengths_of b)) refl (choice_verdict n L (tree_over L s) k) refl }
  where
    left : choice_validity n L s k (lengths_of b) ≡ valid → (d : Bool) → choice_verdict n L (tree_over L s) k ≡ d → ChoiceLeaves n L (tree_over L s) k (choice_found k d) b (right n (choice_list L (tree_over L s) k) b).after
    left p d e =
        let kept = choice_kept n L s k b p in
        let found : choice_answer n L s k (lengths_of b) ≡ choice_found k d = rw (p, e) in
        subst (λ (x : Result (Option ℕ) ConditionRefusal). ChoiceLeaves n L (tree_over L s) k x b (right n (choice_list L (tree_over L s) k) b).after) (kept.is ∙ found) kept.leaves

    go : (v : TreeValidity) → choice_validity n L s k (lengths_of b) ≡ v → (d : Bool) → choice_verdict n L (tree_over L s) k ≡ d
        → ChoiceLeaves n L (tree_over L s) k (unless_refused v (choice_found k d)) b (left_by (unless_refused v (choice_found k d)) b (right n (choice_list L (tree_over L s) k) b).after)
    go (refused r) p d e = refl
    go valid p true e = left p true e
    go valid p false e = left p false e

-- ---- the inputs: no variables, buffers of exactly the room needed, and lines that say 0 ≤ 0 or 0 ≤ -1
abbrev holds : Line
holds = record { a = pos 0; x = pos 0; b = pos 0; y = pos 0; d = pos 0; identifier = pos 0 }

abbrev fails : Line
fails = record { a = pos 0; x = pos 0; b = pos 0; y = pos 0; d = neg_ℤ (pos 1); identifier = pos 0 }

abbrev room : Lent
room = room_with 0 0

abbrev first_room : ModelLent
first_room = record { model = []; work = replicate (work_room_lem 0) (pos 0) }

-- where nothing is refused, the promise compares with the answer on the tree itself
reads : (L : List ℤ) (t : Tree) → Fits (line_count L) AllOf levels t → overs_of t ≡ [] → tree_over L (tree_numbers t) ≡ t
reads L t f o = tree_in_law (tree_numbers t) (line_count L) t (record { fits = f; numbered = refl }) o

-- a refutation of kind 3 names the lowest false line
names_lowest : (n : ℕ) (K : List ℤ) {b a : Lent} → OnNo n K b a → due_kind n (lines_of K) ≡ 3 → get_or a.refutation 3 0 ≡ 2 * first_false_lem 0 (lines_of K)
names_lowest n K {b} w e = ap (λ (R : List ℕ). get_or R 3 0) (w.refutation ∙ ap (λ (R : List ℕ). R ++ drop (length R) b.refutation) (w.due.lowest e))

module _ (v w : Listing) (keeps : Keeps (deciding v w)) (n : ℕ) (L : List ℤ) (t : Tree) (k : ℕ) (b : Lent)
    (taken : choice_validity n L (tree_numbers t) k (lengths_of b) ≡ valid) (same : tree_over L (tree_numbers t) ≡ t) where
  said : choice_found k (verdict_of n (lines_of (v L t k))) ≡ choice_found k (choice_verdict n L t k)
  unfolding choice_answer
  said =
      subst (λ (u : Tree). choice_found k (verdict_of n (lines_of (v L u k))) ≡ choice_found k (choice_verdict n L u k)) same
      (subst (λ (x : TreeValidity). unless_refused x (choice_found k (verdict_of n (lines_of (v L (tree_over L (tree_numbers t)) k)))) ≡ unless_refused x (choice_found k (choice_verdict n L (tree_over L (tree_numbers t)) k))) taken
      (keeps n L (tree_numbers t) k b).is)

  -- on a no, what it leaves
  left_on_no : verdict_of n (lines_of (v L t k)) ≡ false → ChoiceNo n L t k b (right n (w L t k) b).after
  left_on_no e =
      subst (λ (d : Bool). ChoiceLeaves n L t k (choice_found k d) b (left_by (choice_found k d) b (right n (w L t k) b).after)) e
      (subst (λ (u : Tree). ChoiceLeaves n L u k (choice_found k (verdict_of n (lines_of (v L u k)))) b (left_by (choice_found k (verdict_of n (lines_of (v L u k)))) b (right n (w L u k) b).after)) same
      (subst (λ (x : TreeValidity). ChoiceLeaves n L (tree_over L (tree_numbers t)) k (unless_refused x (choice_found k (verdict_of n (lines_of (v L (tree_over L (tree_numbers t)) k))))) b
      (left_by (unless_refused x (choice_found k (verdict_of n (lines_of (v L (tree_over L (tree_numbers t)) k))))) b (right n (w L (tree_over L (tree_numbers t)) k) b).after)) taken
      (keeps n L (tree_numbers t) k b).leaves))

  -- where false lines are the reason, both lists have the same lowest one
  same_lowest : verdict_of n (lines_of (v L t k)) ≡ false → answer_for n (w L t k) b ≡ Ok decide.No → due_kind n (lines_of (choice_list L t k)) ≡ 3 → due_kind n (lines_of (w L t k)) ≡ 3
      → 2 * first_false_lem 0 (lines_of (choice_list L t k)) ≡ 2 * first_false_lem 0 (lines_of (w L t k))
  same_lowest e a d f =
      let r = right_keeps n (w L t k) b in
      let theirs : OnNo n (w L t k) b (right n (w L t k) b).after = subst (λ (x : Result Answer Refusal). Leaves n (w L t k) x b (right n (w L t k) b).after) (r.is ∙ a) r.leaves in
      sym (names_lowest n (choice_list L t k) (left_on_no e).leaves d) ∙ names_lowest n (w L t k) theirs f

-- the lines with these numbers, in a list in which each other line is 0 ≤ 0
abbrev masked_by : List ℤ → List ℕ → List ℤ
masked_by L xs = masked (flags_of (line_count L) xs) L

-- the same of the first choice
first_said : (f : Reader) (x : ℕ → List ℤ → Tree → Result (Option ℕ) ConditionRefusal) → KeepsFirst (looking f x) → (n : ℕ) (L : List ℤ) (t : Tree) (b : ModelLent) → tree_over L (tree_numbers t) ≡ t
    → saying f x n L t (tree_numbers t) b ≡ saying rightly first_of n L t (tree_numbers t) b
unfolding first_answer first_validity
first_said f x keeps n L t b same = subst (λ (u : Tree). saying f x n L u (tree_numbers t) b ≡ saying rightly first_of n L u (tree_numbers t) b) same (keeps n L (tree_numbers t) b).is

-- the choices of a node, a child's joined so with those of the children after it
abbrev choices_by : (Kind → List (List ℕ) → List (List ℕ) → List (List ℕ)) → Kind → Tree → List (List ℕ)
choices_by join k none = no_children k
choices_by join k (line i r) = join k ((i ∷ []) ∷ []) (choices_by join k r)
choices_by join k (node l c r) = join k (choices_by join l c) (choices_by join k r)

-- ---- the last child changes slowest
abbrev slow_pairs : List (List ℕ) → List (List ℕ) → List (List ℕ)
slow_pairs xs [] = []
slow_pairs xs (y ∷ ys) = map (λ (x : List ℕ). x ++ y) xs ++ slow_pairs xs ys

abbrev slow_joined : Kind → List (List ℕ) → List (List ℕ) → List (List ℕ)
slow_joined AllOf xs ys = slow_pairs xs ys
slow_joined AnyOf xs ys = joined AnyOf xs ys

abbrev slowly : Listing
slowly L t k = masked_by L (get_or (choices_by slow_joined AllOf t) k [])

pub last_child_slowest : Version
last_child_slowest = deciding slowly slowly

-- any of 0 and 1, and any of 2 and 3: choice 1 picks 0 and 3, and not 1 and 2, of which 1 fails
abbrev two_pairs : Tree
two_pairs = node AnyOf (line 0 (line 1 none)) (node AnyOf (line 2 (line 3 none)) none)

abbrev second_fails : List ℤ
second_fails = numbers_of (holds ∷ fails ∷ holds ∷ holds ∷ [])

two_pairs_read : (choice_validity 0 second_fails (tree_numbers two_pairs) 1 (lengths_of room) ≡ valid) × (tree_over second_fails (tree_numbers two_pairs) ≡ two_pairs)
unfolding numbers_of line_numbers_lem line_at choice_validity validity_of lines_validity_lem line_tests rooms_validity choice_of valid_tree_lem tree_of root_is_line_lem node_of head_of line_head_lem children_head_lem children_of
two_pairs_read = (refl, reads second_fails two_pairs (refl, (omega arith, (omega arith, tt)), (refl, (omega arith, (omega arith, tt)), tt)) refl)

pub last_child_slowest_breaks : Keeps last_child_slowest → ⊥
unfolding last_child_slowest numbers_of line_numbers_lem line_at choice_list masked_number_lem marked is_false_lem verdict_of has_false no_negative consistent_halves entry digit step_of steps_of
last_child_slowest_breaks keeps =
    let e : ◌≡◌ {A = Result (Option ℕ) ConditionRefusal} (Ok None) (Ok (Some 1)) = said slowly slowly keeps 0 second_fails two_pairs 1 room two_pairs_read.0 two_pairs_read.1 in never (cc)

-- ---- a line counted twice: the lines in the order in which they are picked, as often as they are, so that those behind get other numbers
abbrev as_picked : Listing
as_picked L t k = numbers_of (map (line_at L) (choice_at t k))

pub counts_twice : Version
counts_twice = deciding choice_list as_picked

-- line 0 twice, and line 1, which fails
abbrev first_twice : Tree
first_twice = line 0 (line 0 (line 1 none))

abbrev last_fails : List ℤ
last_fails = numbers_of (holds ∷ fails ∷ [])

first_twice_read : (choice_validity 0 last_fails (tree_numbers first_twice) 0 (lengths_of room) ≡ valid) × (tree_over last_fails (tree_numbers first_twice) ≡ first_twice)
unfolding numbers_of line_numbers_lem line_at choice_validity validity_of lines_validity_lem line_tests rooms_validity choice_of valid_tree_lem tree_of root_is_line_lem node_of head_of line_head_lem children_head_lem children_of
first_twice_read = (refl, reads last_fails first_twice (omega arith, (omega arith, (omega arith, tt))) refl)

-- step 2 is due, and not step 4
pub counts_twice_breaks : Keeps counts_twice → ⊥
unfolding counts_twice numbers_of line_numbers_lem line_at validity_of lines_validity_lem line_tests rooms_validity decide_validity_lem decide_answer choice_list masked_number_lem marked is_false_lem verdict_of has_false first_false_lem due_kind
counts_twice_breaks keeps =
    let e : 2 * 1 ≡ 2 * 2 = same_lowest choice_list as_picked keeps 0 last_fails first_twice 0 room first_twice_read.0 first_twice_read.1 refl refl refl refl in omega arith

-- ---- steps of a line that is not picked: on a no it hands over a refutation of the whole list
abbrev whole_list : Listing
whole_list L t k = L

pub refutes_whole : Version
refutes_whole = deciding choice_list whole_list

-- line 1 alone, of two that fail
abbrev second_alone : Tree
second_alone = line 1 none

abbrev both_fail : List ℤ
both_fail = numbers_of (fails ∷ fails ∷ [])

second_alone_read : (choice_validity 0 both_fail (tree_numbers second_alone) 0 (lengths_of room) ≡ valid) × (tree_over both_fail (tree_numbers second_alone) ≡ second_alone)
unfolding numbers_of line_numbers_lem line_at choice_validity validity_of lines_validity_lem line_tests rooms_validity choice_of valid_tree_lem tree_of root_is_line_lem node_of head_of line_head_lem children_head_lem children_of
second_alone_read = (refl, reads both_fail second_alone (omega arith, tt) refl)

-- step 2 is due, and not step 0
pub refutes_whole_breaks : Keeps refutes_whole → ⊥
unfolding refutes_whole numbers_of line_numbers_lem line_at validity_of lines_validity_lem line_tests rooms_validity decide_validity_lem decide_answer choice_list masked_number_lem marked is_false_lem verdict_of has_false first_false_lem due_kind
refutes_whole_breaks keeps =
    let e : 2 * 1 ≡ 2 * 0 = same_lowest choice_list whole_list keeps 0 both_fail second_alone 0 room second_alone_read.0 second_alone_read.1 refl refl refl refl in omega arith

-- ---- a branch skipped: of any-of it tries the first alone
abbrev first_branch : Kind → List (List ℕ) → List (List ℕ) → List (List ℕ)
first_branch AllOf xs ys = joined AllOf xs ys
first_branch AnyOf xs ys = xs

abbrev first_among : (Tree → List (List ℕ)) → ℕ → List ℤ → Tree → Result (Option ℕ) ConditionRefusal
first_among f n L t = first_found_lem (length (f t)) (lowest (λ k. verdict_of n (lines_of (masked_by L (get_or (f t) k [])))) 0 (length (f t)))

pub skips_branch : FirstVersion
skips_branch = looking rightly (first_among (choices_by first_branch AllOf))

-- ---- the first choice always
abbrev always : ℕ → List ℤ → Tree → Result (Option ℕ) ConditionRefusal
always n L t = cond (ltb (first_choice n L t) (count AllOf t)) (Ok (Some 0)) (Ok None)

pub always_first : FirstVersion
always_first = looking rightly always

-- any of 0, which fails, and 1
abbrev one_pair : Tree
one_pair = node AnyOf (line 0 (line 1 none)) none

abbrev first_fails : List ℤ
first_fails = numbers_of (fails ∷ holds ∷ [])

one_pair_read : tree_over first_fails (tree_numbers one_pair) ≡ one_pair
unfolding numbers_of line_numbers_lem
one_pair_read = reads first_fails one_pair ((refl, (omega arith, (omega arith, tt)), tt)) refl

pub skips_branch_breaks : KeepsFirst skips_branch → ⊥
unfolding skips_branch numbers_of line_numbers_lem line_at validity_of lines_validity_lem line_tests valid_tree_lem tree_of root_is_line_lem node_of head_of line_head_lem children_head_lem children_of
    choice_list masked_number_lem marked is_false_lem verdict_of has_false no_negative consistent_halves entry digit step_of steps_of
skips_branch_breaks keeps = let e : ◌≡◌ {A = Result (Option ℕ) ConditionRefusal} (Ok None) (Ok (Some 1)) = first_said rightly (first_among (choices_by first_branch AllOf)) keeps 0 first_fails one_pair first_room one_pair_read in never (cc)

pub always_first_breaks : KeepsFirst always_first → ⊥
unfolding always_first numbers_of line_numbers_lem line_at validity_of lines_validity_lem line_tests valid_tree_lem tree_of root_is_line_lem node_of head_of line_head_lem children_head_lem children_of
    choice_list masked_number_lem marked is_false_lem verdict_of has_false no_negative consistent_halves entry digit step_of steps_of
always_first_breaks keeps = let e : ◌≡◌ {A = Result (Option ℕ) ConditionRefusal} (Ok (Some 0)) (Ok (Some 1)) = first_said rightly always keeps 0 first_fails one_pair first_room one_pair_read in never (cc)

-- ---- 40 before 41: it counts before it looks whether numbers are left over
abbrev counted_first : Reader
counted_first t s m = cond (root_is_line_lem s) (Err (Malformed 0)) (whole_tree_lem s (few_choices_lem s (node_of s m max_depth AllOf 0)))

pub counts_first : FirstVersion
counts_first = looking counted_first first_of

-- nine times any of 0 and 1: 512 choices
abbrev pairs_of : ℕ → Tree
pairs_of zero = none
pairs_of (suc m) = node AnyOf (line 0 (line 1 none)) (pairs_of m)

pub counts_first_breaks : KeepsFirst counts_first → ⊥
unfolding counts_first first_answer first_validity numbers_of line_numbers_lem line_at validity_of lines_validity_lem line_tests valid_tree_lem tree_of root_is_line_lem node_of head_of line_head_lem children_head_lem children_of
counts_first_breaks keeps =
    let s : List ℕ = tree_numbers (pairs_of 9) in
    let e : Err (refusal.Tree (TooManyChoices 0)) ≡ Err (refusal.Tree (Malformed (length s))) = (keeps 0 first_fails (s ++ 0 ∷ []) first_room).is in never (cc)

-- ---- a product that stays above the most once it is there, whatever the other factors are
abbrev sticky_with : Kind → ℕ → ℕ → ℕ
sticky_with AllOf a b = cond (ltb max_choices b) b (a * b)
sticky_with AnyOf a b = a + b

abbrev sticky_count : Kind → Tree → ℕ
sticky_count k none = unit_of k
sticky_count k (line i r) = sticky_with k 1 (sticky_count k r)
sticky_count k (node l c r) = sticky_with k (sticky_count l c) (sticky_count k r)

abbrev sticky_by : Tree → Result Node TreeRefusal → Result Node TreeRefusal
sticky_by t (Ok b) = cond (ltb max_choices (sticky_count AllOf t)) (Err (TooManyChoices 0)) (Ok b)
sticky_by t (Err r) = Err r

abbrev stickily : Reader
stickily t s m = sticky_by t (valid_tree_lem s m)

pub product_sticks : FirstVersion
product_sticks = looking stickily first_of

-- any of nothing, and nine times any of 0 and 1: no choice
abbrev no_choice : Tree
no_choice = node AnyOf none (pairs_of 9)

pairs_fit : (m : ℕ) → 1 < m → (c : ℕ) → Fits m AllOf levels (pairs_of c)
pairs_fit m h zero = tt
pairs_fit m h (suc c) = (refl, (omega arith, (omega arith, tt)), pairs_fit m h c)

no_choice_read : tree_over first_fails (tree_numbers no_choice) ≡ no_choice
unfolding numbers_of line_numbers_lem
no_choice_read = reads first_fails no_choice (refl, tt, pairs_fit (line_count first_fails) (omega arith) 9) refl

pub product_sticks_breaks : KeepsFirst product_sticks → ⊥
unfolding product_sticks numbers_of line_numbers_lem line_at validity_of lines_validity_lem line_tests valid_tree_lem tree_of root_is_line_lem node_of head_of line_head_lem children_head_lem children_of
product_sticks_breaks keeps = let e : Err (refusal.Tree (TooManyChoices 0)) ≡ Ok None = first_said stickily first_of keeps 0 first_fails no_choice first_room no_choice_read in never (cc)
