-- What the two questions about a tree answer and leave in the lent buffers, for every input: their promises.
use Rattle.tree_reading.specs.declared.TreeRefusal.{TreeRefusal}
use Rattle.tree_reading.specs.declared.Node.{Node}
use Rattle.lines.specs.declared.Refusal.{Refusal}
use Rattle.std.specs.Prelude.{◌≡◌, Bool, true, false, cond, List, ◌++◌, ℕ, ltb, ℤ, drop, Err, None, Ok, Option, Result, Some}
use Rattle.lines.specs.Line.{line_count, lines_of}
use Rattle.lines.specs.Refusal.{validity_of}
use Rattle.check_soundness.specs.Head.{steps_in}
use Rattle.theory_bounds.specs.Answers.{model_of}
use Rattle.decide_buffers.specs.declared.Lengths.{Lengths}
use Rattle.decide_buffers.specs.Room.{Lent, lengths_of, ModelLent, model_lengths_of, model_room_lem, model_rooms, first_short, rooms_validity}
use Rattle.decide_identifiers.specs.Identifiers.{identifiers_of}
use Rattle.decide.specs.Decided.{cleared, OnYes, OnNo}
use Rattle.tree_reading.specs.declared.Kind.TheVariants.{AllOf}
use Rattle.tree_reading.specs.Tree.{Row}
use Rattle.tree_reading.specs.Choices.{count}
use Rattle.tree_reading.specs.Reading.{valid_tree_lem}
use Rattle.tree_reading.specs.Taken.{tree_in}
use Rattle.tree_choices.specs.Choosing.{choice_of}
use Rattle.tree_lists.specs.Condition.{choice_list}
use Rattle.tree_answers.specs.First.{choice_verdict, first_choice}
use Rattle.tree_deciding.specs.declared.ConditionRefusal.{ConditionRefusal}
use Rattle.tree_deciding.specs.declared.ConditionRefusal.TheVariants.{Deciding, Tree}

-- ---- refusals
-- nothing is refused, or this is
pub data TreeValidity : Type 0 where
  valid : TreeValidity
  refused : ConditionRefusal → TreeValidity

-- the first of two
infixr 20 ◌or_next◌
abbrev pub ◌or_next◌ : TreeValidity → TreeValidity → TreeValidity
valid or_next v = v
refused r or_next v = refused r

abbrev pub of_deciding : Result Unit Refusal → TreeValidity
of_deciding (Ok _) = valid
of_deciding (Err r) = refused (Deciding r)

abbrev pub of_tree : Result Node TreeRefusal → TreeValidity
of_tree (Ok b) = valid
of_tree (Err r) = refused (Tree r)

-- the list's; the tree's 41 and 42, then 40, then 43 where it has no choice k; then 7, 8
unfoldable pub choice_validity : ℕ → List ℤ → List ℕ → ℕ → Lengths → TreeValidity
choice_validity n L s k lent = of_deciding (validity_of n L) or_next of_tree (choice_of s (line_count L) k) or_next of_deciding (rooms_validity n lent)

-- the list's; the tree's 41 and 42, then 40; then 7, 8, of the model and the work area
unfoldable pub first_validity : ℕ → List ℤ → List ℕ → Lengths → TreeValidity
first_validity n L s lent = of_deciding (validity_of n L) or_next of_tree (valid_tree_lem s (line_count L)) or_next of_deciding (first_short model_rooms n lent)

-- ---- the answers
-- a refusal goes first
abbrev pub unless_refused : TreeValidity → Result (Option ℕ) ConditionRefusal → Result (Option ℕ) ConditionRefusal
unless_refused valid a = a
unless_refused (refused r) a = Err r

-- the tree of these numbers, over the lines of this list
abbrev pub tree_over : List ℤ → List ℕ → Row
tree_over L s = tree_in s (line_count L)

-- on a choice, by the verdict on its list
abbrev pub choice_found : ℕ → Bool → Result (Option ℕ) ConditionRefusal
choice_found k true = Ok (Some k)
choice_found k false = Ok None

-- on a tree with so many choices, by the first that has a solution
abbrev pub first_found_lem : ℕ → ℕ → Result (Option ℕ) ConditionRefusal
first_found_lem total k = cond (ltb k total) (Ok (Some k)) (Ok None)

-- buffers are given by their lengths
unfoldable pub choice_answer : ℕ → List ℤ → List ℕ → ℕ → Lengths → Result (Option ℕ) ConditionRefusal
choice_answer n L s k lent = unless_refused (choice_validity n L s k lent) (choice_found k (choice_verdict n L (tree_over L s) k))

unfoldable pub first_answer : ℕ → List ℤ → List ℕ → Lengths → Result (Option ℕ) ConditionRefusal
first_answer n L s lent = unless_refused (first_validity n L s lent) (first_found_lem (count AllOf (tree_over L s)) (first_choice n L (tree_over L s)))

-- by what is lent
abbrev pub choice_answer_for : ℕ → List ℤ → List ℕ → ℕ → Lent → Result (Option ℕ) ConditionRefusal
choice_answer_for n L s k b = choice_answer n L s k (lengths_of b)

abbrev pub first_answer_for : ℕ → List ℤ → List ℕ → ModelLent → Result (Option ℕ) ConditionRefusal
first_answer_for n L s b = first_answer n L s (model_lengths_of b)

-- ---- what the lent buffers hold: b before, a after
-- on a no, what deciding the choice's list leaves; the identifiers are those of the whole list's lines
pub record ChoiceNo (n : ℕ) (L : List ℤ) (t : Row) (k : ℕ) (b a : Lent) : Type 0 where
  pub leaves : OnNo n (choice_list L t k) b a
  pub identifiers : a.identifiers ≡ identifiers_of L leaves.numbers ++ drop (steps_in leaves.numbers) b.identifiers

abbrev pub ChoiceLeaves : ℕ → List ℤ → Row → ℕ → Result (Option ℕ) ConditionRefusal → Lent → Lent → Type 0
ChoiceLeaves n L t k (Ok (Some j)) b a = OnYes n (choice_list L t k) b a
ChoiceLeaves n L t k (Ok None) b a = ChoiceNo n L t k b a
ChoiceLeaves n L t k (Err r) b a = a ≡ b

pub record DecidesChoice (n : ℕ) (L : List ℤ) (s : List ℕ) (k : ℕ) (answer : Result (Option ℕ) ConditionRefusal) (b a : Lent) : Type 0 where
  pub is : answer ≡ choice_answer_for n L s k b
  pub leaves : ChoiceLeaves n L (tree_over L s) k answer b a

-- only a yes writes the model: that of the choice found
abbrev pub model_left : ℕ → List ℤ → Row → Result (Option ℕ) ConditionRefusal → List ℤ → List ℤ
model_left n L t (Ok (Some k)) m = model_of n (lines_of (choice_list L t k)) ++ drop (model_room_lem n) m
model_left n L t (Ok None) m = m
model_left n L t (Err r) m = m

-- each answer that is no refusal clears the work area
abbrev pub work_left : ℕ → Result (Option ℕ) ConditionRefusal → List ℤ → List ℤ
work_left n (Ok (Some k)) w = cleared n w
work_left n (Ok None) w = cleared n w
work_left n (Err r) w = w

pub record AnswersFirst (n : ℕ) (L : List ℤ) (s : List ℕ) (answer : Result (Option ℕ) ConditionRefusal) (b a : ModelLent) : Type 0 where
  pub is : answer ≡ first_answer_for n L s b
  pub model : a.model ≡ model_left n L (tree_over L s) answer b.model
  pub work : a.work ≡ work_left n answer b.work
