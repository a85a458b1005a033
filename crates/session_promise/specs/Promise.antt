-- What each call of a session answers and leaves, whatever stands in the state: the promise of the three calls, an equation each but for the walks of a no.
--
-- A call takes the state as any numbers. Where the state stands (`Stands`), an add answers and leaves what deciding all lines so far does, and what it
-- leaves known is theirs: table, model and groups (Standing.antt). Where something else is known an answer may be wrong; what it is, is fixed here, too.
use Rattle.std.specs.Prelude.{◌≡◌, Bool, true, false, not, List, [], ◌++◌, ℕ, ltb, eqb, ℤ, length, drop, Err, Ok, Result}
use Rattle.lines.specs.declared.Line.{Line}
use Rattle.lines.specs.declared.Refusal.{Refusal}
use Rattle.lines.specs.declared.Refusal.TheVariants.{TooManyVariables, ShortOutput, AfterNo, NoLines}
use Rattle.lines.specs.Limits.{max_variables}
use Rattle.lines.specs.Line.{numbers_of}
use Rattle.lines.specs.Refusal.{◌or_else◌, refuse_if, validity_of}
use Rattle.theory_bounds.specs.Verdict.{verdict_of}
use Rattle.decide_buffers.specs.Room.{Lent}
use Rattle.decide.specs.declared.Answer.{Answer}
use Rattle.decide.specs.declared.Answer.TheVariants as decide
use Rattle.decide.specs.Decided.{unless_refused, validity_for, answer_for, cleared, Leaves}
use Rattle.session_state.specs.State.{session_room_lem, state_of, kept, variables_in, count_in, refused_in, numbers_with, table_in, known_in, table_of_known, kept_of_known, is_state_lem, pushed, popped, with_known}
use Rattle.session_learn.specs.Learnt.{learns}
use Rattle.session_kept.specs.Kept.{Given}
use Rattle.session_known.specs.Known.{known_after}
use Rattle.session_remake.specs.Remade.{remade_known}

-- the place of the state among the buffers that may be too short
abbrev pub state_place : ℕ
state_place = 6

-- 7: the state is too short, or its numbers are no state
abbrev pub no_state : Refusal
no_state = ShortOutput state_place

-- ---- the numbers are the state of n, lines and the last answer: the lines are valid, the last answer was right, and so is what is known, of lines that have
-- a solution
pub record Stands (n : ℕ) (ls : List Line) (refused : Bool) (s : List ℤ) : Type 0 where
  pub is : s ≡ state_of n ls refused ++ drop (session_room_lem n) s
  pub valid : validity_of n (numbers_of ls) ≡ Ok tt
  pub verdict : verdict_of n ls ≡ not refused
  pub solvable : verdict_of n (kept ls refused) ≡ true

-- ---- a start
unfoldable pub start_answer : ℕ → ℕ → Result Unit Refusal
start_answer n size = refuse_if (ltb max_variables n) TooManyVariables or_else refuse_if (ltb size (session_room_lem n)) no_state

-- the state of n and no lines, and what lies beyond it
abbrev pub start_state : ℕ → List ℤ → Result Unit Refusal → List ℤ
start_state n s (Ok _) = state_of n [] false ++ drop (session_room_lem n) s
start_state n s (Err r) = s

-- s is what the state held before, t what it holds after
pub record Starts (n : ℕ) (s : List ℤ) (answer : Result Unit Refusal) (t : List ℤ) : Type 0 where
  pub is : answer ≡ start_answer n (length s)
  pub state : t ≡ start_state n s answer

-- ---- a line is added
-- 7, where the numbers are no state; then 30
abbrev pub add_validity : List ℤ → Result Unit Refusal
add_validity s = refuse_if (not (is_state_lem s)) no_state or_else refuse_if (refused_in s) AfterNo

-- whether the state's table learns the line, and what is known after it: with the line, or as it was
abbrev pub learns_in : List ℤ → Line → Bool
learns_in s l = learns (variables_in s) (numbers_with s l) (count_in s) (table_in (variables_in s) s)

abbrev pub learnt_known : List ℤ → Line → List ℤ
learnt_known s l = known_after (variables_in s) (numbers_with s l) (count_in s) (known_in (variables_in s) s)

-- yes where the line is learnt, else what deciding the list L answers
abbrev pub learnt_answer : Bool → ℕ → List ℤ → Lent → Result Answer Refusal
learnt_answer true n L b = Ok decide.Yes
learnt_answer false n L b = answer_for n L b

-- a session that was refuted takes no line; all else is refused as deciding all lines so far is
unfoldable pub add_answer : List ℤ → Line → Lent → Result Answer Refusal
add_answer s l b = unless_refused (add_validity s) (unless_refused (validity_for (variables_in s) (numbers_with s l) b) (learnt_answer (learns_in s l) (variables_in s) (numbers_with s l) b))

-- the line is part of the state, after a no too; u is known
abbrev pub add_state : List ℤ → Line → List ℤ → Result Answer Refusal → List ℤ
add_state s l u (Ok decide.Yes) = pushed (with_known (variables_in s) s u) l false
add_state s l u (Ok decide.No) = pushed (with_known (variables_in s) s u) l true
add_state s l u (Err r) = s

-- a yes from what is known, u: the bounds off the table, model and groups as they are kept, and the work area cleared
pub record FromKnown (n : ℕ) (u : List ℤ) (b a : Lent) : Type 0 where
  pub outputs : Given n (table_of_known n u) (kept_of_known n u) b.model b.bounds b.groups a.model a.bounds a.groups
  pub refutation : a.refutation ≡ b.refutation
  pub identifiers : a.identifiers ≡ b.identifiers
  pub work : a.work ≡ cleared n b.work

-- what is left where the line is learnt and u is known, and where the list L is decided
abbrev pub LearntLeft : Bool → ℕ → List ℤ → List ℤ → Result Answer Refusal → Lent → Lent → Type 0
LearntLeft true n L u x b a = FromKnown n u b a
LearntLeft false n L u x b a = Leaves n L x b a

abbrev pub AddLeft : Result Answer Refusal → List ℤ → Line → Lent → Lent → Type 0
AddLeft (Ok decide.Yes) s l b a = LearntLeft (learns_in s l) (variables_in s) (numbers_with s l) (learnt_known s l) (Ok decide.Yes) b a
AddLeft (Ok decide.No) s l b a = LearntLeft (learns_in s l) (variables_in s) (numbers_with s l) (learnt_known s l) (Ok decide.No) b a
AddLeft (Err r) s l b a = a ≡ b

pub record Adds (s : List ℤ) (l : Line) (answer : Result Answer Refusal) (b : Lent) (t : List ℤ) (a : Lent) : Type 0 where
  pub is : answer ≡ add_answer s l b
  pub state : t ≡ add_state s l (learnt_known s l) answer
  pub left : AddLeft answer s l b a

-- ---- the last line is withdrawn
unfoldable pub withdraw_answer : List ℤ → Result Unit Refusal
withdraw_answer s = refuse_if (not (is_state_lem s)) no_state or_else refuse_if (eqb (count_in s) 0) NoLines

-- what is known then: after a no it is what is known of the lines before already, else it is made anew
abbrev pub known_before : Bool → List ℤ → List ℤ
known_before true s = known_in (variables_in s) s
known_before false s = remade_known s

abbrev pub withdraw_state : List ℤ → Result Unit Refusal → List ℤ
withdraw_state s (Ok _) = popped (with_known (variables_in s) s (known_before (refused_in s) s))
withdraw_state s (Err r) = s

pub record Withdraws (s : List ℤ) (answer : Result Unit Refusal) (t : List ℤ) : Type 0 where
  pub is : answer ≡ withdraw_answer s
  pub state : t ≡ withdraw_state s answer
