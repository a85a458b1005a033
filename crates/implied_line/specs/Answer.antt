-- What the line question answers and leaves in the lent buffers, for every input: its promise.
use Rattle.lines.specs.declared.Refusal.{Refusal}
use Rattle.std.specs.Prelude.{◌≡◌, Bool, true, false, List, ◌++◌, ℕ, ℤ, drop, Err, Ok, Result}
use Rattle.lines.specs.declared.Line.{Line}
use Rattle.lines.specs.Line.{line_count, lines_of}
use Rattle.lines.specs.Refusal.{◌or_else◌, line_validity_lem, validity_of}
use Rattle.theory_bounds.specs.Verdict.{verdict_of}
use Rattle.theory_bounds.specs.Answers.{model_of}
use Rattle.decide_buffers.specs.declared.Lengths.{Lengths}
use Rattle.decide_buffers.specs.Room.{ModelLent, model_lengths_of, model_room_lem, model_rooms, first_short}
use Rattle.decide.specs.Decided.{cleared}
use Rattle.implied_line.specs.declared.LineAnswer.{LineAnswer}
use Rattle.implied_line.specs.declared.LineAnswer.TheVariants.{Implied, NotImplied, Unsolvable}
use Rattle.opposite_line.specs.Opposite.{opposed}

-- ---- refusals
-- the list's; the line's, as if it stood behind the list; then 7, 8
unfoldable pub question_validity_lem : ℕ → List ℤ → Line → Lengths → Result Unit Refusal
question_validity_lem n L l s = validity_of n L or_else line_validity_lem n (line_count L) l or_else first_short model_rooms n s

-- ---- the answer
-- by the verdicts on the list, and on the list with the opposite line behind it
abbrev pub judged_by : (list opposed : Bool) → LineAnswer
judged_by false b = Unsolvable
judged_by true false = Implied
judged_by true true = NotImplied

abbrev pub judged : ℕ → List ℤ → Line → LineAnswer
judged n L l = judged_by (verdict_of n (lines_of L)) (verdict_of n (lines_of (opposed L l)))

-- a refusal goes first
abbrev pub unless_refused : Result Unit Refusal → LineAnswer → Result LineAnswer Refusal
unless_refused (Ok _) a = Ok a
unless_refused (Err r) a = Err r

-- buffers are given by their lengths
unfoldable pub implied_answer : ℕ → List ℤ → Line → Lengths → Result LineAnswer Refusal
implied_answer n L l s = unless_refused (question_validity_lem n L l s) (judged n L l)

-- ---- what the lent buffers hold
-- the answer, by what is lent
abbrev pub answer_for : ℕ → List ℤ → Line → ModelLent → Result LineAnswer Refusal
answer_for n L l b = implied_answer n L l (model_lengths_of b)

-- only a no writes the model: that of the list with the opposite line behind it
abbrev pub model_left : ℕ → List ℤ → Line → Result LineAnswer Refusal → List ℤ → List ℤ
model_left n L l (Ok Implied) m = m
model_left n L l (Ok NotImplied) m = model_of n (lines_of (opposed L l)) ++ drop (model_room_lem n) m
model_left n L l (Ok Unsolvable) m = m
model_left n L l (Err r) m = m

-- each answer that is no refusal clears the work area
abbrev pub work_left : ℕ → Result LineAnswer Refusal → List ℤ → List ℤ
work_left n (Ok a) w = cleared n w
work_left n (Err r) w = w

-- b is what the buffers held before, a what they hold after
pub record AnswersLine (n : ℕ) (L : List ℤ) (l : Line) (answer : Result LineAnswer Refusal) (b a : ModelLent) : Type 0 where
  pub is : answer ≡ answer_for n L l b
  pub model : a.model ≡ model_left n L l answer b.model
  pub work : a.work ≡ work_left n answer b.work
