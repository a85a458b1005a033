-- Versions of the line question that go wrong in one thing, each a definition, and at a named list and line what breaks the promise.
use Rattle.lines.specs.declared.Refusal.{Refusal}
use Rattle.std.specs.Prelude.{◌≡◌, refl, Bool, true, false, List, [], ◌∷◌, ◌++◌, ℕ, ℤ, pos, neg_ℤ, length, drop, replicate, Err, Ok, Result}
use Rattle.integers.specs.Laws.{never}
use Rattle.lines.specs.declared.Line.{Line}
use Rattle.lines.specs.Line.{line_numbers_lem, line_at, lines_of, is_false_lem}
use Rattle.lines.specs.Refusal.{line_tests, lines_validity_lem, validity_of}
use Rattle.steps.specs.Point.{opposite as opposite-point}
use Rattle.steps.specs.Table.{entry, digit}
use Rattle.steps.specs.Step.{step_of, steps_of}
use Rattle.theory_walks.specs.Row.{relax_row, start_row_lem, rounds, row_at, best}
use Rattle.theory_walks.specs.Negative.{no_negative}
use Rattle.theory_bounds.specs.Points.{assign}
use Rattle.theory_bounds.specs.Near.{above, at_most, near}
use Rattle.theory_bounds.specs.Tight.{halves, tight}
use Rattle.theory_bounds.specs.Extend.{limit, pick}
use Rattle.theory_bounds.specs.Model.{model}
use Rattle.theory_bounds.specs.Table.{table_model}
use Rattle.theory_bounds.specs.Verdict.{has_false, distances, consistent_halves, verdict_of}
use Rattle.theory_bounds.specs.Answers.{model_of}
use Rattle.decide_buffers.specs.Room.{model_room_lem, work_room_lem, ModelLent, model_lengths_of}
use Rattle.implied_line.specs.declared.LineAnswer.{LineAnswer}
use Rattle.implied_line.specs.declared.LineAnswer.TheVariants.{Implied, NotImplied, Unsolvable}
use Rattle.opposite_line.specs.Opposite.{opposite, opposed}
use Rattle.implied_line.specs.Answer.{question_validity_lem, judged_by, judged, unless_refused, implied_answer, answer_for, model_left, work_left, AnswersLine}

-- what a call gives back: its answer, and what the lent buffers hold after
pub record Outcome : Type 0 where
  pub answer : Result LineAnswer Refusal
  pub after : ModelLent

abbrev pub Version : Type 0
Version = ℕ → List ℤ → Line → ModelLent → Outcome

-- the promise of the line question, of any version of it
abbrev pub Keeps : Version → Type 0
Keeps f = (n : ℕ) (L : List ℤ) (l : Line) (b : ModelLent) → AnswersLine n L l (f n L l b).answer b (f n L l b).after

-- by the answer: a no writes this model, each answer that is no refusal clears the work area
abbrev written_by : ℕ → Result LineAnswer Refusal → (model before : List ℤ) → List ℤ
written_by n (Ok Implied) m b = b
written_by n (Ok NotImplied) m b = m ++ drop (model_room_lem n) b
written_by n (Ok Unsolvable) m b = b
written_by n (Err r) m b = b

abbrev outcome : ℕ → Result LineAnswer Refusal → List ℤ → ModelLent → Outcome
outcome n x m b = record { answer = x; after = record { model = written_by n x m b.model; work = work_left n x b.work } }

-- it refuses right, and else answers this, with this model on a no
abbrev answering : (ℕ → List ℤ → Line → LineAnswer) → (ℕ → List ℤ → Line → List ℤ) → Version
answering x m n L l b = outcome n (unless_refused (question_validity_lem n L l (model_lengths_of b)) (x n L l)) (m n L l) b

abbrev opposed_model : ℕ → List ℤ → Line → List ℤ
opposed_model n L l = model_of n (lines_of (opposed L l))

-- ---- a version that keeps the promise, so that those below break it only by what they do otherwise
pub right : Version
right = answering judged opposed_model

pub right_keeps : Keeps right
unfolding right implied_answer
right_keeps n L l b = record { is = refl; model = left (answer_for n L l b); work = refl }
  where
    left : (x : Result LineAnswer Refusal) → written_by n x (opposed_model n L l) b.model ≡ model_left n L l x b.model
    left (Ok Implied) = refl
    left (Ok NotImplied) = refl
    left (Ok Unsolvable) = refl
    left (Err r) = refl

-- ---- the inputs: one variable, and buffers of exactly the room needed, all zeros
abbrev room : ModelLent
room = record { model = replicate (model_room_lem 1) (pos 0); work = replicate (work_room_lem 1) (pos 0) }

-- x at most 0, and x at least 1
abbrev pub most : Line
most = record { a = pos 1; x = pos 0; b = pos 0; y = pos 0; d = pos 0; identifier = pos 0 }

abbrev pub least : Line
least = record { a = neg_ℤ (pos 1); x = pos 0; b = pos 0; y = pos 0; d = neg_ℤ (pos 1); identifier = pos 0 }

-- ---- a yes for every line
pub always_yes : Version
always_yes = answering (λ n L l. Implied) opposed_model

-- with no line x is free, so that it need not be at most 0
pub always_yes_breaks : Keeps always_yes → ⊥
unfolding always_yes implied_answer question_validity_lem validity_of lines_validity_lem line_tests line_numbers_lem line_at opposite is_false_lem verdict_of has_false no_negative consistent_halves
    entry digit step_of steps_of relax_row start_row_lem rounds row_at best opposite-point
always_yes_breaks k = let e : ◌≡◌ {A = Result LineAnswer Refusal} (Ok Implied) (Ok NotImplied) = (k 1 [] most room).is in never (cc)

-- ---- the model of the list without the opposite line
pub without_opposite : Version
without_opposite = answering judged (λ n L l. model_of n (lines_of L))

-- it gives x the value 0, which meets the line
pub without_opposite_breaks : Keeps without_opposite → ⊥
unfolding without_opposite implied_answer question_validity_lem validity_of lines_validity_lem line_tests line_numbers_lem line_at opposite is_false_lem verdict_of has_false no_negative consistent_halves
    entry digit step_of steps_of relax_row start_row_lem rounds row_at best opposite-point assign above at_most near halves tight limit pick model table_model model_of
without_opposite_breaks k = let e : pos 0 ∷ [] ≡ pos 1 ∷ [] = (k 1 [] most room).model in never (cc)

-- ---- it does not look whether the list has a solution, so that every line is implied where there is none
pub only_opposed : Version
only_opposed = answering (λ n L l. judged_by true (verdict_of n (lines_of (opposed L l)))) opposed_model

pub only_opposed_breaks : Keeps only_opposed → ⊥
unfolding only_opposed implied_answer question_validity_lem validity_of lines_validity_lem line_tests line_numbers_lem line_at opposite is_false_lem verdict_of has_false no_negative consistent_halves
    entry digit step_of steps_of relax_row start_row_lem rounds row_at best opposite-point
only_opposed_breaks k = let e : ◌≡◌ {A = Result LineAnswer Refusal} (Ok Implied) (Ok Unsolvable) = (k 1 (line_numbers_lem most ++ line_numbers_lem least) most room).is in never (cc)

-- ---- its opposite line has -d, which what takes d meets too
abbrev pub with_bound : Line → Line
with_bound l = record { a = neg_ℤ l.a; x = l.x; b = neg_ℤ l.b; y = l.y; d = neg_ℤ l.d; identifier = l.identifier }

pub meets_both : Version
meets_both = answering (λ n L l. judged_by (verdict_of n (lines_of L)) (verdict_of n (lines_of (L ++ line_numbers_lem (with_bound l))))) opposed_model

-- a line of the list itself is implied
pub meets_both_breaks : Keeps meets_both → ⊥
unfolding meets_both implied_answer question_validity_lem validity_of lines_validity_lem line_tests line_numbers_lem line_at opposite is_false_lem verdict_of has_false no_negative consistent_halves
    entry digit step_of steps_of relax_row start_row_lem rounds row_at best opposite-point
meets_both_breaks k = let e : ◌≡◌ {A = Result LineAnswer Refusal} (Ok NotImplied) (Ok Implied) = (k 1 (line_numbers_lem most) most room).is in never (cc)
