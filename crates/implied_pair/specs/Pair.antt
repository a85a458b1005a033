-- The pair as computed definitions: its four numbers off a table of distances, its refusals, and what a call of it answers and leaves.
use Rattle.lines.specs.declared.Refusal.{Refusal}
use Rattle.std.specs.Prelude.{Bool, true, false, not, List, [], ◌∷◌, ℕ, ltb, ℤ, length, Err, None, Ok, Option, Result, Some}
use Rattle.lines.specs.declared.Refusal.TheVariants.{BadVariable, ShortWorkArea}
use Rattle.lines.specs.Line.{lines_of}
use Rattle.lines.specs.Refusal.{◌or_else◌, refuse_if, validity_of}
use Rattle.steps.specs.Point.{point, opposite}
use Rattle.theory_bounds.specs.Tight.{Table, tight}
use Rattle.theory_bounds.specs.Answers.{greatest_of}
use Rattle.theory_bounds.specs.Verdict.{distances, verdict_of}
use Rattle.decide_buffers.specs.Room.{work_room_lem}
use Rattle.decide.specs.Decided.{cleared}
use Rattle.implied_pair.specs.declared.Pair.{Pair}

-- ---- the four numbers
-- the row of the point p: its greatest sum with y, then with -y
abbrev pub pair_row : Table → ℕ → ℕ → List ℤ
pair_row D p y = greatest_of (tight D p (opposite (point y 0))) ∷ greatest_of (tight D p (opposite (point y 1))) ∷ []

abbrev pub pair_in_lem : Table → ℕ → ℕ → Pair
pair_in_lem D x y = record { plus = pair_row D (point x 0) y; minus = pair_row D (point x 1) y }

-- ---- refusals: the list's; then 5 at place 0 for x and at place 1 for y; then 8
unfoldable pub pair_validity_lem : ℕ → List ℤ → ℕ → ℕ → ℕ → Result Unit Refusal
pair_validity_lem n L x y size =
    validity_of n L
    or_else refuse_if (not (ltb x n)) (BadVariable 0)
    or_else refuse_if (not (ltb y n)) (BadVariable 1)
    or_else refuse_if (ltb size (work_room_lem n)) ShortWorkArea

-- ---- the call
-- its answer, and what the work area holds after it
pub record PairCall : Type 0 where
  pub answer : Result (Option Pair) Refusal
  pub work : List ℤ

abbrev pub called : Result (Option Pair) Refusal → List ℤ → PairCall
called a w = record { answer = a; work = w }

-- by the verdict: the pair, or none where there is no solution
abbrev pub judged : Bool → Pair → Option Pair
judged true pair = Some pair
judged false pair = None

-- a refusal goes first, and leaves the work area as it was
abbrev pub unless_refused : Result Unit Refusal → PairCall → List ℤ → PairCall
unless_refused (Ok _) c before = c
unless_refused (Err r) c before = called (Err r) before

unfoldable pub pair_call : ℕ → List ℤ → ℕ → ℕ → List ℤ → PairCall
pair_call n L x y before =
    unless_refused (pair_validity_lem n L x y (length before)) (called (Ok (judged (verdict_of n (lines_of L)) (pair_in_lem (distances n (lines_of L)) x y))) (cleared n before)) before
