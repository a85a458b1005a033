-- Versions of the pair that answer by guessing, each a definition, and at a named input what breaks the promise.
use Rattle.std.specs.Prelude.{◌≡◌, refl, List, [], ◌∷◌, ℕ, ◌-◌, ◌^◌, ℤ, pos, length, get_or, replicate, Ok}
use Rattle.std.proofs.Common.{ap, arith}
use Rattle.integers.specs.Laws.{never}
use Rattle.lines.specs.Limits.{absent_greatest}
use Rattle.lines.specs.Line.{line_at, lines_of, is_false_lem}
use Rattle.lines.specs.Refusal.{line_tests, lines_validity_lem, validity_of}
use Rattle.steps.specs.Point.{point, opposite}
use Rattle.steps.specs.Table.{entry, digit}
use Rattle.steps.specs.Step.{step_of, steps_of}
use Rattle.theory_walks.specs.Distance.{◌⊞◌}
use Rattle.theory_walks.specs.Row.{relax_row, start_row_lem, rounds, row_at, best}
use Rattle.theory_walks.specs.Negative.{no_negative}
use Rattle.theory_bounds.specs.Tight.{Table, halves, tight}
use Rattle.theory_bounds.specs.Answers.{greatest_of}
use Rattle.theory_bounds.specs.Verdict.{has_false, distances, consistent_halves, verdict_of}
use Rattle.decide_buffers.specs.Room.{work_room_lem}
use Rattle.decide.specs.Decided.{cleared}
use Rattle.implied_pair.specs.declared.Pair.{Pair}
use Rattle.implied_pair.specs.Pair.{pair_in_lem, pair_validity_lem, PairCall, called, judged, unless_refused, pair_call}
use Rattle.c_codes.specs.Apart.{same_pos}
use Rattle.c_implied.specs.Calls.{given_pair}
use Rattle.demands.specs.RightVersion.{at_most5, equal_pair}

abbrev pub Version : Type 0
Version = ℕ → List ℤ → ℕ → ℕ → List ℤ → PairCall

-- the promise of the pair, of any version of it
abbrev pub Keeps : Version → Type 0
Keeps f = (n : ℕ) (L : List ℤ) (x y : ℕ) (w : List ℤ) → f n L x y w ≡ pair_call n L x y w

-- it refuses right and tells a list without a solution, and else gives this pair, from the distances
abbrev giving : (Table → ℕ → ℕ → Pair) → Version
giving pair n L x y w = unless_refused (pair_validity_lem n L x y (length w)) (called (Ok (judged (verdict_of n (lines_of L)) (pair (distances n (lines_of L)) x y))) (cleared n w)) w

-- ---- a version that keeps the promise, so that those below break it only by what they do otherwise
pub right : Version
right = giving pair_in_lem

pub right_keeps : Keeps right
unfolding right pair_call
right_keeps n L x y w = refl

-- a work area of exactly the room needed, all zeros
abbrev room : ℕ → List ℤ
room n = replicate (work_room_lem n) (pos 0)

-- what it answered, as the row of x
abbrev plus_row : PairCall → List ℤ
plus_row c = (given_pair c.answer).plus

-- ---- it gives the row of -x for that of x
abbrev swapped : Table → ℕ → ℕ → Pair
swapped D x y = record { plus = (pair_in_lem D x y).minus; minus = (pair_in_lem D x y).plus }

pub swaps_rows : Version
swaps_rows = giving swapped

-- x at most 5, asked with itself: x + x has 10 and x − x has 0, but −x + x has 0 and −x − x none
pub swaps_rows_breaks : Keeps swaps_rows → ⊥
unfolding swaps_rows pair_call pair_validity_lem validity_of lines_validity_lem line_tests line_at is_false_lem verdict_of has_false no_negative consistent_halves
    entry digit step_of steps_of relax_row start_row_lem rounds row_at best opposite halves tight
swaps_rows_breaks k = let e : pos 0 ∷ absent_greatest ∷ [] ≡ pos 10 ∷ pos 0 ∷ [] = ap plus_row (k 1 at_most5 0 0 (room 1)) in never (cc)

-- ---- it adds the bounds of x and y, without their distance
abbrev added_row : Table → ℕ → ℕ → List ℤ
added_row D p y = greatest_of (halves D p ⊞ halves D (point y 0)) ∷ greatest_of (halves D p ⊞ halves D (point y 1)) ∷ []

abbrev added : Table → ℕ → ℕ → Pair
added D x y = record { plus = added_row D (point x 0) y; minus = added_row D (point x 1) y }

pub adds_bounds : Version
adds_bounds = giving added

-- x and y equal: x − y has 0, though neither has a bound
pub adds_bounds_breaks : Keeps adds_bounds → ⊥
unfolding adds_bounds pair_call pair_validity_lem validity_of lines_validity_lem line_tests line_at is_false_lem verdict_of has_false no_negative consistent_halves
    entry digit step_of steps_of relax_row start_row_lem rounds row_at best opposite halves tight
adds_bounds_breaks k =
    let e : absent_greatest ≡ pos 0 = ap (λ (c : PairCall). get_or (plus_row c) 1 (pos 0)) (k 2 equal_pair 0 1 (room 2)) in
    let q : 2 ^ 63 - 1 ≡ 0 = same_pos _ _ e in absurd (omega arith)

-- ---- it gives no sum a greatest value
abbrev absent_row : List ℤ
absent_row = absent_greatest ∷ absent_greatest ∷ []

pub absent_for_all : Version
absent_for_all = giving (λ D x y. record { plus = absent_row; minus = absent_row })

pub absent_for_all_breaks : Keeps absent_for_all → ⊥
unfolding absent_for_all pair_call pair_validity_lem validity_of lines_validity_lem line_tests line_at is_false_lem verdict_of has_false no_negative consistent_halves
    entry digit step_of steps_of relax_row start_row_lem rounds row_at best opposite halves tight
absent_for_all_breaks k = let e : absent_row ≡ pos 10 ∷ pos 0 ∷ [] = ap plus_row (k 1 at_most5 0 0 (room 1)) in never (cc)
