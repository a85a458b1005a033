-- The places of the questions' refusals are below a refusal's unit.
use Rattle.lines.specs.declared.Refusal.{Refusal}
use Rattle.std.specs.Prelude.{◌≡◌, refl, Bool, true, false, not, List, ℕ, ltb, ℤ, pos, Err, Ok, Option, Result}
use Rattle.std.proofs.Common.{arith}
use Rattle.lines.specs.declared.Line.{Line}
use Rattle.lines.specs.declared.Refusal.TheVariants.{BadVariable}
use Rattle.lines.specs.Limits.{max_constant}
use Rattle.lines.specs.Places.{Placed, placed_or, placed_if, placed_line, place_at}
use Rattle.lines.specs.Refusal.{◌or_else◌, refuse_if, line_validity_lem}
use Rattle.implied_line.specs.declared.LineAnswer.{LineAnswer}
use Rattle.implied_line.specs.Answer.{unless_refused}
use Rattle.implied_line.specs.Places as line
use Rattle.implied_pair.specs.declared.Pair.{Pair}
use Rattle.implied_pair.specs.Places as pair
use Rattle.session_state.specs.State.{variables_in, count_in, head_ok_lem}
use Rattle.session_state.specs.Laws.{head_ok}
use Rattle.session_promise.specs.Promise.{no_state}
use Rattle.session_asked.specs.Asked.{line_validity_in, line_by, line_from_table_lem, pair_validity_in, pair_unless, pair_by, pair_from_table_lem}
use Rattle.c_codes.specs.Codes.{refusal_unit}

-- ---- a line: its place is the number of lines, which is small where the head is one of a state
placed_question : (s : List ℤ) (l : Line) → Placed refusal_unit (line_validity_in s l)
unfolding line_validity_in
placed_question s l = go (head_ok_lem s) refl
  where
    go : (b : Bool) → head_ok_lem s ≡ b → Placed refusal_unit (refuse_if (not b) no_state or_else line_validity_lem (variables_in s) (count_in s) l)
    go true e = placed_line refusal_unit (variables_in s) (pos max_constant) (count_in s) l (omega (arith, (head_ok s e).count))
    go false e = placed_if refusal_unit true no_state (omega arith)

pub line_below : (s : List ℤ) (l : Line) → line.Below refusal_unit (line_by s l)
unfolding line_by
line_below s l = go (line_validity_in s l) (line_from_table_lem s l) (placed_question s l)
  where
    go : (v : Result Unit Refusal) (a : LineAnswer) → Placed refusal_unit v → line.Below refusal_unit (unless_refused v a)
    go (Ok _) a p = tt
    go (Err r) a p = place_at p

-- ---- two variables
placed_two : (s : List ℤ) (x y : ℕ) → Placed refusal_unit (pair_validity_in s x y)
unfolding pair_validity_in
placed_two s x y =
    placed_or refusal_unit _ _ (placed_if refusal_unit (not (head_ok_lem s)) no_state (omega arith))
    (placed_or refusal_unit _ _ (placed_if refusal_unit (not (ltb x (variables_in s))) (BadVariable 0) (omega arith)) (placed_if refusal_unit (not (ltb y (variables_in s))) (BadVariable 1) (omega arith)))

pub pair_below : (s : List ℤ) (x y : ℕ) → pair.Below refusal_unit (pair_by s x y)
unfolding pair_by
pair_below s x y = go (pair_validity_in s x y) (pair_from_table_lem s x y) (placed_two s x y)
  where
    go : (v : Result Unit Refusal) (a : Option Pair) → Placed refusal_unit v → pair.Below refusal_unit (pair_unless v a)
    go (Ok _) a p = tt
    go (Err r) a p = place_at p
