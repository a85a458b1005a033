-- What the questions to a session answer, whatever stands in the state: as equations with definitions.
use Rattle.std.specs.Prelude.{◌≡◌, refl, Bool, true, false, not, cond, List, ℕ, ◌*◌, ◌<◌, ltb, ℤ, Err, Ok, Option, Result}
use Rattle.std.proofs.Common.{sym, ◌∙◌, arith}
use Rattle.std.proofs.Math.Path.{ap}
use borrow.Author.Tests.{ltb-true}
use Rattle.integers.specs.Laws.{never}
use Rattle.lines.specs.declared.Line.{Line}
use Rattle.lines.specs.declared.Refusal.{Refusal}
use Rattle.lines.specs.declared.Refusal.TheVariants.{BadVariable}
use Rattle.lines.specs.Limits.{max_constant}
use Rattle.lines.specs.Refusal.{◌or_else◌, refuse_if, line_validity_lem}
use Rattle.lines.specs.Valid.{LineWorks, or_valid, not_refused, line_ok, line_works}
use Rattle.implied_line.specs.declared.LineAnswer.{LineAnswer}
use Rattle.implied_line.specs.declared.LineAnswer.TheVariants.{Implied, NotImplied, Unsolvable}
use Rattle.implied_line.specs.Answer.{unless_refused}
use Rattle.implied_pair.specs.declared.Pair.{Pair}
use Rattle.implied_pair.specs.Pair.{pair_in_lem, judged}
use Rattle.session_step.specs.Read.{small_table}
use Rattle.session_state.specs.State.{variables_in, count_in, refused_in, table_in, head_ok_lem}
use Rattle.session_questions.specs.Asked.{line_implied}
use Rattle.session_promise.specs.Promise.{no_state}

-- ---- a line
-- 7, where the head is none of a state; then the line's rules, as if it stood behind the lines so far
unfoldable pub line_validity_in : List ℤ → Line → Result Unit Refusal
line_validity_in s l = refuse_if (not (head_ok_lem s)) no_state or_else line_validity_lem (variables_in s) (count_in s) l

-- after a no the lines have no solution; else the table tells
abbrev pub line_from_table_lem : List ℤ → Line → LineAnswer
line_from_table_lem s l = cond (refused_in s) Unsolvable (cond (line_implied (small_table (2 * variables_in s) (table_in (variables_in s) s)) l) Implied NotImplied)

unfoldable pub line_by : List ℤ → Line → Result LineAnswer Refusal
line_by s l = unless_refused (line_validity_in s l) (line_from_table_lem s l)

-- ---- two variables
-- 7, then 5 at place 0 for x and at place 1 for y
unfoldable pub pair_validity_in : List ℤ → ℕ → ℕ → Result Unit Refusal
pair_validity_in s x y =
    refuse_if (not (head_ok_lem s)) no_state
    or_else refuse_if (not (ltb x (variables_in s))) (BadVariable 0)
    or_else refuse_if (not (ltb y (variables_in s))) (BadVariable 1)

abbrev pub pair_from_table_lem : List ℤ → ℕ → ℕ → Option Pair
pair_from_table_lem s x y = judged (not (refused_in s)) (pair_in_lem (small_table (2 * variables_in s) (table_in (variables_in s) s)) x y)

-- a refusal goes first
abbrev pub pair_unless : Result Unit Refusal → Option Pair → Result (Option Pair) Refusal
pair_unless (Ok _) a = Ok a
pair_unless (Err r) a = Err r

unfoldable pub pair_by : List ℤ → ℕ → ℕ → Result (Option Pair) Refusal
pair_by s x y = pair_unless (pair_validity_in s x y) (pair_from_table_lem s x y)

-- ---- for the code
not_no : (b : Bool) → not b ≡ false → b ≡ true
not_no true e = refl
not_no false e = never (cc)

module _ (s : List ℤ) (l : Line) where
  pub line_refused : (r : Refusal) → line_validity_in s l ≡ Err r → unless_refused (Err r) (line_from_table_lem s l) ≡ line_by s l
  unfolding line_by
  line_refused r e = ap (λ (v : Result Unit Refusal). unless_refused v (line_from_table_lem s l)) (sym e)

  pub line_answered : line_validity_in s l ≡ Ok tt → (x : LineAnswer) → x ≡ line_from_table_lem s l → Ok x ≡ line_by s l
  unfolding line_by
  line_answered e x p = ap Ok p ∙ ap (λ (v : Result Unit Refusal). unless_refused v (line_from_table_lem s l)) (sym e)

  -- nothing is refused: the head is one of a state, and the line keeps its rules
  pub line_valid : line_validity_in s l ≡ Ok tt → (head_ok_lem s ≡ true) × LineWorks (variables_in s) l
  unfolding line_validity_in
  line_valid e =
      let p = or_valid (refuse_if (not (head_ok_lem s)) no_state) (line_validity_lem (variables_in s) (count_in s) l) e in
      (not_no (head_ok_lem s) (not_refused _ _ p.0), line_works max_constant (variables_in s) l (omega arith) (line_ok (variables_in s) (count_in s) l p.1))

module _ (s : List ℤ) (x y : ℕ) where
  pub pair_refused : (r : Refusal) → pair_validity_in s x y ≡ Err r → Err r ≡ pair_by s x y
  unfolding pair_by
  pair_refused r e = ap (λ (v : Result Unit Refusal). pair_unless v (pair_from_table_lem s x y)) (sym e)

  pub pair_answered : pair_validity_in s x y ≡ Ok tt → (a : Option Pair) → a ≡ pair_from_table_lem s x y → Ok a ≡ pair_by s x y
  unfolding pair_by
  pair_answered e a p = ap Ok p ∙ ap (λ (v : Result Unit Refusal). pair_unless v (pair_from_table_lem s x y)) (sym e)

  pub pair_valid : pair_validity_in s x y ≡ Ok tt → (head_ok_lem s ≡ true) × (x < variables_in s) × (y < variables_in s)
  unfolding pair_validity_in
  pair_valid e =
      let p = or_valid (refuse_if (not (head_ok_lem s)) no_state) (refuse_if (not (ltb x (variables_in s))) (BadVariable 0) or_else refuse_if (not (ltb y (variables_in s))) (BadVariable 1)) e in
      let q = or_valid (refuse_if (not (ltb x (variables_in s))) (BadVariable 0)) (refuse_if (not (ltb y (variables_in s))) (BadVariable 1)) p.1 in (
        not_no (head_ok_lem s) (not_refused _ _ p.0),
        ltb-true x (variables_in s) (not_no _ (not_refused _ _ q.0)),
        ltb-true y (variables_in s) (not_no _ (not_refused _ _ q.1)),
      )
