-- What was asked of the pair, in the words of docs/SPECIFICATION.md, each statement proved by citing the rest: for two variables x and y of a list the greatest
-- value over all solutions of x + y, x − y, −x + y and −x − y.
--
-- A reader has to believe the meaning of the words (`IsPair` in implied_pair/specs/Meaning.antt, over `IsGreatest` and `NoGreatest` in
-- theory_answers/specs/Semantics.antt), the table of refusals (`pair_table` in Refusals.antt) and what a call is (`PairAsked` in PairCalls.antt), and nothing of
-- how the numbers are computed. The promise of the code is an equation, for every input: `implied_pair` answers and leaves `pair_call`
-- (implied_pair/specs/Pair.antt), and the exported function returns `pair_returned` (c_implied/specs/Calls.antt).
use Rattle.std.specs.Prelude.{◌≡◌, refl, ◌↔◌, Bool, true, false, List, ◌++◌, ℕ, ◌<◌, ℤ, pos, ◌+ℤ◌, length, Err, Ok, Option, Result, Some}
use Rattle.std.proofs.Common.{sym, ap, subst, ◌∙◌, arith}
use Rattle.integers.specs.Integer.{◌⩽◌}
use Rattle.lines.specs.declared.Refusal.{Refusal}
use Rattle.lines.specs.Limits.{absent_greatest}
use Rattle.lines.specs.Line.{lines_of, Solvable, SameSolutions}
use Rattle.lines.specs.Valid.{valid_list, workable}
use Rattle.theory_bounds.specs.Verdict.{verdict_of}
use Rattle.theory_answers.specs.Semantics.{value_of, sum_of, IsGreatest, NoGreatest}
use Rattle.theory_answers.specs.Decided.{yes_solvable, no_unsolvable, solvable_yes, unsolvable_no}
use Rattle.theory_answers.specs.Longer.{yes_before, longer_entails}
use Rattle.theory_answers.specs.Same.{same_verdict, greatest_too}
use Rattle.decide.specs.Decided.{cleared}
use Rattle.implied_pair.specs.declared.Pair.{Pair}
use Rattle.implied_pair.specs.Pair.{PairCall, called, pair_call}
use Rattle.implied_pair.specs.Called.{PairOk}
use Rattle.implied_pair.specs.Meaning.{number_for, IsPair, computed_pair, one_pair, absent_exactly, number_falls, itself, twice, twice_absent}
use Rattle.c_implied.specs.declared.CPair.{CPair}
use Rattle.c_implied.specs.Calls.{outcome_of, no_pair, given_pair, returns, pair_returned}
use Rattle.demands.specs.Refusals.{asking_pair, refusal_table, FirstApplies}
use Rattle.demands.specs.Refused.{table_refuses}
use Rattle.demands.specs.PairCalls.{PairAsked, asked_ok, asked_work, asked_answer, verdict_implied, verdict_unsolvable, implied_verdict, unsolvable_verdict, refused_left, asked_from, ReturnedPair, returned_pair}

-- ---- refusals

-- It answers by the first refusal that applies: the list's, then 5 at place 0 for an x and at place 1 for a y that is no variable of the list, then 8.
pub pair_refused_exactly_if : (n : ℕ) (L : List ℤ) (x y : ℕ) (answer : Result (Option Pair) Refusal) (before after : List ℤ) → called answer after ≡ pair_call n L x y before
    → (r : Refusal) → (answer ≡ Err r) ↔ FirstApplies (refusal_table (asking_pair n L x y before)) r
pair_refused_exactly_if n L x y answer before after e r =
    let o = ap (λ (c : PairCall). c.answer) e in
    let t = table_refuses (asking_pair n L x y before) r in ((λ i. t.0 (sym o ∙ i)), (λ f. o ∙ t.1 f))

-- A refusal leaves the work area as it was, and its four numbers are zeros.
pub pair_refusal_changes_nothing : (n : ℕ) (L : List ℤ) (x y : ℕ) (answer : Result (Option Pair) Refusal) (before after : List ℤ) → called answer after ≡ pair_call n L x y before
    → (r : Refusal) → answer ≡ Err r → (after ≡ before) × (given_pair answer ≡ no_pair)
pair_refusal_changes_nothing = refused_left

-- Every valid list, with two of its variables and a work area that has room, has a call that is not refused, whatever stood there.
pub pair_calls_exist : (n : ℕ) (L : List ℤ) (x y : ℕ) (before : List ℤ) → PairOk n L x y (length before) → (c : PairAsked n L x y) × (c.before ≡ before)
pair_calls_exist = asked_from

-- ---- the answer

pub record RightPair (n : ℕ) (L : List ℤ) (x y : ℕ) (c : PairAsked n L x y) : Type 0 where
  -- A list without a solution is answered as such, with four zeros.
  pub implied_exactly : (outcome_of c.answer ≡ Ok true) ↔ Solvable (lines_of L)
  pub unsolvable_exactly : (outcome_of c.answer ≡ Ok false) ↔ (Solvable (lines_of L) → ⊥)
  pub zeros : outcome_of c.answer ≡ Ok false → (given_pair c.answer) ≡ no_pair
  -- Else each of the four numbers is the greatest value of its sum over all solutions, which some solution takes, or the highest 64-bit number where
  -- values pass every bound; and it is that number exactly there.
  pub greatest : outcome_of c.answer ≡ Ok true → IsPair (lines_of L) x y (given_pair c.answer)
  pub absent : outcome_of c.answer ≡ Ok true → (s u : ℕ) → s < 2 → u < 2 → (number_for (given_pair c.answer) s u ≡ absent_greatest) ↔ NoGreatest (lines_of L) (sum_of s x u y)
  -- No other numbers have this meaning.
  pub only : (pair : Pair) → IsPair (lines_of L) x y pair → outcome_of c.answer ≡ Ok true → pair ≡ (given_pair c.answer)
  -- The named part of the work area is all zeros, and the rest is untouched.
  pub work : c.after ≡ cleared n c.before

pair_of : {n : ℕ} {L : List ℤ} {x y : ℕ} (c : PairAsked n L x y) → outcome_of c.answer ≡ Ok true → IsPair (lines_of L) x y (given_pair c.answer)
pair_of {n} {L} {x} {y} c i =
    let o = asked_ok c in
    let v = implied_verdict c i in
    subst (λ (a : Result (Option Pair) Refusal). IsPair (lines_of L) x y (given_pair a)) (sym (asked_answer c true v)) (computed_pair n L o.list v x y o.x_below o.y_below)

pub right_pair : (n : ℕ) (L : List ℤ) (x y : ℕ) (c : PairAsked n L x y) → RightPair n L x y c
right_pair n L x y c =
    let o = asked_ok c in
    let works = workable n L o.list in
    record {
      implied_exactly = ((λ i. yes_solvable n L works (implied_verdict c i)), (λ s. verdict_implied c (solvable_yes n L works s)));
      unsolvable_exactly = ((λ i. no_unsolvable n L works (unsolvable_verdict c i)), (λ f. verdict_unsolvable c (unsolvable_no n L works f)));
      zeros = λ i. ap given_pair (asked_answer c false (unsolvable_verdict c i));
      greatest = pair_of c;
      absent = λ i s u hs hu. absent_exactly n L o.list (implied_verdict c i) x y o.x_below o.y_below (given_pair c.answer) (pair_of c i) s u hs hu;
      only = λ pair p i.
          let v = implied_verdict c i in
          one_pair n L o.list v x y o.x_below o.y_below pair p ∙ sym (ap given_pair (asked_answer c true v));
      work = asked_work c;
    }

-- The same variable twice: x − x has 0, and x + x twice the greatest value of x.
pub record RightTwice (n : ℕ) (L : List ℤ) (x : ℕ) (c : PairAsked n L x x) : Type 0 where
  pub minus_itself : (number_for (given_pair c.answer) 0 1 ≡ pos 0) × (number_for (given_pair c.answer) 1 0 ≡ pos 0)
  pub twice_greatest : (z : ℤ) → IsGreatest (lines_of L) (value_of x) z → number_for (given_pair c.answer) 0 0 ≡ z +ℤ z
  pub twice_none : NoGreatest (lines_of L) (value_of x) → number_for (given_pair c.answer) 0 0 ≡ absent_greatest

pub right_twice : (n : ℕ) (L : List ℤ) (x : ℕ) (c : PairAsked n L x x) → outcome_of c.answer ≡ Ok true → RightTwice n L x c
right_twice n L x c i =
    let p = pair_of c i in
    let s = (right_pair n L x x c).implied_exactly.0 i in
    record {
      minus_itself = (itself (lines_of L) x _ p 0 1 (omega arith) (omega arith) (λ e. omega arith) s, itself (lines_of L) x _ p 1 0 (omega arith) (omega arith) (λ e. omega arith) s);
      twice_greatest = twice (lines_of L) x _ p;
      twice_none = twice_absent (lines_of L) x _ p;
    }

-- ---- nothing learned is unlearned when lines are added

-- Of two calls that were not refused, on a list and on one that begins with all its lines: if the longer has a solution, so has the shorter, and each of the
-- four numbers stays or falls, absent ones included.
pub pair_stays_or_falls : (n : ℕ) (L M : List ℤ) (x y : ℕ) (c : PairAsked n L x y) (d : PairAsked n (L ++ M) x y) → outcome_of d.answer ≡ Ok true
    → (outcome_of c.answer ≡ Ok true) × ((s u : ℕ) → s < 2 → u < 2 → number_for (given_pair d.answer) s u ⩽ number_for (given_pair c.answer) s u)
pair_stays_or_falls n L M x y c d i =
    let o = asked_ok c in
    let k = asked_ok d in
    let more = longer_entails L M (valid_list n L o.list).whole in
    let v = implied_verdict d i in
    let j = verdict_implied c (yes_before n L (L ++ M) (workable n L o.list) (workable n (L ++ M) k.list) more v) in
    (j, number_falls n (L ++ M) k.list v x y k.x_below k.y_below L more (given_pair c.answer) (given_pair d.answer) (pair_of c j) (pair_of d i))

-- Answers depend on the solutions alone: two lists with the same solutions have the same answer, whatever stood in the work area.
pub pair_by_solutions_alone : (n : ℕ) (L M : List ℤ) (x y : ℕ) (c : PairAsked n L x y) (d : PairAsked n M x y) → SameSolutions (lines_of L) (lines_of M) → c.answer ≡ d.answer
pair_by_solutions_alone n L M x y c d same = go (verdict_of n (lines_of L)) refl
  where
    verdicts : verdict_of n (lines_of L) ≡ verdict_of n (lines_of M)
    verdicts = same_verdict n L M (workable n L (asked_ok c).list) (workable n M (asked_ok d).list) same

    go : (t : Bool) → verdict_of n (lines_of L) ≡ t → c.answer ≡ d.answer
    go false e = asked_answer c false e ∙ sym (asked_answer d false (sym verdicts ∙ e))
    go true e =
        let u = sym verdicts ∙ e in
        let i = verdict_implied c e in
        let p = pair_of c i in
        let moved : IsPair (lines_of M) x y (given_pair c.answer) = record { row_length = p.row_length; greatest = λ s u hs hu. greatest_too (lines_of L) (lines_of M) same (p.greatest s u hs hu) } in
        asked_answer c true e ∙ ap given (sym (ap given_pair (asked_answer c true e)) ∙ (right_pair n M x y d).only (given_pair c.answer) moved (verdict_implied d u) ∙ ap given_pair (asked_answer d true u)) ∙ sym (asked_answer d true u)
      where
        given : Pair → Result (Option Pair) Refusal
        given pair = Ok (Some pair)

-- ---- the exported function

-- A result of 0 or 2,000,000 is a call that was not refused, so that all this holds of it: 0 is its pair, which the rows hold, and 2,000,000 a list without a
-- solution.
pub returned_pair_is_a_call : (n : ℕ) (L : List ℤ) (x y : ℕ) (r : CPair) (b a : List ℤ) → returns r a ≡ pair_returned n L x y b → pos 0 ⩽ r.result → ReturnedPair n L x y r b a
returned_pair_is_a_call = returned_pair
