-- What was asked of sizes, in the words of docs/SPECIFICATION.md, each statement proved by citing the rest. On a list of n variables, with M the limit on d:
-- every value of a model lies within ±n·M, and so does every bound that is there; every implied sum or difference lies within twice that; the model that shows
-- that a line is not implied lies within ±n·(M + 1). Both are within the ±2·n·M that was asked for. All values of models fit 32 bits. These sizes are reached:
-- `chain_list` has a value, and a bound, of n·M.
use Rattle.std.specs.Prelude.{◌≡◌, refl, ◌⊎◌, Bool, true, false, cond, ◌&&◌, List, [], ◌∷◌, ◌++◌, ℕ, zero, suc, ◌+◌, ◌*◌, ◌%◌, ◌≤◌, ◌<◌, ℤ, pos, neg_ℤ, ◌+ℤ◌, length, get_or, take, Ok}
use Rattle.std.proofs.Common.{sym, ap, ◌∙◌, inl, inr, arith, SFits}
use Rattle.std.specs.Int.{w32}
use Rattle.std.specs.Int.Signed.{le_z, lt_z}
use Rattle.integers.specs.Integer.{◌⩽◌, ◌⋖◌, eq_z, Within}
use Rattle.integers.proofs.Linear.{ints, given, given₂}
use Rattle.integers.specs.Laws.{both_true}
use Rattle.integers.proofs.Halving.{abs_within}
use Rattle.integers.specs.Sequence.{length_tabulate}
use Rattle.lines.specs.declared.Line.{Line}
use Rattle.lines.specs.Limits.{line_size, max_variables, max_lines, max_constant, model_constant, absent_least, absent_greatest}
use Rattle.lines.specs.Line.{line_count, lines_of, numbers_of, Assignment, assignment_of, Meets, Solvable}
use Rattle.lines.specs.LineNumbers.{length_numbers_of, lines_of_numbers, lines_snoc}
use Rattle.lines.specs.Refusal.{coefficients_ok_lem, variable_ok_lem, variables_ok_lem, lone_ok_lem, constant_ok_lem, identifier_ok_lem, line_validity_lem, lines_validity_lem}
use Rattle.lines.specs.Valid.{AllOk, valid_list, workable, modellable_works, list_valid, lines_valid}
use Rattle.theory_answers.specs.Semantics.{value_of, sum_of, IsModel, IsGreatest, LeastWritten, GreatestWritten}
use Rattle.theory_answers.specs.Meaning.{model_is_model, only_model}
use Rattle.theory_answers.specs.Small.{works_above, valid_within, model_small, value_small, sum_small, least_small}
use Rattle.theory_answers.specs.Chain.{chain_line, chain, climbing, chain_solved, chain_model, chain_is_least}
use Rattle.theory_answers.specs.Decided.{lines_ok, solvable_yes}
use Rattle.theory_answers.specs.Unique.{one_least, one_greatest}
use Rattle.decide_buffers.specs.Room.{Lent, model_room_lem}
use Rattle.decide.specs.declared.Answer.TheVariants as decide
use Rattle.decide.specs.Parts.{model_in_lem, bounds_in, yes_answers}
use Rattle.c_implied.specs.Calls.{outcome_of, given_pair}
use Rattle.implied_pair.specs.Meaning.{number_for}
use Rattle.implied_line.specs.declared.LineAnswer.TheVariants.{NotImplied}
use Rattle.opposite_line.specs.Opposite.{opposite, opposed, opposed_works, opposed_modellable, meets_opposite}
use Rattle.session_promise.specs.Promise.{Adds}
use Rattle.session_promise.specs.Sequence.{Reached}
use Rattle.demands.specs.Calls.{Engine, CallOf, Call, call_valid, call_yes, call_written}
use Rattle.demands.specs.Demands.{ValidFor, right_answer}
use Rattle.demands.specs.Shown.{value_small as shown-small}
use Rattle.demands.specs.PairCalls.{PairAsked, asked_ok, implied_verdict}
use Rattle.demands.specs.Implied.{right_pair}
use Rattle.demands.specs.ImpliedLine.{LineCall, was_asked, right_line}
use Rattle.demands.specs.Sessions.{add_is_a_call}

-- ---- models

-- Of every call that answered yes, of either engine.
pub model_within : {e : Engine} (n : ℕ) (L : List ℤ) (c : CallOf e n L) → c.answer ≡ Ok decide.Yes → (k : ℕ) → k < n → Within (n * max_constant) (get_or (model_in_lem n c.after) k (pos 0))
model_within n L c e k h =
    let w = call_written c e in
    abs_within (n * max_constant) _ (shown-small n L _ _ _ (call_valid c) w k (omega (arith, w.model_length)))

-- So it is in a session, after any calls.
pub session_model_within : (n : ℕ) (ls : List Line) (refused : Bool) (s : List ℤ) → Reached n ls refused s → (l : Line) (b : Lent) (t : List ℤ) (a : Lent) → Adds s l (Ok decide.Yes) b t a
    → (k : ℕ) → k < n → Within (n * max_constant) (get_or (model_in_lem n a) k (pos 0))
session_model_within n ls refused s p l b t a d =
    model_within n (numbers_of (ls ++ l ∷ [])) (add_is_a_call n ls refused s p l (Ok decide.Yes) b t a d yes_answers) refl

-- Where a line is not implied, the model is that of the list with the opposite line behind it, whose d may pass its limit by one.
pub line_model_within : (n : ℕ) (L : List ℤ) (l : Line) (c : LineCall n L l) → c.answer ≡ Ok NotImplied
    → (k : ℕ) → k < n → Within (n * model_constant) (get_or (take (model_room_lem n) c.after.model) k (pos 0))
line_model_within n L l c e k h =
    let v = was_asked c in
    let ok = opposed_modellable n (line_count L) L l v.list v.line in
    abs_within (n * model_constant) _ (model_small n model_constant (lines_of (opposed L l)) (lines_ok n (opposed L l) (modellable_works n (opposed L l) ok)) (works_above model_constant n (opposed L l) ok) _ ((right_line n L l c).model e).model_is k h)

-- ---- so 32 bits hold them

fits : (m : ℕ) (z : ℤ) → m ≤ max_variables * model_constant → Within m z → SFits w32 z
fits m z few w = given₂ w.low w.high (simp ints (omega arith))

pub model_fits : {e : Engine} (n : ℕ) (L : List ℤ) (c : CallOf e n L) → c.answer ≡ Ok decide.Yes → (k : ℕ) → k < n → SFits w32 (get_or (model_in_lem n c.after) k (pos 0))
model_fits n L c e k h = fits (n * max_constant) _ (omega (arith, (valid_list n L (call_valid c)).variables)) (model_within n L c e k h)

pub line_model_fits : (n : ℕ) (L : List ℤ) (l : Line) (c : LineCall n L l) → c.answer ≡ Ok NotImplied → (k : ℕ) → k < n → SFits w32 (get_or (take (model_room_lem n) c.after.model) k (pos 0))
line_model_fits n L l c e k h = fits (n * model_constant) _ (omega (arith, (valid_list n L (was_asked c).list).variables)) (line_model_within n L l c e k h)

-- ---- bounds, sums and differences

-- z is the number for none, or lies within m
abbrev pub NoneOrWithin : ℤ → ℕ → ℤ → Type 0
NoneOrWithin absent m z = (z ≡ absent) ⊎ Within m z

-- Every bound that is there.
pub bounds_within : {e : Engine} (n : ℕ) (L : List ℤ) (c : CallOf e n L) → c.answer ≡ Ok decide.Yes → (x : ℕ) → x < n
    → NoneOrWithin absent_least (n * max_constant) (get_or (bounds_in n c.after) (2 * x) (pos 0)) × NoneOrWithin absent_greatest (n * max_constant) (get_or (bounds_in n c.after) (2 * x + 1) (pos 0))
bounds_within n L c e x h =
    let w = call_written c e in
    (least w.model_is _ (w.least_is x h), greatest w.model_is _ (w.greatest_is x h))
  where
    ok : AllOk n (lines_of L)
    ok = lines_ok n L (workable n L (call_valid c))

    least : {m : Assignment} → IsModel n (lines_of L) m → (z : ℤ) → LeastWritten (lines_of L) x z → NoneOrWithin absent_least (n * max_constant) z
    least {m} i z (inl a) = inr (least_small n max_constant (lines_of L) ok (valid_within n L (call_valid c)) m i x z h a)
    least i z (inr a) = inl a.1

    greatest : {m : Assignment} → IsModel n (lines_of L) m → (z : ℤ) → GreatestWritten (lines_of L) (value_of x) z → NoneOrWithin absent_greatest (n * max_constant) z
    greatest {m} i z (inl a) = inr (value_small n max_constant (lines_of L) ok (valid_within n L (call_valid c)) m i x 0 z h a)
    greatest i z (inr a) = inl a.1

-- Every greatest value of x + y, x − y, −x + y or −x − y that is there: twice as much.
pub pair_within : (n : ℕ) (L : List ℤ) (x y : ℕ) (c : PairAsked n L x y) → outcome_of c.answer ≡ Ok true
    → (s u : ℕ) → s < 2 → u < 2 → NoneOrWithin absent_greatest (2 * (n * max_constant)) (number_for (given_pair c.answer) s u)
pair_within n L x y c i s u hs hu = go _ (((right_pair n L x y c).greatest i).greatest s u hs hu)
  where
    ok : AllOk n (lines_of L)
    ok = lines_ok n L (workable n L (asked_ok c).list)

    go : (z : ℤ) → GreatestWritten (lines_of L) (sum_of s x u y) z → NoneOrWithin absent_greatest (2 * (n * max_constant)) z
    go z (inl a) =
        inr (sum_small n max_constant (lines_of L) ok (valid_within n L (asked_ok c).list) _ (model_is_model n (lines_of L) ok (implied_verdict c i)) x s y u z (asked_ok c).x_below (asked_ok c).y_below a)
    go z (inr a) = inl a.1

-- ---- the sizes are reached

-- Variable 0 is at least M, and each other at least M more than the one before.
abbrev pub chain_list : ℕ → List ℤ
chain_list n = numbers_of (chain max_constant n)

chain_lines : (n : ℕ) → lines_of (chain_list n) ≡ chain max_constant n
chain_lines n = lines_of_numbers (chain max_constant n)

variable_right : (n : ℕ) (a x : ℤ) → eq_z a (pos 0) ≡ false → pos 0 ⩽ x → x ⋖ pos n → variable_ok_lem n a x ≡ true
unfolding variable_ok_lem
variable_right n a x e l h =
    ap (λ (b : Bool). cond b (eq_z x (pos 0)) (le_z (pos 0) x && lt_z x (pos n))) e
    ∙ both_true (le_z (pos 0) x) (lt_z x (pos n)) (given l (simp ints (omega arith))) (given h (simp ints (omega arith)))

variables_right : (n k : ℕ) → k < n → variables_ok_lem n (chain_line max_constant k) ≡ true
unfolding variables_ok_lem variable_ok_lem
variables_right n zero h =
    both_true (variable_ok_lem n (neg_ℤ (pos 1)) (pos 0)) (variable_ok_lem n (pos 0) (pos 0)) (variable_right n (neg_ℤ (pos 1)) (pos 0) refl (simp ints (omega arith)) (simp ints (omega arith))) refl
variables_right n (suc k) h =
    both_true (variable_ok_lem n (pos 1) (pos k)) (variable_ok_lem n (neg_ℤ (pos 1)) (pos (suc k)))
    (variable_right n (pos 1) (pos k) refl (simp ints (omega arith)) (simp ints (omega arith)))
    (variable_right n (neg_ℤ (pos 1)) (pos (suc k)) refl (simp ints (omega arith)) (simp ints (omega arith)))

line_right : (n k : ℕ) → k < n → line_validity_lem n 0 (chain_line max_constant k) ≡ Ok tt
unfolding coefficients_ok_lem lone_ok_lem constant_ok_lem identifier_ok_lem
line_right n zero h = rw (variables_right n zero h)
line_right n (suc k) h = rw (variables_right n (suc k) h)

-- It is valid for each n that is not refused.
pub chain_is_valid : (n : ℕ) → n ≤ max_variables → ValidFor n (chain_list n)
chain_is_valid n few =
    let size = length_numbers_of (chain max_constant n) in
    let whole : length (chain_list n) % line_size ≡ 0 = omega (arith, size) in
    let count : line_count (chain_list n) ≤ max_lines = omega (arith, size, length_tabulate n (chain_line max_constant), few) in
    list_valid n (chain_list n) few whole count (ap (lines_validity_lem n 0) (chain_lines n) ∙ lines_valid n n (chain_line max_constant) 0 (line_right n))

chain_solvable : (n : ℕ) → Solvable (lines_of (chain_list n))
chain_solvable n = record { assignment = climbing max_constant; solves = rw (chain_lines n) (chain_solved max_constant n) }

-- The last variable, number k, has n·M, as a value and as its least.
pub record ChainReaches (n k : ℕ) (c : Call n (chain_list n)) : Type 0 where
  pub answer : c.answer ≡ Ok decide.Yes
  pub value : get_or (model_in_lem n c.after) k (pos 0) ≡ pos (n * max_constant)
  pub least : get_or (bounds_in n c.after) (2 * k) (pos 0) ≡ pos (n * max_constant)

pub chain_reaches : (n k : ℕ) → suc k ≡ n → (c : Call n (chain_list n)) → ChainReaches n k c
chain_reaches n k last c = record { answer = answer; value = value; least = least }
  where
    answer : c.answer ≡ Ok decide.Yes
    answer = (right_answer n (chain_list n) c).yes_exactly.1 (chain_solvable n)

    value : get_or (model_in_lem n c.after) k (pos 0) ≡ pos (n * max_constant)
    value =
        let ok = lines_ok n (chain_list n) (workable n (chain_list n) (call_valid c)) in
        let one = only_model n (lines_of (chain_list n)) ok (call_yes c answer) in
        let reached : IsModel n (lines_of (chain_list n)) (climbing max_constant) = rw (chain_lines n) (chain_model max_constant n) in
        one (assignment_of (model_in_lem n c.after)) (call_written c answer).model_is k (omega arith)
        ∙ sym (one (climbing max_constant) reached k (omega arith))
        ∙ ap (λ (j : ℕ). pos (j * max_constant)) last

    least : get_or (bounds_in n c.after) (2 * k) (pos 0) ≡ pos (n * max_constant)
    least =
        let reached : LeastWritten (lines_of (chain_list n)) k (pos (suc k * max_constant)) = rw (chain_lines n) (inl (chain_is_least max_constant n k (omega arith))) in
        one_least (lines_of (chain_list n)) k _ (pos (suc k * max_constant)) ((call_written c answer).least_is k (omega arith)) reached
        ∙ ap (λ (j : ℕ). pos (j * max_constant)) last

-- Asked with itself, −x − x of it has −2·n·M.
pub chain_pair_reaches : (n k : ℕ) → suc k ≡ n → (c : PairAsked n (chain_list n) k k) → number_for (given_pair c.answer) 1 1 ≡ neg_ℤ (pos (2 * (n * max_constant)))
chain_pair_reaches n k last c =
    let r = right_pair n (chain_list n) k k c in
    let implied = r.implied_exactly.1 (chain_solvable n) in
    one_greatest (lines_of (chain_list n)) (sum_of 1 k 1 k) _ (neg_ℤ (pos (2 * (suc k * max_constant)))) ((r.greatest implied).greatest 1 1 (omega arith) (omega arith)) (rw (chain_lines n) (inl reached))
    ∙ ap (λ (j : ℕ). neg_ℤ (pos (2 * (j * max_constant)))) last
  where
    twice : (z : ℤ) (m : ℕ) → pos m ⩽ z → neg_ℤ z +ℤ neg_ℤ z ⩽ neg_ℤ (pos (2 * m))
    twice z m = simp ints (omega arith)

    taken : (m : ℕ) → neg_ℤ (pos m) +ℤ neg_ℤ (pos m) ≡ neg_ℤ (pos (2 * m))
    taken m = simp ints (omega arith)

    reached : IsGreatest (chain max_constant n) (sum_of 1 k 1 k) (neg_ℤ (pos (2 * (suc k * max_constant))))
    reached =
        record {
          bounds = λ t h. twice (t k) (suc k * max_constant) ((chain_is_least max_constant n k (omega arith)).bounds t h);
          taken_by = climbing max_constant;
          solves = chain_solved max_constant n;
          taken = taken (suc k * max_constant);
        }

-- The line x ≤ M is not implied where there are no lines: x is then at least M + 1.
abbrev pub most_line : Line
most_line = record { a = pos 1; x = pos 0; b = pos 0; y = pos 0; d = pos max_constant; identifier = pos 0 }

opposite_most : opposite most_line ≡ chain_line model_constant 0
unfolding opposite
opposite_most = refl

pub line_reaches : (c : LineCall 1 [] most_line) → (c.answer ≡ Ok NotImplied) × (get_or (take (model_room_lem 1) c.after.model) 0 (pos 0) ≡ pos (1 * model_constant))
line_reaches c = (answer, value)
  where
    lines : lines_of (opposed [] most_line) ≡ chain model_constant 1
    lines = lines_snoc [] (opposite most_line) refl ∙ ap (λ (l : Line). l ∷ []) opposite_most

    broken : Meets (climbing model_constant) most_line → ⊥
    broken = (meets_opposite (climbing model_constant) most_line).0 (rw opposite_most (chain_solved model_constant 1).0)

    answer : c.answer ≡ Ok NotImplied
    answer = (right_line 1 [] most_line c).no_exactly.1 (record { assignment = climbing model_constant; solves = tt; breaks = broken })

    value : get_or (take (model_room_lem 1) c.after.model) 0 (pos 0) ≡ pos (1 * model_constant)
    value =
        let v = was_asked c in
        let works = opposed_works 1 0 [] most_line v.list v.line in
        let ok = lines_ok 1 (opposed [] most_line) works in
        let m = (right_line 1 [] most_line c).model answer in
        let one = only_model 1 (lines_of (opposed [] most_line)) ok (solvable_yes 1 (opposed [] most_line) works (record { assignment = _; solves = m.model_is.solves })) in
        let reached : IsModel 1 (lines_of (opposed [] most_line)) (climbing model_constant) = rw lines (chain_model model_constant 1) in
        one _ m.model_is 0 (omega arith) ∙ sym (one (climbing model_constant) reached 0 (omega arith))
