-- At a state that stands, a session's questions answer what the questions about a list answer on the lines so far.
use Rattle.lines.specs.declared.Refusal.{Refusal}
use Rattle.std.specs.Prelude.{◌≡◌, Bool, not, cond, List, ℕ, ◌*◌, ◌≤◌, ℤ, length, Err, Ok, Option, Result}
use Rattle.std.proofs.Math.Path.{refl, sym, ap}
use Rattle.std.proofs.Common.{ap₂, subst, ◌∙◌, arith}
use Rattle.std.proofs.Math.Bool.{true, false}
use borrow.Author.Tests.{ltb-true, le-ltb}
use Rattle.std.proofs.Math.Dec.{ltb}
use Rattle.lines.specs.declared.Line.{Line}
use Rattle.lines.specs.declared.Refusal.TheVariants.{BadVariable}
use Rattle.lines.specs.Line.{line_count, lines_of, numbers_of}
use Rattle.lines.specs.LineNumbers.{length_numbers_of, lines_of_numbers}
use Rattle.lines.specs.Refusal.{◌or_else◌, refuse_if, line_validity_lem}
use Rattle.steps.specs.Step.{steps_of}
use Rattle.theory_bounds.specs.Verdict.{verdict_of, distances}
use Rattle.decide_buffers.specs.Room.{ModelLent, model_lengths_of, model_rooms, first_short, work_room_lem}
use Rattle.decide.specs.Decided.{cleared}
use Rattle.implied_line.specs.declared.LineAnswer.TheVariants.{Implied, NotImplied, Unsolvable}
use Rattle.implied_line.specs.Answer as line
use Rattle.implied_line.specs.Answer.{question_validity_lem, implied_answer, unless_refused}
use Rattle.opposite_line.specs.Opposite.{opposed}
use Rattle.implied_pair.specs.declared.Pair.{Pair}
use Rattle.implied_pair.specs.Pair as pairs
use Rattle.implied_pair.specs.Pair.{pair_in_lem, pair_validity_lem, pair_call}
use Rattle.session_step.specs.Read.{small_table}
use Rattle.session_step.specs.Meaning.{TableFor}
use Rattle.session_state.specs.State.{table_for, variables_in, count_in, table_in}
use Rattle.session_state.specs.Laws.{state_head_ok}
use Rattle.session_questions.specs.Asked.{line_implied}
use Rattle.session_questions.specs.Meaning.{pair_is, asked_is_judged}
use Rattle.session_promise.specs.Promise.{Stands}
use Rattle.session_promise.specs.Standing.{is_state, variables, count, refused_in_law, table_read, table_holds}
use Rattle.session_asked.specs.Asked.{line_validity_in, line_by, line_from_table_lem, pair_validity_in, pair_from_table_lem, pair_unless, pair_by}

-- the table that is read is that of the lines, where the last answer was no no
holds : {n : ℕ} {ls : List Line} {s : List ℤ} → Stands n ls false s → TableFor n (steps_of (lines_of (numbers_of ls))) (table_in n s)
holds {n} {ls} {s} k =
    subst (λ (t : List ℤ). TableFor n (steps_of (lines_of (numbers_of ls))) t) (sym (table_read k))
    (subst (λ (ms : List Line). TableFor n (steps_of ms) (table_for n ls)) (sym (lines_of_numbers ls)) (table_holds n ls k.valid k.solvable))

module _ {n : ℕ} {ls : List Line} {r : Bool} {s : List ℤ} (k : Stands n ls r s) where
  abbrev L : List ℤ
  L = numbers_of ls

  verdict_is : verdict_of n (lines_of L) ≡ not r
  verdict_is = ap (verdict_of n) (lines_of_numbers ls) ∙ k.verdict

  counted : count_in s ≡ line_count L
  counted = omega (arith, count k, length_numbers_of ls)

  -- ---- a line
  module _ (l : Line) where
    validity_is : line_validity_in s l ≡ line_validity_lem n (line_count L) l
    unfolding line_validity_in
    validity_is = rw (state_head_ok s (is_state k)) (ap₂ (λ (m j : ℕ). line_validity_lem m j l) (variables k) counted)

    from_table : line_validity_lem n (line_count L) l ≡ Ok tt → line_from_table_lem s l ≡ line.judged n L l
    from_table v = go r refl
      where
        go : (q : Bool) → r ≡ q → line_from_table_lem s l ≡ line.judged n L l
        go true e =
            ap (λ (b : Bool). cond b Unsolvable (cond (line_implied (small_table (2 * variables_in s) (table_in (variables_in s) s)) l) Implied NotImplied)) (refused_in_law k ∙ e)
            ∙ ap (λ (b : Bool). line.judged_by b (verdict_of n (lines_of (opposed L l)))) (sym (verdict_is ∙ ap not e))
        go false e =
            ap (λ (b : Bool). cond b Unsolvable (cond (line_implied (small_table (2 * variables_in s) (table_in (variables_in s) s)) l) Implied NotImplied)) (refused_in_law k ∙ e)
            ∙ ap (λ (m : ℕ). cond (line_implied (small_table (2 * m) (table_in m s)) l) Implied NotImplied) (variables k)
            ∙ asked_is_judged n L (table_in n s) (holds (subst (λ (q : Bool). Stands n ls q s) e k)) k.valid (verdict_is ∙ ap not e) l v

    line_is : line_by s l ≡ unless_refused (line_validity_lem n (line_count L) l) (line.judged n L l)
    unfolding line_by
    line_is = ap (λ (v : Result Unit Refusal). unless_refused v (line_from_table_lem s l)) validity_is ∙ go (line_validity_lem n (line_count L) l) refl
      where
        go : (v : Result Unit Refusal) → line_validity_lem n (line_count L) l ≡ v → unless_refused v (line_from_table_lem s l) ≡ unless_refused v (line.judged n L l)
        go (Ok _) e = ap Ok (from_table e)
        go (Err q) e = refl

    -- the answer is that of the question about a list, with lent buffers that have their room
    pub line_is_implied : (b : ModelLent) → first_short model_rooms n (model_lengths_of b) ≡ Ok tt → line_by s l ≡ line.answer_for n (numbers_of ls) l b
    unfolding implied_answer question_validity_lem
    line_is_implied b room = line_is ∙ sym (rw (k.valid, room) (go (line_validity_lem n (line_count L) l)))
      where
        go : (v : Result Unit Refusal) → unless_refused (v or_else Ok tt) (line.judged n L l) ≡ unless_refused v (line.judged n L l)
        go (Ok _) = refl
        go (Err q) = refl

  -- ---- two variables
  module _ (x y : ℕ) where
    -- by the verdict and the distances
    abbrev due : Option Pair
    due = pairs.judged (verdict_of n (lines_of L)) (pair_in_lem (distances n (lines_of L)) x y)

    two_is : pair_validity_in s x y ≡ (refuse_if (not (ltb x n)) (BadVariable 0) or_else refuse_if (not (ltb y n)) (BadVariable 1))
    unfolding pair_validity_in
    two_is = rw (state_head_ok s (is_state k)) (ap (λ (m : ℕ). refuse_if (not (ltb x m)) (BadVariable 0) or_else refuse_if (not (ltb y m)) (BadVariable 1)) (variables k))

    from_distances : ltb x n ≡ true → ltb y n ≡ true → pair_from_table_lem s x y ≡ pairs.judged (verdict_of n (lines_of L)) (pair_in_lem (distances n (lines_of L)) x y)
    from_distances hx hy = go r refl
      where
        read : Pair
        read = pair_in_lem (small_table (2 * variables_in s) (table_in (variables_in s) s)) x y

        go : (q : Bool) → r ≡ q → pair_from_table_lem s x y ≡ pairs.judged (verdict_of n (lines_of L)) (pair_in_lem (distances n (lines_of L)) x y)
        go true e =
            ap (λ (b : Bool). pairs.judged (not b) read) (refused_in_law k ∙ e)
            ∙ ap (λ (b : Bool). pairs.judged b (pair_in_lem (distances n (lines_of L)) x y)) (sym (verdict_is ∙ ap not e))
        go false e =
            ap (λ (b : Bool). pairs.judged (not b) read) (refused_in_law k ∙ e)
            ∙ ap (λ (m : ℕ). pairs.judged true (pair_in_lem (small_table (2 * m) (table_in m s)) x y)) (variables k)
            ∙ ap (pairs.judged true) (pair_is n L (table_in n s) (holds (subst (λ (q : Bool). Stands n ls q s) e k)) x y (ltb-true x n hx) (ltb-true y n hy))
            ∙ ap (λ (b : Bool). pairs.judged b (pair_in_lem (distances n (lines_of L)) x y)) (sym (verdict_is ∙ ap not e))

    -- the answer is that of the question about a list, with a work area that has its room
    pub pair_is_implied : (w : List ℤ) → work_room_lem n ≤ length w → pair_by s x y ≡ (pair_call n (numbers_of ls) x y w).answer
    unfolding pair_by pair_call pair_validity_lem
    pair_is_implied w room =
        ap (λ (v : Result Unit Refusal). pair_unless v (pair_from_table_lem s x y)) two_is
        ∙ go (ltb x n) (ltb y n) refl refl
        ∙ sym (rw (k.valid, le-ltb (length w) (work_room_lem n) room) (again (ltb x n) (ltb y n)))
      where
        go : (p q : Bool) → ltb x n ≡ p → ltb y n ≡ q
            → pair_unless (refuse_if (not p) (BadVariable 0) or_else refuse_if (not q) (BadVariable 1)) (pair_from_table_lem s x y) ≡ pair_unless (refuse_if (not p) (BadVariable 0) or_else refuse_if (not q) (BadVariable 1)) due
        go true true e f = ap Ok (from_distances e f)
        go true false e f = refl
        go false q e f = refl

        again : (p q : Bool)
            → (pairs.unless_refused (refuse_if (not p) (BadVariable 0) or_else refuse_if (not q) (BadVariable 1) or_else Ok tt) (pairs.called (Ok due) (cleared n w)) w).answer
            ≡ pair_unless (refuse_if (not p) (BadVariable 0) or_else refuse_if (not q) (BadVariable 1)) due
        again true true = refl
        again true false = refl
        again false q = refl
