-- Sequences of calls: which states a session reaches from a start, each call handed the state that the call before left, and what each call then promises,
-- as an equation over the session's lines.
--
-- The promise of a call is for any numbers. At a state that was reached it says more: by induction over the calls these numbers are `state_of` the session's
-- n, its lines and its last answer, and its lines are a valid list.
use Rattle.std.specs.Prelude.{◌≡◌, Bool, true, not, cond, ℕ, ◌+◌, ◌-◌, ◌*◌, ◌%◌, ◌<◌, ◌≤◌, ltb, ℤ, pos, take, drop, Err, Ok, Result}
use Rattle.std.proofs.Math.Path.{refl, ap, subst}
use Rattle.std.proofs.Common.{sym, ◌∙◌, arith, take_at, drop_at}
use Rattle.std.proofs.Math.Bool.{false}
use mathlib.Core.List.{List, [], ◌∷◌, ◌++◌, append_assoc, append-nil}
use borrow.Author.Tests.{ltb-false, le-ltb, eq-eqb, ne_eqb}
use Rattle.std.proofs.Math.Dec.{eqb}
use Rattle.std.proofs.Math.ListN.{length}
use Rattle.lines.specs.declared.Line.{Line}
use Rattle.lines.specs.declared.Refusal.{Refusal}
use Rattle.lines.specs.declared.Refusal.TheVariants.{TooManyVariables, BrokenLength, TooManyLines, AfterNo, NoLines}
use Rattle.lines.specs.Limits.{line_size, max_variables, max_lines}
use Rattle.lines.specs.Line.{line_count, lines_of, line_numbers_lem, numbers_of, Solvable}
use Rattle.lines.specs.LineNumbers.{length_numbers_of, lines_of_numbers}
use Rattle.lines.specs.Refusal.{◌or_else◌, refuse_if, line_validity_lem, lines_validity_lem, validity_of}
use Rattle.lines.specs.Valid.{or_valid, not_refused, workable}
use Rattle.theory_bounds.specs.Verdict.{verdict_of}
use Rattle.theory_answers.specs.Decided.{solvable_yes}
use Rattle.decide_buffers.specs.Room.{Lent, lengths_of, rooms_validity, decide_validity_lem}
use Rattle.decide.specs.declared.Answer.{Answer}
use Rattle.decide.specs.declared.Answer.TheVariants as decide
use Rattle.decide.specs.Decided.{NotRefused, unless_refused, answer_for, validity_for, Decided, decide_ok}
use Rattle.decide.specs.Parts.{answered_valid, yes_answers, no_answers, yes_verdict, no_verdict}
use Rattle.session_state.specs.State.{session_room_lem, state_of, kept, known_for, count_in, refused_in, known_in}
use Rattle.session_state.specs.Session.{numbers_more, length_more, length_state, kept_no}
use Rattle.session_remake.specs.Remade.{numbers_before, remade_is}
use Rattle.session_promise.specs.Promise.{Stands, start_answer, add_state, withdraw_answer, withdraw_state, learnt_known, known_before, AddLeft, Starts, Adds, Withdraws}
use Rattle.session_promise.specs.Standing.{variables_few, lines_few, stands, empty, shorter, shorter_yes, is_state, variables, count, refused_in_law, numbers, known_read, add_answer_law, pushed_to, popped_to, Learns, stand_learns}

-- ---- the states that are reached, with n, the lines so far and whether the last answer was a no; a refused call leaves the state as it was
pub data Reached : ℕ → List Line → Bool → List ℤ → Type 0 where
  by_start : {n : ℕ} {s t : List ℤ} → Starts n s (Ok tt) t → Reached n [] false t
  by_yes : {n : ℕ} {ls : List Line} {r : Bool} {s t : List ℤ} {l : Line} {b a : Lent} → Reached n ls r s → Adds s l (Ok decide.Yes) b t a → Reached n (ls ++ l ∷ []) false t
  by_no : {n : ℕ} {ls : List Line} {r : Bool} {s t : List ℤ} {l : Line} {b a : Lent} → Reached n ls r s → Adds s l (Ok decide.No) b t a → Reached n (ls ++ l ∷ []) true t
  by_withdrawal : {n : ℕ} (ls : List Line) (l : Line) {r : Bool} {s t : List ℤ} → Reached n (ls ++ l ∷ []) r s → Withdraws s (Ok tt) t → Reached n ls false t

-- ---- what a call does at a state that was reached
-- a line l is added; the answer is x, and t and a are what is left of the state s and the buffers b
pub record AddsTo (n : ℕ) (ls : List Line) (refused : Bool) (s : List ℤ) (l : Line) (x : Result Answer Refusal) (b : Lent) (t : List ℤ) (a : Lent) : Type 0 where
  pub after_no : refused ≡ true → x ≡ Err AfterNo
  -- the answer and the buffers are those of deciding all lines so far afresh
  pub afresh : refused ≡ false → Decided n (numbers_of (ls ++ l ∷ [])) x b a
  -- the line is part of the state, after a no too; what lies beyond is untouched
  pub yes : x ≡ Ok decide.Yes → t ≡ state_of n (ls ++ l ∷ []) false ++ drop (session_room_lem n) s
  pub no : x ≡ Ok decide.No → t ≡ state_of n (ls ++ l ∷ []) true ++ drop (session_room_lem n) s
  pub unchanged : (q : Refusal) → x ≡ Err q → (t ≡ s) × (a ≡ b)

-- the last line is withdrawn
pub record WithdrawsFrom (n : ℕ) (ls : List Line) (s : List ℤ) (x : Result Unit Refusal) (t : List ℤ) : Type 0 where
  pub none : ls ≡ [] → (x ≡ Err NoLines) × (t ≡ s)
  pub last : (ms : List Line) (l : Line) → ls ≡ ms ++ l ∷ [] → (x ≡ Ok tt) × (t ≡ state_of n ms false ++ drop (session_room_lem n) s)

-- ---- one line more: it is refused by the limit of lines, then by its own rules, with its own number
or_nothing : (v : Result Unit Refusal) → (v or_else Ok tt) ≡ v
or_nothing (Ok _) = refl
or_nothing (Err r) = refl

lines_one_more : (n k : ℕ) (ls : List Line) (l : Line) → lines_validity_lem n k ls ≡ Ok tt → lines_validity_lem n k (ls ++ l ∷ []) ≡ line_validity_lem n (k + length ls) l
unfolding lines_validity_lem
lines_one_more n k [] l v = or_nothing (line_validity_lem n k l) ∙ ap (λ (j : ℕ). line_validity_lem n j l) (omega arith)
lines_one_more n k (m ∷ ls) l v =
    let p = or_valid (line_validity_lem n k m) _ v in
    let e : k + 1 + length ls ≡ k + length (m ∷ ls) = omega arith in
    ap (λ (u : Result Unit Refusal). u or_else lines_validity_lem n (k + 1) (ls ++ l ∷ [])) p.0
    ∙ lines_one_more n (k + 1) ls l p.1
    ∙ ap (λ (j : ℕ). line_validity_lem n j l) e

module _ (n : ℕ) (ls : List Line) (l : Line) (v : validity_of n (numbers_of ls) ≡ Ok tt) where
  lines_valid : lines_validity_lem n 0 ls ≡ Ok tt
  unfolding validity_of
  lines_valid =
      let p = or_valid (refuse_if (ltb max_variables n) TooManyVariables) _ v in
      let q = or_valid (refuse_if (not (eqb (length (numbers_of ls) % line_size) 0)) BrokenLength) _ p.1 in
      let r = or_valid (refuse_if (ltb max_lines (line_count (numbers_of ls))) TooManyLines) _ q.1 in
      ap (lines_validity_lem n 0) (sym (lines_of_numbers ls)) ∙ r.1

  pub one_more_validity : validity_of n (numbers_of (ls ++ l ∷ [])) ≡ (refuse_if (ltb max_lines (length ls + 1)) TooManyLines or_else line_validity_lem n (length ls) l)
  unfolding validity_of
  one_more_validity =
      let more = ls ++ l ∷ [] in
      let whole : length (numbers_of more) % line_size ≡ 0 = omega (arith, length_numbers_of more) in
      let count : line_count (numbers_of more) ≡ length ls + 1 = omega (arith, length_numbers_of more, length_more ls l) in
      rw (le-ltb max_variables n (variables_few n ls v), eq-eqb (length (numbers_of more) % line_size) 0 whole)
      (ap (λ (c : ℕ). refuse_if (ltb max_lines c) TooManyLines or_else lines_validity_lem n 0 (lines_of (numbers_of more))) count
      ∙ ap (λ (u : Result Unit Refusal). refuse_if (ltb max_lines (length ls + 1)) TooManyLines or_else u)
      (ap (lines_validity_lem n 0) (lines_of_numbers more) ∙ lines_one_more n 0 ls l lines_valid ∙ ap (λ (j : ℕ). line_validity_lem n j l) (omega arith)))

  -- so all refusals of an add that is not after a no, in their order: 3, the line's rules, 7, 8
  pub add_validity_law : (b : Lent) → validity_for n (numbers_of (ls ++ l ∷ [])) b
      ≡ ((refuse_if (ltb max_lines (length ls + 1)) TooManyLines or_else line_validity_lem n (length ls) l) or_else rooms_validity n (lengths_of b))
  unfolding decide_validity_lem
  add_validity_law b = ap (λ (u : Result Unit Refusal). u or_else rooms_validity n (lengths_of b)) one_more_validity

-- ---- what a withdrawal leaves known is known of the lines before
before_is : {n : ℕ} (ls : List Line) (l : Line) {r : Bool} {s : List ℤ} → Stands n (ls ++ l ∷ []) r s → numbers_before s ≡ numbers_of ls
before_is ls l {s = s} k =
    let end : length (numbers_of ls) ≡ line_size * (count_in s - 1) = omega (arith, length_numbers_of ls, count k, length_more ls l) in
    ap (take (line_size * (count_in s - 1))) (numbers k ∙ numbers_more ls l) ∙ take_at (numbers_of ls) (line_numbers_lem l) (line_size * (count_in s - 1)) end

known_left : {n : ℕ} (ls : List Line) (l : Line) {r : Bool} {s : List ℤ} → Stands n (ls ++ l ∷ []) r s → known_before (refused_in s) s ≡ known_for n ls
known_left {n} ls l {r} {s} k = ap (λ (q : Bool). known_before q s) (refused_in_law k) ∙ go r k
  where
    go : (q : Bool) → Stands n (ls ++ l ∷ []) q s → known_before q s ≡ known_for n ls
    go true stood = ap (λ (m : ℕ). known_in m s) (variables stood) ∙ known_read stood ∙ ap (known_for n) (kept_no ls l)
    go false stood =
        remade_is s ls (before_is ls l stood) (subst (λ (j : ℕ). validity_of j (numbers_of ls) ≡ Ok tt) (sym (variables stood)) (shorter n ls l stood.valid))
        (subst (λ (j : ℕ). verdict_of j ls ≡ true) (sym (variables stood)) (shorter_yes n ls l stood.valid stood.solvable))
        ∙ ap (λ (j : ℕ). known_for j ls) (variables stood)

-- ---- what each call does at what stands in the state
module _ {n : ℕ} {ls : List Line} {r : Bool} {s : List ℤ} (k : Stands n ls r s) where
  module _ (l : Line) {x : Result Answer Refusal} {b : Lent} {t : List ℤ} {a : Lent} (d : Adds s l x b t a) where
    after_no : r ≡ true → x ≡ Err AfterNo
    after_no e = d.is ∙ (add_answer_law k l b ∙ ap (λ (q : Bool). unless_refused (refuse_if q AfterNo) (answer_for n (numbers_of (ls ++ l ∷ [])) b)) e)

    learns : r ≡ false → Learns n ls l x b a (learnt_known s l)
    learns e = stand_learns (subst (λ (q : Bool). Stands n ls q s) e k) l d

    -- an answer comes only where the last was no no
    pub went_on : NotRefused x → r ≡ false
    went_on h = go r refl
      where
        go : (q : Bool) → r ≡ q → q ≡ false
        go true e = absurd (h AfterNo (after_no e))
        go false e = refl

    pub valid_more : NotRefused x → validity_of n (numbers_of (ls ++ l ∷ [])) ≡ Ok tt
    valid_more h =
        let f = (learns (went_on h)).decided in
        (decide_ok n (numbers_of (ls ++ l ∷ [])) b (answered_valid n (numbers_of (ls ++ l ∷ [])) b (λ q e. h q (f.is ∙ e)))).list

    room_left : NotRefused x → length ls < max_lines
    room_left h = omega (arith, lines_few n (ls ++ l ∷ []) (valid_more h), length_more ls l)

    state_yes : x ≡ Ok decide.Yes → t ≡ state_of n (ls ++ l ∷ []) false ++ drop (session_room_lem n) s
    state_yes e =
        let h : NotRefused x = subst NotRefused (sym e) yes_answers in
        d.state ∙ ap (add_state s l (learnt_known s l)) e ∙ pushed_to k l false (learnt_known s l) (room_left h) ((learns (went_on h)).yes e)

    state_no : x ≡ Ok decide.No → t ≡ state_of n (ls ++ l ∷ []) true ++ drop (session_room_lem n) s
    state_no e =
        let h : NotRefused x = subst NotRefused (sym e) no_answers in
        d.state ∙ ap (add_state s l (learnt_known s l)) e ∙ pushed_to k l true (learnt_known s l) (room_left h) ((learns (went_on h)).no e ∙ ap (known_for n) (sym (kept_no ls l)))

    pub adds_to : AddsTo n ls r s l x b t a
    adds_to =
        record {
          after_no = after_no;
          afresh = λ e. (learns e).decided;
          yes = state_yes;
          no = state_no;
          unchanged = λ q e. (d.state ∙ ap (add_state s l (learnt_known s l)) e, subst (λ (y : Result Answer Refusal). AddLeft y s l b a) e d.left);
        }

    -- the state after it stands: its last answer was right
    verdict_in : (v : Bool) (y : Result Answer Refusal) → x ≡ y → NotRefused y → y ≡ cond v (Ok decide.Yes) (Ok decide.No) → verdict_of n (ls ++ l ∷ []) ≡ v
    verdict_in v y e h = go v y e h (answer_is)
      where
        f : Decided n (numbers_of (ls ++ l ∷ [])) x b a
        f = (learns (went_on (subst NotRefused (sym e) h))).decided

        answer_is : answer_for n (numbers_of (ls ++ l ∷ [])) b ≡ y
        answer_is = sym f.is ∙ e

        lines : lines_of (numbers_of (ls ++ l ∷ [])) ≡ ls ++ l ∷ []
        lines = lines_of_numbers (ls ++ l ∷ [])

        go : (v : Bool) (y : Result Answer Refusal) → x ≡ y → NotRefused y → answer_for n (numbers_of (ls ++ l ∷ [])) b ≡ y → y ≡ cond v (Ok decide.Yes) (Ok decide.No) → verdict_of n (ls ++ l ∷ []) ≡ v
        go true y e h i j = ap (verdict_of n) (sym lines) ∙ yes_verdict n (numbers_of (ls ++ l ∷ [])) b (i ∙ j)
        go false y e h i j = ap (verdict_of n) (sym lines) ∙ no_verdict n (numbers_of (ls ++ l ∷ [])) b (i ∙ j)

    pub stands_yes : x ≡ Ok decide.Yes → Stands n (ls ++ l ∷ []) false t
    stands_yes e =
        let h : NotRefused x = subst NotRefused (sym e) yes_answers in
        let v = verdict_in true (Ok decide.Yes) e yes_answers refl in
        stands n (ls ++ l ∷ []) (valid_more h) false t (drop (session_room_lem n) s) (state_yes e) v v

    pub stands_no : x ≡ Ok decide.No → Stands n (ls ++ l ∷ []) true t
    stands_no e =
        let h : NotRefused x = subst NotRefused (sym e) no_answers in
        let before : verdict_of n ls ≡ true = k.verdict ∙ ap not (went_on h) in
        stands n (ls ++ l ∷ []) (valid_more h) true t (drop (session_room_lem n) s) (state_no e) (verdict_in false (Ok decide.No) e no_answers refl) (ap (verdict_of n) (kept_no ls l) ∙ before)

  pub withdraws_from : {x : Result Unit Refusal} {t : List ℤ} → Withdraws s x t → WithdrawsFrom n ls s x t
  unfolding withdraw_answer
  withdraws_from {x} {t} d =
      record {
        none = λ e.
            let zero : count_in s ≡ 0 = count k ∙ ap length e in
            let q : x ≡ Err NoLines = d.is ∙ rw (is_state k, eq-eqb (count_in s) 0 zero) refl in
            (q, d.state ∙ ap (withdraw_state s) q);
        last = λ ms l e.
            let some : count_in s ≡ length ms + 1 = count k ∙ ap length e ∙ length_more ms l in
            let more : eqb (count_in s) 0 ≡ false = ne_eqb (count_in s) 0 (λ z. absurd (omega arith)) in
            let q : x ≡ Ok tt = d.is ∙ rw (is_state k, more) refl in
            let with : Stands n (ms ++ l ∷ []) r s = subst (λ (ks : List Line). Stands n ks r s) e k in
            (q, d.state ∙ ap (withdraw_state s) q ∙ popped_to ms l with (known_before (refused_in s) s) (known_left ms l with));
      }

-- the lines before have a solution, whether the last answer was a yes or a no
before_yes : {n : ℕ} (ls : List Line) (l : Line) {r : Bool} {s : List ℤ} → Stands n (ls ++ l ∷ []) r s → verdict_of n ls ≡ true
before_yes {n} ls l {r} k = go r k.solvable
  where
    go : (q : Bool) → verdict_of n (kept (ls ++ l ∷ []) q) ≡ true → verdict_of n ls ≡ true
    go true e = ap (verdict_of n) (sym (kept_no ls l)) ∙ e
    go false e = shorter_yes n ls l k.valid e

pub stands_before : {n : ℕ} (ls : List Line) (l : Line) {r : Bool} {s t : List ℤ} → Stands n (ls ++ l ∷ []) r s → Withdraws s (Ok tt) t → Stands n ls false t
stands_before {n} ls l {s = s} {t = t} k d =
    let y = before_yes ls l k in
    stands n ls (shorter n ls l k.valid) false t (drop (session_room_lem n) s) ((withdraws_from k d).last ls l refl).1 y y

-- ---- so it is at every state that is reached
pub no_lines : (n : ℕ) → n ≤ max_variables → verdict_of n [] ≡ true
no_lines n few =
    ap (verdict_of n) (sym (lines_of_numbers []))
    ∙ solvable_yes n (numbers_of []) (workable n (numbers_of []) (empty n few)) (subst Solvable (sym (lines_of_numbers [])) (record { assignment = λ _. pos 0; solves = tt }))

pub reached_stands : {n : ℕ} {ls : List Line} {r : Bool} {s : List ℤ} → Reached n ls r s → Stands n ls r s
unfolding start_answer
reached_stands (by_start {n = n} {s = s} {t = t} d) = stands n [] (empty n few) false t (drop (session_room_lem n) s) d.state (no_lines n few) (no_lines n few)
  where
    few : n ≤ max_variables
    few = ltb-false max_variables n (not_refused _ _ (or_valid (refuse_if (ltb max_variables n) TooManyVariables) _ (sym d.is)).0)
reached_stands (by_yes {l = l} p d) = stands_yes (reached_stands p) l d refl
reached_stands (by_no {l = l} p d) = stands_no (reached_stands p) l d refl
reached_stands (by_withdrawal ls l p d) = stands_before ls l (reached_stands p) d

-- an add that was answered, and then a withdrawal, leave the state as it was, whole
pub add_withdraw : {n : ℕ} {ls : List Line} {r : Bool} {s t u : List ℤ} {l : Line} {x : Result Answer Refusal} {y : Result Unit Refusal} {b a : Lent}
    → Reached n ls r s → Adds s l x b t a → NotRefused x → Withdraws t y u → (y ≡ Ok tt) × (u ≡ s)
add_withdraw {n} {ls} {r} {s} {t} {u} {l} {x} {y} p d h w = go x refl
  where
    k : Stands n ls r s
    k = reached_stands p

    back : (q : Bool) → t ≡ state_of n (ls ++ l ∷ []) q ++ drop (session_room_lem n) s → Stands n (ls ++ l ∷ []) q t → (y ≡ Ok tt) × (u ≡ s)
    back q e after =
        let f = (withdraws_from after w).last ls l refl in
        let beyond : drop (session_room_lem n) t ≡ drop (session_room_lem n) s = ap (drop (session_room_lem n)) e ∙ drop_at (state_of n (ls ++ l ∷ []) q) (drop (session_room_lem n) s) (session_room_lem n) (length_state n (ls ++ l ∷ []) q (lines_few n (ls ++ l ∷ []) (valid_more k l d h))) in (
          f.0,
          f.1
              ∙ ap (λ (z : List ℤ). state_of n ls false ++ z) beyond
              ∙ ap (λ (z : Bool). state_of n ls z ++ drop (session_room_lem n) s) (sym (went_on k l d h))
              ∙ sym k.is,
        )

    go : (z : Result Answer Refusal) → x ≡ z → (y ≡ Ok tt) × (u ≡ s)
    go (Ok decide.Yes) e = back false ((adds_to k l d).yes e) (stands_yes k l d e)
    go (Ok decide.No) e = back true ((adds_to k l d).no e) (stands_no k l d e)
    go (Err q) e = absurd (h q e)

-- ---- adds that were answered, with no withdrawal between them: from the state t, by the lines ms, to the state u
pub data Grown (t : List ℤ) : List Line → List ℤ → Type 0 where
  no_more : Grown t [] t
  one_more : {ms : List Line} {u v : List ℤ} {l : Line} {x : Result Answer Refusal} {b a : Lent} → Grown t ms u → Adds u l x b v a → NotRefused x → Grown t (ms ++ l ∷ []) v

pub reached_more : {n : ℕ} {ls : List Line} {r : Bool} {s t : List ℤ} {l : Line} {b a : Lent} (x : Result Answer Refusal) → Reached n ls r s → Adds s l x b t a → NotRefused x → (q : Bool) × Reached n (ls ++ l ∷ []) q t
reached_more (Ok decide.Yes) p d h = (false, by_yes p d)
reached_more (Ok decide.No) p d h = (true, by_no p d)
reached_more (Err q) p d h = absurd (h q refl)

pub grown_reached : {n : ℕ} {ls : List Line} {r : Bool} {t : List ℤ} {ms : List Line} {u : List ℤ} → Reached n ls r t → Grown t ms u → (q : Bool) × Reached n (ls ++ ms) q u
grown_reached {n} {ls} {r} {t} p no_more = (r, subst (λ (ks : List Line). Reached n ks r t) (sym (append-nil ls)) p)
grown_reached {n} {ls} p (one_more {ms = ms} {v = v} {l = l} {x = x} g d h) =
    let before = grown_reached p g in
    let after = reached_more x before.1 d h in
    (after.0, subst (λ (ks : List Line). Reached n ks after.0 v) (append_assoc ls ms (l ∷ [])) after.1)
