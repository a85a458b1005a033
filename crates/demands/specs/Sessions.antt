-- What was demanded of sessions, in the words of docs/SPECIFICATION.md, each statement proved by citing the rest.
--
-- A reader has to believe what a state is (`state_of` in session_state/specs/State.antt), which states sequences of calls lead to (`Reached` in
-- session_promise/specs/Sequence.antt), the table of refusals here, and the words of Demands.antt. The promises of the calls are `Starts`, `Adds` and
-- `Withdraws` (session_promise/specs/Promise.antt), and for the questions `line_by` and `pair_by` (session_asked/specs/Asked.antt); the exported calls return
-- `StartReturns`, `AddReturns`, `WithdrawReturns`, `line_returned` and `pair_returned`.
use Rattle.std.specs.Prelude.{◌≡◌, refl, ◌↔◌, Bool, true, false, List, [], ◌∷◌, ◌++◌, ℕ, ◌+◌, ◌<◌, ◌≤◌, ℤ, length, drop, Err, Ok, Result}
use Rattle.std.proofs.Common.{sym, ap, subst, ◌∙◌, append_assoc}
use Rattle.integers.specs.Laws.{never}
use Rattle.lines.specs.declared.Line.{Line}
use Rattle.lines.specs.declared.Refusal.{Refusal}
use Rattle.lines.specs.declared.Refusal.TheVariants.{TooManyVariables, TooManyLines, ShortOutput, AfterNo}
use Rattle.lines.specs.Limits.{max_variables, max_lines}
use Rattle.lines.specs.Line.{numbers_of}
use Rattle.lines.specs.LineNumbers.{numbers_append}
use Rattle.lines.specs.Refusal.{◌or_else◌, refuse_if}
use Rattle.decide_buffers.specs.Room.{Lent, ModelLent, lengths_of, model_lengths_of, model_rooms, first_short, lent_rooms, rooms_validity, work_room_lem}
use Rattle.decide.specs.declared.Answer.{Answer}
use Rattle.decide.specs.declared.Answer.TheVariants as decide
use Rattle.decide.specs.Decided.{NotRefused, unless_refused, answer_for, validity_for, Decided}
use Rattle.session_state.specs.State.{session_room_lem, state_of, variables_in, numbers_with}
use Rattle.decide.specs.Parts.{no_answers}
use Rattle.session_promise.specs.Promise.{Stands, state_place, start_answer, start_state, add_validity, learns_in, learnt_known, learnt_answer, add_answer, add_state, FromKnown, LearntLeft, AddLeft, withdraw_answer, withdraw_state, Starts, Adds, Withdraws}
use Rattle.session_promise.specs.Standing.{add_answer_law}
use Rattle.session_promise.specs.Sequence.{Reached, Grown, AddsTo, WithdrawsFrom, add_validity_law, went_on, adds_to, withdraws_from, reached_stands, reached_more, grown_reached, add_withdraw}
use Rattle.implied_line.specs.Answer as line
use Rattle.implied_pair.specs.Pair.{pair_call}
use Rattle.session_asked.specs.Asked.{line_by, pair_by}
use Rattle.session_asked.specs.Meaning.{line_is_implied, pair_is_implied}
use Rattle.c_implied.specs.Calls as implied
use Rattle.c_implied.specs.Calls.{pair_code_lem}
use Rattle.c_implied_line.specs.Calls.{line_code_lem, LineReturns}
use Rattle.c_session_asked.specs.Calls.{line_returned, pair_returned}
use Rattle.c_deciding.specs.Calls.{decide_code_lem}
use Rattle.c_deciding.specs.Laws.{decisions_apart}
use Rattle.c_session.specs.Calls.{done_code_lem, StartReturns, AddReturns, WithdrawReturns}
use Rattle.c_session.specs.Laws.{start_placed, withdraw_placed, add_below, done_apart}
use Rattle.demands.specs.Calls.{Call}
use Rattle.demands.specs.Demands.{NothingUnlearned, nothing_unlearned}
use Rattle.demands.specs.Refusals.{Row, ◌when◌, line_table, rooms_table, FirstApplies}
use Rattle.demands.specs.Refused.{gives_row, gives_last, gives_or, gives_refused, less_test, true_test, line_gives, rooms_give, decision_refused}
use Rattle.demands.specs.SessionVersions.{right_add, right_add_keeps}

-- ---- what a session holds

-- After any sequence of calls from a start, each handed the state that the call before left, the state is `state_of` n, the lines and the last answer, every
-- number of its room, table, model and groups included, with what lay beyond it; its lines are a valid list, and the last answer is right.
pub session_holds : (n : ℕ) (ls : List Line) (refused : Bool) (s : List ℤ) → Reached n ls refused s → Stands n ls refused s
session_holds n ls refused s p = reached_stands p

-- Every add is answered or refused, whatever stands in the state and in the buffers: what is stated here is of something.
pub adds_exist : (s : List ℤ) (l : Line) (b : Lent) → (x : Result Answer Refusal) × (t : List ℤ) × (a : Lent) × Adds s l x b t a
adds_exist s l b = let o = right_add s l b in (o.answer, o.state, o.after, right_add_keeps s l b)

-- ---- a start

-- 1, then 7
abbrev pub start_table_lem : ℕ → List ℤ → List Row
start_table_lem n s = TooManyVariables when (max_variables < n) ∷ ShortOutput state_place when (length s < session_room_lem n) ∷ []

pub start_refused_exactly_if : (n : ℕ) (s : List ℤ) (x : Result Unit Refusal) (t : List ℤ) → Starts n s x t → (r : Refusal) → (x ≡ Err r) ↔ FirstApplies (start_table_lem n s) r
unfolding start_answer
start_refused_exactly_if n s x t d r =
    let f = gives_refused (gives_row (less_test max_variables n) (gives_last (less_test (length s) (session_room_lem n)))) r in ((λ e. f.0 (sym d.is ∙ e)), (λ e. d.is ∙ f.1 e))

-- Else the state of n and no lines is written, all of its room, and what lies beyond is untouched.
pub start_writes : (n : ℕ) (s t : List ℤ) → Starts n s (Ok tt) t → t ≡ state_of n [] false ++ drop (session_room_lem n) s
start_writes n s t d = d.state

-- ---- a line is added

-- 30 after a no; 3 when it holds the most lines; the line rules, which name the new line's number; 7, 8
abbrev pub add_table : ℕ → List Line → Bool → Line → Lent → List Row
add_table n ls refused l lent =
    AfterNo when (refused ≡ true)
    ∷ TooManyLines when (max_lines < length ls + 1)
    ∷ line_table n (length ls) l ++ rooms_table lent_rooms n (lengths_of lent)

pub add_refused_exactly_if : (n : ℕ) (ls : List Line) (refused : Bool) (s : List ℤ) → Reached n ls refused s → (l : Line) (x : Result Answer Refusal) (b : Lent) (t : List ℤ) (a : Lent) → Adds s l x b t a
    → (r : Refusal) → (x ≡ Err r) ↔ FirstApplies (add_table n ls refused l b) r
unfolding rooms_validity
add_refused_exactly_if n ls refused s p l x b t a d r =
    let k = reached_stands p in
    let f = gives_refused (gives_row (true_test refused) (gives_or (gives_row (less_test max_lines (length ls + 1)) (line_gives n (length ls) l)) (rooms_give lent_rooms n (lengths_of b)))) r in
    let g = refused_unless refused (validity_for n (numbers_of (ls ++ l ∷ [])) b) (answer_for n (numbers_of (ls ++ l ∷ [])) b) r (decision_refused n (numbers_of (ls ++ l ∷ [])) b r) in
    let computed = ap (λ (v : Result Unit Refusal). refuse_if refused AfterNo or_else v) (add_validity_law n ls l k.valid b) in (
      (λ e. f.0 (sym computed ∙ g.0 (sym (add_answer_law k l b) ∙ sym d.is ∙ e))),
      (λ e. d.is ∙ add_answer_law k l b ∙ g.1 (computed ∙ f.1 e)),
    )
  where
    refused_unless : (q : Bool) (v : Result Unit Refusal) (y : Result Answer Refusal) (r : Refusal) → (y ≡ Err r) ↔ (v ≡ Err r)
        → (unless_refused (refuse_if q AfterNo) y ≡ Err r) ↔ ((refuse_if q AfterNo or_else v) ≡ Err r)
    refused_unless true v y r h = ((λ e. cc), (λ e. cc))
    refused_unless false v y r h = h

-- Else the answer, and all that is left in the buffers, is that of deciding all lines so far afresh, where only the walks are free; and the new line is part
-- of the state, after a no too.
pub add_is_deciding : (n : ℕ) (ls : List Line) (refused : Bool) (s : List ℤ) → Reached n ls refused s → (l : Line) (x : Result Answer Refusal) (b : Lent) (t : List ℤ) (a : Lent) → Adds s l x b t a
    → AddsTo n ls refused s l x b t a
add_is_deciding n ls refused s p l x b t a d = adds_to (reached_stands p) l d

-- ---- the last line is withdrawn

-- 31 where there is none; else only the state is written, and it is that of the lines before.
pub withdraw_takes_the_last : (n : ℕ) (ls : List Line) (refused : Bool) (s : List ℤ) → Reached n ls refused s → (x : Result Unit Refusal) (t : List ℤ) → Withdraws s x t → WithdrawsFrom n ls s x t
withdraw_takes_the_last n ls refused s p x t d = withdraws_from (reached_stands p) d

-- An add that was answered, and then a withdrawal, leave the state equal, whole.
pub add_then_withdraw : (n : ℕ) (ls : List Line) (refused : Bool) (s : List ℤ) → Reached n ls refused s → (l : Line) (x : Result Answer Refusal) (b : Lent) (t : List ℤ) (a : Lent) → Adds s l x b t a → NotRefused x
    → (y : Result Unit Refusal) (u : List ℤ) → Withdraws t y u → (y ≡ Ok tt) × (u ≡ s)
add_then_withdraw n ls refused s p l x b t a d h y u w = add_withdraw p d h w

-- ---- demand 3 along adds

-- An add that was answered is a call of deciding, on all lines so far.
abbrev pub add_is_a_call : (n : ℕ) (ls : List Line) (refused : Bool) (s : List ℤ) → Reached n ls refused s
    → (l : Line) (x : Result Answer Refusal) (b : Lent) (t : List ℤ) (a : Lent) → Adds s l x b t a → NotRefused x → Call n (numbers_of (ls ++ l ∷ []))
add_is_a_call n ls refused s p l x b t a d h =
    let stood = reached_stands p in
    record { answer = x; before = b; after = a; decided = (adds_to stood l d).afresh (went_on stood l d h); not_refused = h }

-- Two adds of one session that were answered, with no withdrawal between them, are calls of deciding, on a list and on one that begins with all its lines.
pub record TwoCalls (n : ℕ) (L M : List ℤ) (x : Result Answer Refusal) (a : Lent) (y : Result Answer Refusal) (e : Lent) : Type 0 where
  pub first : Call n L
  pub first_answer : first.answer ≡ x
  pub first_left : first.after ≡ a
  pub second : Call n (L ++ M)
  pub second_answer : second.answer ≡ y
  pub second_left : second.after ≡ e
  pub unlearned : NothingUnlearned n L M first second

pub session_unlearns_nothing : (n : ℕ) (ls : List Line) (refused : Bool) (s : List ℤ) → Reached n ls refused s
    → (l : Line) (x : Result Answer Refusal) (b : Lent) (t : List ℤ) (a : Lent) → Adds s l x b t a → NotRefused x
    → (ms : List Line) (u : List ℤ) → Grown t ms u
    → (m : Line) (y : Result Answer Refusal) (c : Lent) (v : List ℤ) (e : Lent) → Adds u m y c v e → NotRefused y
    → TwoCalls n (numbers_of (ls ++ l ∷ [])) (numbers_of (ms ++ m ∷ [])) x a y e
session_unlearns_nothing n ls refused s p l x b t a d h ms u g m y c v e f k =
    let one = reached_more x p d h in
    let more = grown_reached one.1 g in
    let early = add_is_a_call n ls refused s p l x b t a d h in
    let second = add_is_a_call n ((ls ++ l ∷ []) ++ ms) more.0 u more.1 m y c v e f k in
    let list : numbers_of (((ls ++ l ∷ []) ++ ms) ++ m ∷ []) ≡ numbers_of (ls ++ l ∷ []) ++ numbers_of (ms ++ m ∷ []) =
    ap numbers_of (append_assoc (ls ++ l ∷ []) ms (m ∷ [])) ∙ numbers_append (ls ++ l ∷ []) (ms ++ m ∷ []) in
    let late : Call n (numbers_of (ls ++ l ∷ []) ++ numbers_of (ms ++ m ∷ [])) =
    record { answer = y; before = c; after = e; decided = subst (λ (L : List ℤ). Decided n L y c e) list second.decided; not_refused = k } in
    record { first = early; first_answer = refl; first_left = refl; second = late; second_answer = refl; second_left = refl; unlearned = nothing_unlearned n _ _ early late }

-- ---- whatever stands in the state

-- A refusal changes neither the state nor a buffer. That the calls end is part of every promise.
pub refused_start_changes_nothing : (n : ℕ) (s : List ℤ) (r : Refusal) (t : List ℤ) → Starts n s (Err r) t → t ≡ s
refused_start_changes_nothing n s r t d = d.state

pub refused_add_changes_nothing : (s : List ℤ) (l : Line) (r : Refusal) (b : Lent) (t : List ℤ) (a : Lent) → Adds s l (Err r) b t a → (t ≡ s) × (a ≡ b)
refused_add_changes_nothing s l r b t a d = (d.state, d.left)

pub refused_withdrawal_changes_nothing : (s : List ℤ) (r : Refusal) (t : List ℤ) → Withdraws s (Err r) t → t ≡ s
refused_withdrawal_changes_nothing s r t d = d.state

-- No call guesses, whatever stands in the state, a wrong table or model too: two calls that are handed the same numbers have the same answer and leave the same state,
-- and two adds leave the same in the buffers, but for the walks of a no.
pub starts_alike : (n : ℕ) (s : List ℤ) (x y : Result Unit Refusal) (t u : List ℤ) → Starts n s x t → Starts n s y u → (x ≡ y) × (t ≡ u)
starts_alike n s x y t u d f = let e : x ≡ y = d.is ∙ sym f.is in (e, d.state ∙ ap (start_state n s) e ∙ sym f.state)

pub withdrawals_alike : (s : List ℤ) (x y : Result Unit Refusal) (t u : List ℤ) → Withdraws s x t → Withdraws s y u → (x ≡ y) × (t ≡ u)
withdrawals_alike s x y t u d f = let e : x ≡ y = d.is ∙ sym f.is in (e, d.state ∙ ap (withdraw_state s) e ∙ sym f.state)

pub record Alike (x : Result Answer Refusal) (a e : Lent) : Type 0 where
  pub model : a.model ≡ e.model
  pub bounds : a.bounds ≡ e.bounds
  pub groups : a.groups ≡ e.groups
  pub work : a.work ≡ e.work
  pub refutation : (x ≡ Ok decide.No → ⊥) → a.refutation ≡ e.refutation
  pub identifiers : (x ≡ Ok decide.No → ⊥) → a.identifiers ≡ e.identifiers

pub adds_alike : (s : List ℤ) (l : Line) (x y : Result Answer Refusal) (b : Lent) (t u : List ℤ) (a e : Lent) → Adds s l x b t a → Adds s l y b u e → (x ≡ y) × (t ≡ u) × Alike x a e
adds_alike s l x y b t u a e d f =
    let same : x ≡ y = d.is ∙ sym f.is in
    (same, d.state ∙ ap (add_state s l (learnt_known s l)) same ∙ sym f.state, go x d.left (subst (λ (z : Result Answer Refusal). AddLeft z s l b e) (sym same) f.left))
  where
    -- both are what the same definitions say of b
    from_known : (n : ℕ) (v : List ℤ) → FromKnown n v b a → FromKnown n v b e → Alike (Ok decide.Yes) a e
    from_known n v p q =
        record {
          model = p.outputs.model_is ∙ sym q.outputs.model_is;
          bounds = p.outputs.bounds_is ∙ sym q.outputs.bounds_is;
          groups = p.outputs.groups_is ∙ sym q.outputs.groups_is;
          work = p.work ∙ sym q.work;
          refutation = λ z. p.refutation ∙ sym q.refutation;
          identifiers = λ z. p.identifiers ∙ sym q.identifiers;
        }

    yes : (c : Bool) (n : ℕ) (L v : List ℤ) → LearntLeft c n L v (Ok decide.Yes) b a → LearntLeft c n L v (Ok decide.Yes) b e → Alike (Ok decide.Yes) a e
    yes true n L v p q = from_known n v p q
    yes false n L v p q =
        record {
          model = p.model ∙ sym q.model;
          bounds = p.bounds ∙ sym q.bounds;
          groups = p.groups ∙ sym q.groups;
          work = p.work ∙ sym q.work;
          refutation = λ z. p.refutation ∙ sym q.refutation;
          identifiers = λ z. p.identifiers ∙ sym q.identifiers;
        }

    no : (c : Bool) (n : ℕ) (L v : List ℤ) → LearntLeft c n L v (Ok decide.No) b a → LearntLeft c n L v (Ok decide.No) b e → Alike (Ok decide.No) a e
    no true n L v p q =
        let o = from_known n v p q in
        record { model = o.model; bounds = o.bounds; groups = o.groups; work = o.work; refutation = λ z. absurd (z refl); identifiers = λ z. absurd (z refl) }
    no false n L v p q =
        record {
          model = p.model ∙ sym q.model;
          bounds = p.bounds ∙ sym q.bounds;
          groups = p.groups ∙ sym q.groups;
          work = p.work ∙ sym q.work;
          refutation = λ z. absurd (z refl);
          identifiers = λ z. absurd (z refl);
        }

    go : (z : Result Answer Refusal) → AddLeft z s l b a → AddLeft z s l b e → Alike z a e
    go (Ok decide.Yes) p q = yes (learns_in s l) _ _ (learnt_known s l) p q
    go (Ok decide.No) p q = no (learns_in s l) _ _ (learnt_known s l) p q
    go (Err r) p q =
        let same : a ≡ e = p ∙ sym q in
        record {
          model = ap (λ (c : Lent). c.model) same;
          bounds = ap (λ (c : Lent). c.bounds) same;
          groups = ap (λ (c : Lent). c.groups) same;
          work = ap (λ (c : Lent). c.work) same;
          refutation = λ z. ap (λ (c : Lent). c.refutation) same;
          identifiers = λ z. ap (λ (c : Lent). c.identifiers) same;
        }

-- And a no is right, whatever stands in the state: it is a call of deciding, on the lines in the state with the new one behind them. Only a yes may be wrong,
-- where the table, the model or the groups are.
pub no_is_right : (s : List ℤ) (l : Line) (b : Lent) (t : List ℤ) (a : Lent) → Adds s l (Ok decide.No) b t a
    → (c : Call (variables_in s) (numbers_with s l)) × (c.answer ≡ Ok decide.No) × (c.before ≡ b) × (c.after ≡ a)
unfolding add_answer
no_is_right s l b t a d = go (learns_in s l) d.left d.is
  where
    n : ℕ
    n = variables_in s

    L : List ℤ
    L = numbers_with s l

    -- a refusal is no no
    beyond : (v : Result Unit Refusal) (x : Result Answer Refusal) → Ok decide.No ≡ unless_refused v x → Ok decide.No ≡ x
    beyond (Ok _) x e = e
    beyond (Err r) x e = never (cc)

    go : (c : Bool) → LearntLeft c (variables_in s) (numbers_with s l) (learnt_known s l) (Ok decide.No) b a
        → Ok decide.No ≡ unless_refused (add_validity s) (unless_refused (validity_for (variables_in s) (numbers_with s l) b) (learnt_answer c (variables_in s) (numbers_with s l) b))
        → (k : Call (variables_in s) (numbers_with s l)) × (k.answer ≡ Ok decide.No) × (k.before ≡ b) × (k.after ≡ a)
    go true o e = let clash : Ok decide.No ≡ Ok decide.Yes = beyond (validity_for n L b) _ (beyond (add_validity s) _ e) in never (cc)
    go false o e =
        let is : Ok decide.No ≡ answer_for n L b = beyond (validity_for n L b) _ (beyond (add_validity s) _ e) in
        (record { answer = Ok decide.No; before = b; after = a; decided = record { is = is; leaves = o }; not_refused = no_answers }, refl, refl, refl)

-- ---- questions, without adding

-- At a state that was reached, the question of a line answers what the question about a list answers on the lines so far, with buffers that have their room;
-- so does that of two variables. They only read.
pub session_line_is_implied : (n : ℕ) (ls : List Line) (refused : Bool) (s : List ℤ) → Reached n ls refused s → (l : Line) (b : ModelLent) → first_short model_rooms n (model_lengths_of b) ≡ Ok tt
    → line_by s l ≡ line.answer_for n (numbers_of ls) l b
session_line_is_implied n ls refused s p l b = line_is_implied (reached_stands p) l b

pub session_pair_is_implied : (n : ℕ) (ls : List Line) (refused : Bool) (s : List ℤ) → Reached n ls refused s → (x y : ℕ) (w : List ℤ) → work_room_lem n ≤ length w
    → pair_by s x y ≡ (pair_call n (numbers_of ls) x y w).answer
session_pair_is_implied n ls refused s p x y w = pair_is_implied (reached_stands p) x y w

-- What is returned of them is what the question about a list returns.
pub returned_session_line : (n : ℕ) (ls : List Line) (refused : Bool) (s : List ℤ) → Reached n ls refused s → (l : Line) (r : ℤ) (b a : ModelLent) → LineReturns n (numbers_of ls) l r b a
    → first_short model_rooms n (model_lengths_of b) ≡ Ok tt → line_returned s l ≡ r
returned_session_line n ls refused s p l r b a d room = ap line_code_lem (session_line_is_implied n ls refused s p l b room) ∙ sym d.is

pub returned_session_pair : (n : ℕ) (ls : List Line) (refused : Bool) (s : List ℤ) → Reached n ls refused s → (x y : ℕ) (w : List ℤ) → work_room_lem n ≤ length w
    → pair_returned s x y ≡ (implied.pair_returned n (numbers_of ls) x y w).given
returned_session_pair n ls refused s p x y w room = ap pair_code_lem (session_pair_is_implied n ls refused s p x y w room)

-- ---- the exported calls

-- What they return is the number of an answer, and what they leave is what the call with that answer leaves.
pub returned_start : (n : ℕ) (s : List ℤ) (r : ℤ) (t : List ℤ) → StartReturns n s r t → (x : Result Unit Refusal) × (r ≡ done_code_lem x) × Starts n s x t
returned_start n s r t d = (start_answer n (length s), d.is, record { is = refl; state = d.state })

pub returned_add : (s : List ℤ) (l : Line) (r : ℤ) (b : Lent) (t : List ℤ) (a : Lent) → AddReturns s l r b t a → (x : Result Answer Refusal) × (r ≡ decide_code_lem x) × Adds s l x b t a
returned_add s l r b t a d = (add_answer s l b, d.is, record { is = refl; state = d.state; left = d.left })

pub returned_withdrawal : (s : List ℤ) (r : ℤ) (t : List ℤ) → WithdrawReturns s r t → (x : Result Unit Refusal) × (r ≡ done_code_lem x) × Withdraws s x t
returned_withdrawal s r t d = (withdraw_answer s, d.is, record { is = refl; state = d.state })

-- No two answers are returned as one number.
pub starts_returned_apart : (n m : ℕ) (s u : List ℤ) → done_code_lem (start_answer n (length s)) ≡ done_code_lem (start_answer m (length u)) → start_answer n (length s) ≡ start_answer m (length u)
starts_returned_apart n m s u = done_apart _ _ (start_placed n (length s)) (start_placed m (length u))

pub adds_returned_apart : (s u : List ℤ) (l m : Line) (b c : Lent) → decide_code_lem (add_answer s l b) ≡ decide_code_lem (add_answer u m c) → add_answer s l b ≡ add_answer u m c
adds_returned_apart s u l m b c = decisions_apart _ _ (add_below s l b) (add_below u m c)

pub withdrawals_returned_apart : (s u : List ℤ) → done_code_lem (withdraw_answer s) ≡ done_code_lem (withdraw_answer u) → withdraw_answer s ≡ withdraw_answer u
withdrawals_returned_apart s u = done_apart _ _ (withdraw_placed s) (withdraw_placed u)
