-- What was asked of the order of lines, in the words of docs/SPECIFICATION.md, each statement proved by citing the rest: a list's lines in another order give
-- the same verdict, on a yes the same model, bounds and groups, on a no the same kind. Only a refutation's steps, with their counts and identifiers, may differ.
--
-- A reader has to believe what a rearrangement is (`Rearranged` in theory_order/specs/Rearranged.antt), and the words of Demands.antt, Implied.antt,
-- ImpliedLine.antt and Sessions.antt: deciding, both questions and sessions promise what is stated there, and nothing is added here.
use Rattle.lines.specs.declared.Refusal.{Refusal}
use Rattle.std.specs.Prelude.{◌≡◌, refl, ◌↔◌, Bool, cond, List, [], ◌∷◌, ◌++◌, ℕ, ◌%◌, ℤ, length, take, drop, Ok, Result}
use Rattle.std.proofs.Common.{sym, ap, ◌∙◌}
use Rattle.integers.specs.Laws.{never}
use Rattle.lines.specs.declared.Line.{Line}
use Rattle.lines.specs.Limits.{line_size}
use Rattle.lines.specs.Line.{line_at, lines_of, numbers_of}
use Rattle.lines.specs.LineNumbers.{lines_of_numbers}
use Rattle.lines.specs.Refusal.{◌or_else◌, line_tests, lines_validity_lem, validity_of}
use Rattle.lines.specs.Valid.{workable}
use Rattle.check_soundness.specs.Head.{kind_of}
use Rattle.theory_bounds.specs.Verdict.{verdict_of}
use Rattle.theory_answers.specs.Decided.{lines_ok}
use Rattle.theory_answers.specs.Same.{same_verdict, same_written}
use Rattle.theory_order.specs.Rearranged.{Rearranged, swapped, same_solutions, rearranged_valid}
use Rattle.theory_order.specs.Often.{occurrences, rearranged_as_often}
use Rattle.theory_order.specs.Order.{rearranged_kind}
use Rattle.decide_buffers.specs.Room.{Lent, lengths_of, model_room_lem, bounds_room_lem, groups_room_lem, rooms_validity, decide_validity_lem}
use Rattle.decide.specs.declared.Answer.{Answer}
use Rattle.decide.specs.declared.Answer.TheVariants as decide
use Rattle.decide.specs.Decided.{NotRefused, unless_refused, decide_answer, answer_for, cleared_to, Decided}
use Rattle.decide.specs.Parts.{model_in_lem, bounds_in, groups_in, refutation_in}
use Rattle.implied_line.specs.declared.LineAnswer.TheVariants.{NotImplied}
use Rattle.session_promise.specs.Promise.{Adds}
use Rattle.session_promise.specs.Sequence.{Reached}
use Rattle.c_deciding.specs.Calls.{decide_code_lem, DecideReturns}
use Rattle.demands.specs.Calls.{Engine, room_of, CallOf, call_valid, call_yes, call_due, on_yes, on_no}
use Rattle.demands.specs.Demands.{ValidFor, answers_by_solutions_alone}
use Rattle.demands.specs.Versions.{false_list}
use Rattle.demands.specs.RightVersion.{Version, Keeps, room_with, at_most5}
use Rattle.demands.specs.DecideVersions.{first_line_only, first_line_no, first_line_yes}
use Rattle.demands.specs.PairCalls.{PairAsked}
use Rattle.demands.specs.Implied.{pair_by_solutions_alone}
use Rattle.demands.specs.ImpliedLine.{LineCall, line_by_solutions_alone}
use Rattle.demands.specs.Sessions.{add_is_a_call}

-- ---- a rearrangement

-- In another way: each line stands in both lists equally often.
pub rearranged_exactly_if : (ls ms : List Line) → Rearranged ls ms ↔ ((l : Line) → occurrences l ls ≡ occurrences l ms)
rearranged_exactly_if = rearranged_as_often

-- A rearrangement of a valid list, whole lines again, is valid.
pub rearranged_is_valid : (n : ℕ) (L M : List ℤ) → Rearranged (lines_of L) (lines_of M) → length M % line_size ≡ 0 → ValidFor n L → ValidFor n M
rearranged_is_valid = rearranged_valid

-- ---- deciding

-- x and y are what two calls answered, a and e what they left.
pub record SameButWalks (n : ℕ) (x : Result Answer Refusal) (a : Lent) (y : Result Answer Refusal) (e : Lent) : Type 0 where
  pub answer : x ≡ y
  pub model : x ≡ Ok decide.Yes → model_in_lem n a ≡ model_in_lem n e
  pub bounds : x ≡ Ok decide.Yes → bounds_in n a ≡ bounds_in n e
  pub groups : x ≡ Ok decide.Yes → groups_in n a ≡ groups_in n e
  pub kind : x ≡ Ok decide.No → kind_of (refutation_in a) ≡ kind_of (refutation_in e)

-- Two calls that were not refused, on a list and on a rearrangement of it, whatever stood in the buffers, and of either engine each.
pub order_does_not_matter : {e f : Engine} (n : ℕ) (L M : List ℤ) → Rearranged (lines_of L) (lines_of M) → (c : CallOf e n L) (d : CallOf f n M) → SameButWalks n c.answer c.after d.answer d.after
order_does_not_matter n L M p c d =
    let same = answers_by_solutions_alone n L M c d (same_solutions (lines_of L) (lines_of M) p) in
    record {
      answer = same.answer;
      model = same.model;
      bounds = same.bounds;
      groups = same.groups;
      kind = λ e.
          (call_due c e).kind
          ∙ rearranged_kind n (lines_of L) (lines_of M) (lines_ok n L (workable n L (call_valid c))) (lines_ok n M (workable n M (call_valid d))) p
          ∙ sym (call_due d (sym same.answer ∙ e)).kind;
    }

-- Handed the same buffers, two calls of one engine leave the same in all of them, but for the refutation and the identifiers of a no.
pub record LeftAlike (x : Result Answer Refusal) (a e : Lent) : Type 0 where
  pub yes : x ≡ Ok decide.Yes → a ≡ e
  pub no : x ≡ Ok decide.No → (a.model ≡ e.model) × (a.bounds ≡ e.bounds) × (a.groups ≡ e.groups) × (a.work ≡ e.work)

pub nothing_else_differs : {e : Engine} (n : ℕ) (L M : List ℤ) → Rearranged (lines_of L) (lines_of M) → (c : CallOf e n L) (d : CallOf e n M) → c.before ≡ d.before → LeftAlike c.answer c.after d.after
nothing_else_differs {e = e} n L M p c d same = record { yes = after_yes; no = after_no }
  where
    answers : c.answer ≡ d.answer
    answers = (order_does_not_matter n L M p c d).answer

    both : {A : Type 0} (f : Lent → List A) (room : ℕ) {u v : List A} → u ≡ v → u ++ drop room (f c.before) ≡ v ++ drop room (f d.before)
    both {A} f room {u} {v} e = ap (λ (w : List A). w ++ drop room (f c.before)) e ∙ ap (λ (b : Lent). v ++ drop room (f b)) same

    after_yes : c.answer ≡ Ok decide.Yes → c.after ≡ d.after
    after_yes q =
        let v = on_yes c q in
        let w = on_yes d (sym answers ∙ q) in
        let s = same_written n L M (workable n L (call_valid c)) (workable n M (call_valid d)) (same_solutions (lines_of L) (lines_of M) p) (call_yes c q) in
        let model : c.after.model ≡ d.after.model = v.model ∙ both (λ b. b.model) (model_room_lem n) s.0 ∙ sym w.model in
        let bounds : c.after.bounds ≡ d.after.bounds = v.bounds ∙ both (λ b. b.bounds) (bounds_room_lem n) s.1 ∙ sym w.bounds in
        let groups : c.after.groups ≡ d.after.groups = v.groups ∙ both (λ b. b.groups) (groups_room_lem n) s.2 ∙ sym w.groups in
        let refutation : c.after.refutation ≡ d.after.refutation = v.refutation ∙ ap (λ (b : Lent). b.refutation) same ∙ sym w.refutation in
        let identifiers : c.after.identifiers ≡ d.after.identifiers = v.identifiers ∙ ap (λ (b : Lent). b.identifiers) same ∙ sym w.identifiers in
        let work : c.after.work ≡ d.after.work = v.work ∙ ap (λ (b : Lent). cleared_to (room_of e n) b.work) same ∙ sym w.work in
        λ j. record { model = model j; bounds = bounds j; groups = groups j; refutation = refutation j; identifiers = identifiers j; work = work j }

    after_no : c.answer ≡ Ok decide.No → (c.after.model ≡ d.after.model) × (c.after.bounds ≡ d.after.bounds) × (c.after.groups ≡ d.after.groups) × (c.after.work ≡ d.after.work)
    after_no q =
        let v = on_no c q in
        let w = on_no d (sym answers ∙ q) in (
          v.model ∙ ap (λ (b : Lent). b.model) same ∙ sym w.model,
          v.bounds ∙ ap (λ (b : Lent). b.bounds) same ∙ sym w.bounds,
          v.groups ∙ ap (λ (b : Lent). b.groups) same ∙ sym w.groups,
          v.work ∙ ap (λ (b : Lent). cleared_to (room_of e n) b.work) same ∙ sym w.work,
        )

-- Of a valid list and a rearrangement of it, with the same buffers, the answer is one, 7 and 8 included; so is the number that the exported function returns.
answers_alike : (n : ℕ) (L M : List ℤ) → ValidFor n L → ValidFor n M → Rearranged (lines_of L) (lines_of M) → (b : Lent) → answer_for n L b ≡ answer_for n M b
unfolding decide_answer decide_validity_lem
answers_alike n L M v w p b =
    let t = same_verdict n L M (workable n L v) (workable n M w) (same_solutions (lines_of L) (lines_of M) p) in
    ap (λ (u : Result Unit Refusal). unless_refused (u or_else rooms_validity n (lengths_of b)) (cond (verdict_of n (lines_of L)) (Ok decide.Yes) (Ok decide.No))) (v ∙ sym w)
    ∙ ap (λ (u : Bool). unless_refused (decide_validity_lem n M (lengths_of b)) (cond u (Ok decide.Yes) (Ok decide.No))) t

pub answered_or_refused_alike : (n : ℕ) (L M : List ℤ) → ValidFor n L → length M % line_size ≡ 0 → Rearranged (lines_of L) (lines_of M)
    → (x y : Result Answer Refusal) (b a e : Lent) → Decided n L x b a → Decided n M y b e → x ≡ y
answered_or_refused_alike n L M v whole p x y b a e c d = c.is ∙ answers_alike n L M v (rearranged_valid n L M p whole v) p b ∙ sym d.is

pub returned_alike : (n : ℕ) (L M : List ℤ) → ValidFor n L → length M % line_size ≡ 0 → Rearranged (lines_of L) (lines_of M)
    → (r q : ℤ) (b a e : Lent) → DecideReturns n L r b a → DecideReturns n M q b e → r ≡ q
returned_alike n L M v whole p r q b a e c d = c.is ∙ ap decide_code_lem (answers_alike n L M v (rearranged_valid n L M p whole v) p b) ∙ sym d.is

-- So it is with every version of deciding that keeps its promise, and the promise rules out those of which it is not so: a verdict that depends on the first
-- line gives two orders two answers.
abbrev pub InAnyOrder : Version → Type 0
InAnyOrder f = (n : ℕ) (L M : List ℤ) → ValidFor n L → ValidFor n M → Rearranged (lines_of L) (lines_of M) → (b : Lent) → (f n L b).answer ≡ (f n M b).answer

pub kept_in_any_order : (f : Version) → Keeps f → InAnyOrder f
kept_in_any_order f k n L M v w p b = (k n L b).is ∙ answers_alike n L M v w p b ∙ sym (k n M b).is

pub first_line_only_by_order : InAnyOrder first_line_only → ⊥
unfolding validity_of lines_validity_lem line_tests line_at
first_line_only_by_order h =
    let e : Ok decide.No ≡ Ok decide.Yes = sym first_line_no ∙ h 1 (false_list ++ at_most5) (at_most5 ++ false_list) refl refl swapped (room_with 1 0) ∙ first_line_yes in never (cc)

-- ---- what a list implies

-- The pair: one answer, all four numbers included.
pub pair_in_any_order : (n : ℕ) (L M : List ℤ) (x y : ℕ) → Rearranged (lines_of L) (lines_of M) → (c : PairAsked n L x y) (d : PairAsked n M x y) → c.answer ≡ d.answer
pair_in_any_order n L M x y p c d = pair_by_solutions_alone n L M x y c d (same_solutions (lines_of L) (lines_of M) p)

-- The line: one answer, and on a no one model.
pub line_in_any_order : (n : ℕ) (L M : List ℤ) (l : Line) → Rearranged (lines_of L) (lines_of M) → (c : LineCall n L l) (d : LineCall n M l)
    → (c.answer ≡ d.answer) × (c.answer ≡ Ok NotImplied → take (model_room_lem n) c.after.model ≡ take (model_room_lem n) d.after.model)
line_in_any_order n L M l p c d = line_by_solutions_alone n L M l c d (same_solutions (lines_of L) (lines_of M) p)

-- ---- sessions

-- Two sessions of which one has taken the lines of the other in another order, whatever was added and withdrawn between: the answers to their last adds, where
-- both were answered.
pub session_in_any_order : (n : ℕ) (ls ms : List Line) (q r : Bool) (s u : List ℤ) → Reached n ls q s → Reached n ms r u
    → (l : Line) (x : Result Answer Refusal) (b : Lent) (t : List ℤ) (a : Lent) → Adds s l x b t a → NotRefused x
    → (m : Line) (y : Result Answer Refusal) (c : Lent) (v : List ℤ) (e : Lent) → Adds u m y c v e → NotRefused y
    → Rearranged (ls ++ l ∷ []) (ms ++ m ∷ []) → SameButWalks n x a y e
session_in_any_order n ls ms q r s u reached reached' l x b t a d h m y c v e f k p =
    order_does_not_matter n (numbers_of (ls ++ l ∷ [])) (numbers_of (ms ++ m ∷ [])) (rw (lines_of_numbers (ls ++ l ∷ []), lines_of_numbers (ms ++ m ∷ [])) p)
    (add_is_a_call n ls q s reached l x b t a d h) (add_is_a_call n ms r u reached' m y c v e f k)
