-- What was demanded of the engine for differences, in the words of docs/SPECIFICATION.md, each statement proved by citing the rest.
--
-- A call of it is one of those of which the demands speak (`CallOf plain`), so that they hold of it as they stand: its answer is right and what it writes is
-- `Written` (`right_answer`), nothing is unlearned between a call of the one engine and one of the other (`nothing_unlearned`), identifiers come back, the order
-- of lines does not matter (`order_does_not_matter`), values are small (`model_within`), and what C gets is a call (`returned_is_a_call`). Here is what is its
-- own: what it refuses and takes, that it answers as the first engine does, and what holds of lists of differences. `decide_differences` promises
-- `DifferencesDecided` (differences/specs/Decided.antt), an equation for every input; the exported function returns `DifferencesReturn`.
use Rattle.std.specs.Prelude.{◌≡◌, refl, ◌↔◌, Bool, true, false, cond, List, ◌++◌, ℕ, zero, suc, ◌+◌, ◌*◌, ◌%◌, ◌<◌, ◌≤◌, eqb, ℤ, pos, length, get_or, Err, Ok, Result}
use Rattle.std.proofs.Common.{sym, ap, subst, ◌∙◌, arith}
use Rattle.integers.specs.Laws.{never}
use Rattle.integers.specs.Table.{below_at, below_all}
use Rattle.integers.specs.Lowest.{IsFirstFailing}
use Rattle.lines.specs.declared.Refusal.{Refusal}
use Rattle.lines.specs.declared.Refusal.TheVariants.{NotDifference}
use Rattle.lines.specs.Limits.{line_size, absent_least, absent_greatest}
use Rattle.lines.specs.Line.{Solvable, line_at, line_count, lines_of}
use Rattle.lines.specs.Refusal.{number_of, validity_of}
use Rattle.lines.specs.Valid.{workable}
use Rattle.theory_walks.specs.Graph.{at_line, line_at_law}
use Rattle.check_soundness.specs.Head.{kind_of, steps_in}
use Rattle.theory_answers.specs.Semantics.{value_of, NoLeast, NoGreatest, Mirrored, IsGroup, group_sign}
use Rattle.theory_answers.specs.Decided.{lines_ok}
use Rattle.theory_answers.specs.Same.{same_verdict}
use Rattle.theory_differences.specs.Plain.{Differences, all_differences, is_difference_lem, differences}
use Rattle.theory_differences.specs.Answers.{verdict_plain, kind_plain}
use Rattle.theory_differences.specs.Shift.{no_least, no_greatest, never_mirrored}
use Rattle.theory_order.specs.Rearranged.{Rearranged, includes, turned_back, same_solutions, rearranged_valid}
use Rattle.decide_buffers.specs.declared.Lengths.{Lengths}
use Rattle.decide_buffers.specs.Room.{Lent, lengths_of, lent_rooms_by, differences_work_room_lem, HaveRoom}
use Rattle.decide.specs.declared.Answer.{Answer}
use Rattle.decide.specs.declared.Answer.TheVariants as decide
use Rattle.decide.specs.Decided.{unless_refused, judged}
use Rattle.decide.specs.Parts.{bounds_in, groups_in, refutation_in}
use Rattle.differences_lines.specs.Others.{difference_at, first_other_lem, other_first}
use Rattle.differences_lines.specs.Refused.{ok_differences, list_refused, other_refused, rooms_left}
use Rattle.differences.specs.Decided.{differences_answer_for, plain_validity_for, DifferencesDecided, differences_judged, answered_ok}
use Rattle.c_deciding.specs.Calls.{decide_code_lem}
use Rattle.c_differences.specs.Calls.{DifferencesReturn}
use Rattle.demands.specs.Calls.{Engine, plain, CallOf, Call, call_valid, call_no, call_written, call_due, call_accepted}
use Rattle.demands.specs.Refusals.{IsDifference, deciding_differences, line_table, list_table, rooms_table, refusal_table, FirstApplies}
use Rattle.demands.specs.Refused.{difference_test, EachRow, each_from, given_row, list_gives, rooms_give, differences_refused, table_refuses}
use Rattle.demands.specs.Demands.{ValidFor, Accepted, RightAnswer, right_answer, NothingUnlearned, nothing_unlearned, SameAnswers, answers_by_solutions_alone}
use Rattle.demands.specs.DifferencesVersions.{right, right_keeps}

-- Each line is a difference: one coefficient 1 and one -1, in either order.
abbrev pub AllDifferences : List ℤ → Type 0
AllDifferences L = (k : ℕ) → k < line_count L → IsDifference (line_at L k)

-- as it is computed
computed : (L : List ℤ) → AllDifferences L → all_differences L ≡ true
unfolding all_differences
computed L h = below_all (line_count L) (λ k. is_difference_lem (line_at L k)) (λ k l. (difference_test (line_at L k)).1 (h k l))

told : (L : List ℤ) → all_differences L ≡ true → AllDifferences L
unfolding all_differences
told L e k h = (difference_test (line_at L k)).0 (below_at (line_count L) (λ k. is_difference_lem (line_at L k)) e k h)

-- ---- demand 1: what is refused

-- It answers by the first refusal of its table that applies, and by yes or no exactly if none does.
pub differences_refused_exactly_if : (n : ℕ) (L : List ℤ) (answer : Result Answer Refusal) (before after : Lent) → DifferencesDecided n L answer before after
    → (r : Refusal) → (answer ≡ Err r) ↔ FirstApplies (refusal_table (deciding_differences n L before)) r
differences_refused_exactly_if n L answer before after d r =
    let t = table_refuses (deciding_differences n L before) r in ((λ e. t.0 (sym d.is ∙ e)), (λ f. d.is ∙ t.1 f))

-- A refusal leaves every lent buffer as it was.
pub differences_refusal_changes_nothing : (n : ℕ) (L : List ℤ) (r : Refusal) (before after : Lent) → DifferencesDecided n L (Err r) before after → after ≡ before
differences_refusal_changes_nothing n L r before after d = d.leaves

-- 60 at line k, said without the table: the list is valid, line k is no difference, and each line before it is one. So 60 goes after every line's rules and
-- before 7 and 8, whatever is lent.
pub record FirstOther (n : ℕ) (L : List ℤ) (k : ℕ) : Type 0 where
  pub valid : ValidFor n L
  pub below : k < line_count L
  pub other : IsDifference (line_at L k) → ⊥
  pub before : (j : ℕ) → j < k → IsDifference (line_at L j)

-- No row of the list or of the buffers has the number of 60: what is refused by it is refused by its own rows, of which the first that applies is the first line
-- that is no difference.
abbrev NotSixty : Refusal → Type 0
NotSixty r = eqb (number_of r) (number_of (NotDifference 0)) ≡ false

list_not_sixty : (n : ℕ) (L : List ℤ) → EachRow NotSixty (list_table n L)
list_not_sixty n L = (refl, (refl, (refl, each_from NotSixty 0 (line_count L) (λ k. line_table n k (line_at L k)) (λ k. search))))

rooms_not_sixty : (n : ℕ) (s : Lengths) → EachRow NotSixty (rooms_table (lent_rooms_by differences_work_room_lem) n s)
rooms_not_sixty n s = search

pub sixty_exactly_if : (n : ℕ) (L : List ℤ) (lent : Lent) (k : ℕ) → (differences_answer_for n L lent ≡ Err (NotDifference k)) ↔ FirstOther n L k
sixty_exactly_if n L lent k = (
  (λ e. by_list ((differences_refused n L lent (NotDifference k)).0 e) (validity_of n L) refl),
  (λ f. (differences_refused n L lent (NotDifference k)).1 (sym (other_refused n L (lengths_of lent) f.valid k (is_first f (some_other f)) (some_other f)))),
)
  where
    same : (j : ℕ) → ◌≡◌ {A = Result Unit Refusal} (Err (NotDifference j)) (Err (NotDifference k)) → j ≡ k
    same j e = cc

    not_sixty : NotSixty (NotDifference k) → FirstOther n L k
    not_sixty e = never (cc)

    by_list : plain_validity_for n L lent ≡ Err (NotDifference k) → (v : Result Unit Refusal) → validity_of n L ≡ v → FirstOther n L k
    by_list given (Err r) q =
        not_sixty (given_row NotSixty (list_gives n L) (list_not_sixty n L) (NotDifference k) (q ∙ list_refused n L (lengths_of lent) r q ∙ given))
    by_list given (Ok _) q = by_lines (all_differences L) refl
      where
        by_lines : (t : Bool) → all_differences L ≡ t → FirstOther n L k
        by_lines true a =
            not_sixty
            (given_row NotSixty (rooms_give (lent_rooms_by differences_work_room_lem) n (lengths_of lent)) (rooms_not_sixty n (lengths_of lent)) (NotDifference k)
            (rooms_left n L (lengths_of lent) q a ∙ given))
        by_lines false a =
            let f = subst (IsFirstFailing (line_count L) (difference_at L)) (same (first_other_lem L) (other_refused n L (lengths_of lent) q (first_other_lem L) refl a ∙ given)) (other_first L a) in
            record {
              valid = q;
              below = f.below;
              other = λ d. never (cc (sym f.fails ∙ (difference_test (line_at L k)).1 d));
              before = λ j h. (difference_test (line_at L j)).0 (f.before j h);
            }

    some_other : FirstOther n L k → all_differences L ≡ false
    some_other f = go (all_differences L) refl
      where
        go : (t : Bool) → all_differences L ≡ t → t ≡ false
        go true e = absurd (f.other (told L e k f.below))
        go false e = refl

    is_first : FirstOther n L k → all_differences L ≡ false → k ≡ first_other_lem L
    is_first f e =
        let g = other_first L e in
        let not_less : k < first_other_lem L → ⊥ = λ h. f.other ((difference_test (line_at L k)).0 (g.before k h)) in
        let not_more : first_other_lem L < k → ⊥ = λ h. never (cc (sym g.fails ∙ (difference_test (line_at L (first_other_lem L))).1 (f.before (first_other_lem L) h))) in
        omega (arith, not_less, not_more)

-- What it takes is a valid list of differences.
pub takes_differences_alone : (n : ℕ) (L : List ℤ) (c : CallOf plain n L) → ValidFor n L × AllDifferences L
takes_differences_alone n L c =
    let o = answered_ok n L c.before (λ r e. c.not_refused r (c.decided.is ∙ e)) in (o.list, told L o.all)

-- Every such list, with buffers that have room, has a call that is not refused, whatever stood in them.
pub differences_calls_exist : (n : ℕ) (L : List ℤ) (before : Lent) → ValidFor n L → AllDifferences L → HaveRoom (lent_rooms_by differences_work_room_lem) n (lengths_of before)
    → (c : CallOf plain n L) × (c.before ≡ before)
differences_calls_exist n L before v all rooms = (
  record {
    answer = (right n L before).answer;
    before = before;
    after = (right n L before).after;
    decided = right_keeps n L before;
    not_refused = λ r e. never_refused r (sym (right_keeps n L before).is ∙ e);
  },
  refl,
)
  where
    valid : plain_validity_for n L before ≡ Ok tt
    valid = ok_differences n L (lengths_of before) (record { list = v; all = computed L all; rooms = rooms })

    never_refused : (r : Refusal) → differences_answer_for n L before ≡ Err r → ⊥
    never_refused r e = never (cc (sym valid ∙ (differences_refused n L before r).0 e))

-- ---- both engines

-- On each list that both take, the verdict is the same, and on a yes the model, the bounds and the groups: what each writes is `Written`, which fixes them.
pub both_engines_agree : (n : ℕ) (L : List ℤ) (c : Call n L) (d : CallOf plain n L) → SameAnswers n L L c d
both_engines_agree n L c d = answers_by_solutions_alone n L L c d (λ s. ((λ h. h), (λ h. h)))

-- Demand 2 of this engine, and demand 3 between any two calls, each of either engine.
pub differences_right_answer : (n : ℕ) (L : List ℤ) (c : CallOf plain n L) → RightAnswer n L c
differences_right_answer n L c = right_answer n L c

pub unlearned_across_engines : {e f : Engine} (n : ℕ) (L M : List ℤ) (c : CallOf e n L) (d : CallOf f n (L ++ M)) → NothingUnlearned n L M c d
unlearned_across_engines n L M c d = nothing_unlearned n L M c d

-- ---- lists of differences, whichever engine decides them
module _ (n : ℕ) (L : List ℤ) (all : AllDifferences L) where
  plain_lines : Differences (lines_of L)
  plain_lines = differences L (computed L all)

  -- They have no bounds at all, since all values of a solution can be moved together:
  pub differences_have_no_bounds : Solvable (lines_of L) → (x : ℕ) → NoLeast (lines_of L) x × NoGreatest (lines_of L) (value_of x)
  differences_have_no_bounds s x = (no_least (lines_of L) plain_lines s x, no_greatest (lines_of L) plain_lines s x)

  -- and no two events are mirrored, nor is one always 0.
  pub differences_never_mirrored : Solvable (lines_of L) → (x y : ℕ) → Mirrored (lines_of L) x y → ⊥
  differences_never_mirrored s x y = never_mirrored (lines_of L) plain_lines s x y

  module _ {e : Engine} (c : CallOf e n L) where
    solvable : c.answer ≡ Ok decide.Yes → Solvable (lines_of L)
    solvable q = (right_answer n L c).yes_exactly.0 q

    -- So every bound that is written is the absent one, and every sign is plus.
    pub no_bound_written : c.answer ≡ Ok decide.Yes → (x : ℕ) → x < n
        → (get_or (bounds_in n c.after) (2 * x) (pos 0) ≡ absent_least) × (get_or (bounds_in n c.after) (2 * x + 1) (pos 0) ≡ absent_greatest)
    no_bound_written q x h =
        let r = right_answer n L c in
        let b = differences_have_no_bounds (solvable q) x in
        ((r.least_absent_exactly q x h).1 b.0, (r.greatest_absent_exactly q x h).1 b.1)

    pub no_minus_written : c.answer ≡ Ok decide.Yes → (x : ℕ) → x < n → group_sign (groups_in n c.after) x ≡ 0
    no_minus_written q x h = go _ _ ((call_written c q).group_is x h)
      where
        go : (r sign : ℕ) → IsGroup (lines_of L) x r sign → sign ≡ 0
        go r zero g = refl
        go r (suc zero) g = absurd (differences_never_mirrored (solvable q) x r g.together)
        go r (suc (suc sign)) g = absurd (omega (arith, g.a_sign))

    -- A no is of kind 1, has at most 4n steps, and is accepted.
    pub no_is_a_closed_walk : c.answer ≡ Ok decide.No → (kind_of (refutation_in c.after) ≡ 1) × (steps_in (refutation_in c.after) ≤ 4 * n) × Accepted n L (refutation_in c.after)
    no_is_a_closed_walk q =
        let ok = lines_ok n L (workable n L (call_valid c)) in
        let kind = kind_plain n (lines_of L) ok plain_lines (sym (verdict_plain n (lines_of L) ok plain_lines) ∙ call_no c q) in
        let d = call_due c q in
        (d.kind ∙ kind, d.few (λ z. omega (arith, kind, z)), call_accepted c q)

-- ---- the order of lines

-- A rearrangement of a list of differences is one.
pub rearranged_differences : (L M : List ℤ) → Rearranged (lines_of L) (lines_of M) → AllDifferences L → AllDifferences M
rearranged_differences L M p all k h =
    let r = includes (turned_back p) k (line_at M k) (line_at_law M k h) in
    let at = at_line L r.0 (line_at M k) r.1 in
    subst IsDifference at.1 (all r.0 at.0)

-- Of a valid list of differences and a rearrangement of it, with the same buffers, the answer is one, 7 and 8 included; so is the number that the exported
-- function returns. (Of other lists 60 may name another line.)
differences_alike : (n : ℕ) (L M : List ℤ) → ValidFor n L → AllDifferences L → length M % line_size ≡ 0 → Rearranged (lines_of L) (lines_of M) → (b : Lent)
    → differences_answer_for n L b ≡ differences_answer_for n M b
differences_alike n L M v all whole p b =
    let w = rearranged_valid n L M p whole v in
    let rooms : plain_validity_for n L b ≡ plain_validity_for n M b = sym (rooms_left n L (lengths_of b) v (computed L all)) ∙ rooms_left n M (lengths_of b) w (computed M (rearranged_differences L M p all)) in
    let verdicts = same_verdict n L M (workable n L v) (workable n M w) (same_solutions (lines_of L) (lines_of M) p) in
    differences_judged n L b
    ∙ ap (λ (u : Result Unit Refusal). judged u n L) rooms
    ∙ ap (λ (t : Bool). unless_refused (plain_validity_for n M b) (cond t (Ok decide.Yes) (Ok decide.No))) verdicts
    ∙ sym (differences_judged n M b)

pub differences_answered_or_refused_alike : (n : ℕ) (L M : List ℤ) → ValidFor n L → AllDifferences L → length M % line_size ≡ 0 → Rearranged (lines_of L) (lines_of M)
    → (x y : Result Answer Refusal) (b a e : Lent) → DifferencesDecided n L x b a → DifferencesDecided n M y b e → x ≡ y
differences_answered_or_refused_alike n L M v all whole p x y b a e c d = c.is ∙ differences_alike n L M v all whole p b ∙ sym d.is

pub differences_returned_alike : (n : ℕ) (L M : List ℤ) → ValidFor n L → AllDifferences L → length M % line_size ≡ 0 → Rearranged (lines_of L) (lines_of M)
    → (r q : ℤ) (b a e : Lent) → DifferencesReturn n L r b a → DifferencesReturn n M q b e → r ≡ q
differences_returned_alike n L M v all whole p r q b a e c d = c.is ∙ ap decide_code_lem (differences_alike n L M v all whole p b) ∙ sym d.is
