-- What was demanded, in the words of docs/SPECIFICATION.md, each statement proved by citing the rest: here of deciding, of the answers and of the checkers, in
-- Exported.antt of what C gets, in Files.antt of files and the program, in Sessions.antt of sessions, in Implied.antt and ImpliedLine.antt of what a list
-- implies, in Showing.antt, ShowingExported.antt and Learned.antt of showings, in Trees.antt of conditions with alternatives, in Seconds.antt of models in
-- seconds, in Shorter.antt of the shorter of two refutations, in Differences.antt of the engine for differences, in Order.antt of the order of lines, in
-- Small.antt of how large the answers are.
--
-- A reader has to believe the meaning of the words (`Solves`, `Written` in theory_answers/specs/Semantics.antt, `Refutes` and `BreaksAt` in check_soundness/specs),
-- the table of refusals (`refusal_table` in Refusals.antt, with `lent_rooms_by` in decide_buffers/specs/Room.antt) and what a call is (`CallOf` in Calls.antt: of
-- either engine that decides), and nothing of how the answers are computed.
--
-- The promises of the code are equations, for every input: `decide` promises `Decided` (decide/specs/Decided.antt), `decide_differences`
-- `DifferencesDecided` (differences/specs/Decided.antt), `check_model` answers
-- `model_answer`, `check_refutation` answers `refutation_answer`, `shorter` hands back `shorter_slice`, the exported functions return `DecideReturns`, `DifferencesReturn`,
-- `check_model_lem`, `check_refutation_lem`, `refutation_begin`, `refutation_take`, `refutation_end` and `shorter_returned`, and `report_input`, which the program calls,
-- promises `InputReported` (file_report/specs/Input.antt). src/lib.rt calls both checkers and `shorter` on buffers that could be written, and proves that
-- every buffer is left as it was.
use Rattle.std.specs.Prelude.{◌≡◌, refl, ◌⊎◌, ◌↔◌, Bool, true, false, cond, List, [], ◌∷◌, ◌++◌, ℕ, ◌+◌, ◌*◌, ◌/◌, ◌%◌, ◌<◌, ◌≤◌, ℤ, pos, nat_abs, length, drop, get_or, Err, Ok, Result}
use Rattle.std.proofs.Common.{sym, ap, subst, ◌∙◌}
use mathlib.Core.Logic.Iff
use Rattle.integers.specs.Integer.{◌⩽◌}
use Rattle.integers.specs.Laws.{never}
use Rattle.lines.specs.declared.Refusal.{Refusal}
use Rattle.lines.specs.declared.Refusal.TheVariants.{MisplacedCoefficient}
use Rattle.lines.specs.Limits.{line_size, max_refutation, max_identifier}
use Rattle.lines.specs.Line.{Assignment, Solves, Solvable, SameSolutions, line_at, line_count, lines_of, assignment_of, is_false_lem, number}
use Rattle.lines.specs.Refusal.{line_tests, lines_validity_lem, validity_of}
use Rattle.lines.specs.Bare.{OnlyIdentifiers, lines_same}
use Rattle.lines.specs.Terms.{terms_of, line_by_terms}
use Rattle.lines.specs.Valid.{LineOk, line_ok, valid_list, workable, shorter_valid}
use Rattle.check_answers.specs.declared.CheckAnswer.TheVariants.{Yes, No}
use Rattle.check_model.specs.Model.{model_answer}
use Rattle.check_model.specs.Meaning.{FirstFails, yes_exactly, no_exactly}
use Rattle.check_refutation.specs.Progress.{start}
use Rattle.check_refutation.specs.Answer.{refutation_answer}
use Rattle.check_pieces.specs.Taken.{take_all, end_answer}
use Rattle.check_pieces.specs.Cut.{Words, take_pieces, joined, resumed, in_pieces}
use Rattle.check_soundness.specs.Head.{kind_of, steps_in}
use Rattle.check_soundness.specs.Refutes.{Refutes}
use Rattle.check_soundness.specs.Answered.{accepted_when, answers_longer, answers_no_solvable}
use Rattle.theory_answers.specs.Semantics.{value_of, Agrees, IsModel, NoLeast, NoGreatest, Equal, Mirrored, AlwaysZero, SameVariable, SameSign, Written}
use Rattle.lines.specs.Limits.{absent_least, absent_greatest}
use Rattle.check_soundness.specs.BreaksAt.{BreaksAt}
use Rattle.check_soundness.specs.Breaks.{breaks_once, breaks_unless_refutes, no_exactly_where}
use Rattle.check_soundness.specs.Bare.{same_checked}
use Rattle.theory_bounds.specs.Verdict.{verdict_of, due_kind}
use Rattle.theory_bounds.specs.Answers.{model_of, bounds_of, groups_of}
use Rattle.theory_bounds.specs.Bare.{same_verdict as same-verdict-bare, same_model, same_bounds, same_groups, same_kind}
use Rattle.theory_answers.specs.Moved.{AllAbove}
use Rattle.theory_answers.specs.Small.{model_small}
use Rattle.theory_answers.specs.Refuted.{Due, due_refutation}
use Rattle.theory_answers.specs.Meaning.{computed_written, no_tie}
use Rattle.theory_answers.specs.Decided.{DueKind, LowestFalseLine, names_the_lowest, lines_ok, yes_solvable, no_unsolvable, solvable_yes, unsolvable_no, due_accepted, accepted_no, kind_due}
use Rattle.theory_answers.specs.Unique.{written_model, written_bounds, written_groups}
use Rattle.theory_answers.specs.Groups.{shared_exactly, equal_exactly, mirrored_exactly}
use Rattle.theory_answers.specs.Absent.{least_absent, greatest_absent}
use Rattle.theory_answers.specs.Longer.{no_stays, yes_before, least_stays_or_rises, greatest_stays_or_falls, groups_kept, equal_kept, different_kept, model_kept, solves_both, longer_entails}
use Rattle.theory_answers.specs.Same.{same_verdict, same_written}
use Rattle.decide_buffers.specs.Room.{Lent, model_room_lem, bounds_room_lem, groups_room_lem}
use Rattle.decide.specs.declared.Answer.{Answer}
use Rattle.decide.specs.declared.Answer.TheVariants as decide
use Rattle.decide.specs.Decided.{cleared_to, Decided, DecideOk}
use Rattle.decide_identifiers.specs.Identifiers.{step_at, identifiers_of, length_identifiers, identifier_whole}
use Rattle.decide.specs.Parts.{model_in_lem, bounds_in, groups_in, refutation_in, identifiers_in, model_in, bounds_in_law, groups_in_law, refutation_in_law, identifiers_in_law}
use Rattle.demands.specs.Cases.{AllHold, cases, all_cases}
use Rattle.demands.specs.Exists.{a_call}
use Rattle.demands.specs.Shown.{model_accepted}
use Rattle.demands.specs.Calls.{Engine, room_of, CallOf, Call, call_valid, call_yes, call_no, verdict_yes, verdict_no, on_yes, on_no, call_written, call_work, beyond_model, beyond_bounds, beyond_groups, call_due, call_identifiers, call_answer}
use Rattle.demands.specs.Refusals.{Asked, deciding, checking_model, list_table, refusal_table, NoneApplies, FirstApplies, IsRefused}
use Rattle.demands.specs.Refused.{table_refuses, table_valid, table_passes, list_valid}

-- A list is valid for its n if no refusal of the list itself applies.
abbrev pub ValidFor : ℕ → List ℤ → Type 0
ValidFor n L = validity_of n L ≡ Ok tt

-- A refutation is accepted against a list if the refutation checker, given that list and its n, says yes.
abbrev pub Accepted : ℕ → List ℤ → List ℕ → Type 0
Accepted n L R = refutation_answer n L R ≡ Ok Yes

-- ---- demand 1: any list gets an answer or a numbered refusal, and a refusal changes no lent buffer

-- The specification's table, for deciding and for both checks, on numbers and on bytes: a refusal is given exactly if its condition holds and none that goes
-- before does.
pub refusals_are_the_table : (a : Asked) (r : Refusal) → IsRefused a r ↔ FirstApplies (refusal_table a) r
refusals_are_the_table a r = table_refuses a r

-- Nothing is refused exactly if no condition of the table holds.
pub nothing_refused : (a : Asked) → ((r : Refusal) → IsRefused a r → ⊥) ↔ NoneApplies (refusal_table a)
nothing_refused a = table_passes a

-- A list is valid exactly if no condition of the list itself holds.
pub valid_exactly_if : (n : ℕ) (L : List ℤ) → ValidFor n L ↔ NoneApplies (list_table n L)
valid_exactly_if n L = list_valid n L

-- Of a call of `decide`: it answers by the first refusal that applies, and by yes or no exactly if none does. That it ends is part of every promise.
pub refused_exactly_if : (n : ℕ) (L : List ℤ) (answer : Result Answer Refusal) (before after : Lent) → Decided n L answer before after
    → (r : Refusal) → (answer ≡ Err r) ↔ FirstApplies (refusal_table (deciding n L before)) r
refused_exactly_if n L answer before after d r =
    let t = table_refuses (deciding n L before) r in ((λ e. t.0 (sym d.is ∙ e)), (λ f. d.is ∙ t.1 f))

-- A refusal leaves every lent buffer as it was.
pub refusal_changes_nothing : (n : ℕ) (L : List ℤ) (r : Refusal) (before after : Lent) → Decided n L (Err r) before after → after ≡ before
refusal_changes_nothing n L r before after d = d.leaves

-- No number of a variable is masked or folded: where a line is not refused, a variable with a coefficient is named by its own number, below n.
pub names_its_variables : (n : ℕ) (L : List ℤ) → ValidFor n L → (k : ℕ) → k < line_count L → LineOk n (line_at L k)
names_its_variables n L v k h = line_ok n k (line_at L k) ((valid_list n L v).each k h)

-- No identifier is masked or folded either: where a line is not refused, its identifier is from 0 to the greatest of 29 bits, as the signed number that it
-- is, and on a no and in files it comes back as that number (`identifiers_come_back`, `identifiers_read_back`).
pub identifiers_as_they_are : (n : ℕ) (L : List ℤ) → ValidFor n L → (k : ℕ) → k < line_count L → (pos 0 ⩽ (line_at L k).identifier) × ((line_at L k).identifier ⩽ pos max_identifier)
identifiers_as_they_are n L v k h = let i = ((valid_list n L v).lines k h).identifier in (i.low, i.high)

-- Every valid list, with buffers that have room, has a call that is not refused, whatever stood in them: the demands below are of something.
pub calls_exist : (n : ℕ) (L : List ℤ) (before : Lent) → DecideOk n L before → (c : Call n L) × (c.before ≡ before)
calls_exist n L before ok = a_call n L before ok

-- ---- demand 2: the answer is yes exactly if whole numbers exist that meet every line

pub record RightAnswer {e : Engine} (n : ℕ) (L : List ℤ) (c : CallOf e n L) : Type 0 where
  pub yes_exactly : (c.answer ≡ Ok decide.Yes) ↔ Solvable (lines_of L)
  pub no_exactly : (c.answer ≡ Ok decide.No) ↔ (Solvable (lines_of L) → ⊥)
  -- On a yes the one model, the tightest bounds and the groups are written; what lies beyond them, and the refutation, is untouched.
  pub written : c.answer ≡ Ok decide.Yes → Written n (lines_of L) (model_in_lem n c.after) (bounds_in n c.after) (groups_in n c.after)
  -- A bound's number is the absent one exactly if there is no bound.
  pub least_absent_exactly : c.answer ≡ Ok decide.Yes → (x : ℕ) → x < n → (get_or (bounds_in n c.after) (2 * x) (pos 0) ≡ absent_least) ↔ NoLeast (lines_of L) x
  pub greatest_absent_exactly : c.answer ≡ Ok decide.Yes → (x : ℕ) → x < n → (get_or (bounds_in n c.after) (2 * x + 1) (pos 0) ≡ absent_greatest) ↔ NoGreatest (lines_of L) (value_of x)
  -- A yes is shown too: the model checker accepts the model, its limits included.
  pub yes_is_shown : c.answer ≡ Ok decide.Yes → model_answer n L (model_in_lem n c.after) ≡ Ok Yes
  pub beyond_model : drop (model_room_lem n) c.after.model ≡ drop (model_room_lem n) c.before.model
  pub beyond_bounds : drop (bounds_room_lem n) c.after.bounds ≡ drop (bounds_room_lem n) c.before.bounds
  pub beyond_groups : drop (groups_room_lem n) c.after.groups ≡ drop (groups_room_lem n) c.before.groups
  pub no_refutation : c.answer ≡ Ok decide.Yes → (c.after.refutation ≡ c.before.refutation) × (c.after.identifiers ≡ c.before.identifiers)
  -- On a no the refutation and the identifiers of its steps are written and nothing else, and only as many numbers as they have.
  pub no_model : c.answer ≡ Ok decide.No → (c.after.model ≡ c.before.model) × (c.after.bounds ≡ c.before.bounds) × (c.after.groups ≡ c.before.groups)
  pub refutation_only : c.answer ≡ Ok decide.No → c.after.refutation ≡ refutation_in c.after ++ drop (length (refutation_in c.after)) c.before.refutation
  pub identifiers_only : c.answer ≡ Ok decide.No → c.after.identifiers ≡ identifiers_in c.after ++ drop (length (identifiers_in c.after)) c.before.identifiers
  -- The named part of the work area is all zeros, and the rest is untouched.
  pub work : c.after.work ≡ cleared_to (room_of e n) c.before.work

pub right_answer : {e : Engine} (n : ℕ) (L : List ℤ) (c : CallOf e n L) → RightAnswer n L c
right_answer n L c =
    let v = call_valid c in
    let o = workable n L v in
    record {
      yes_exactly = ((λ e. yes_solvable n L o (call_yes c e)), (λ s. verdict_yes c (solvable_yes n L o s)));
      no_exactly = ((λ e. no_unsolvable n L o (call_no c e)), (λ f. verdict_no c (unsolvable_no n L o f)));
      written = λ e. call_written c e;
      least_absent_exactly = λ e. least_absent n L o _ _ _ (call_written c e);
      greatest_absent_exactly = λ e. greatest_absent n L o _ _ _ (call_written c e);
      yes_is_shown = λ e. model_accepted n L _ _ _ v (call_written c e);
      beyond_model = beyond_model c;
      beyond_bounds = beyond_bounds c;
      beyond_groups = beyond_groups c;
      no_refutation = λ e. let w = on_yes c e in (w.refutation, w.identifiers);
      no_model = λ e. let w = on_no c e in (w.model, w.bounds, w.groups);
      refutation_only = λ e. let w = on_no c e in w.refutation ∙ ap (λ (R : List ℕ). R ++ drop (length R) c.before.refutation) (sym (refutation_in_law w));
      identifiers_only = λ e.
          let w = on_no c e in
          w.identifiers
          ∙ ap (λ (k : ℕ). identifiers_of L w.numbers ++ drop k c.before.identifiers) (sym (length_identifiers L w.numbers))
          ∙ ap (λ (I : List ℕ). I ++ drop (length I) c.before.identifiers) (sym (identifiers_in_law w));
      work = call_work c;
    }

-- ---- demand 3: every no is shown, and nothing learned is unlearned when lines are added

-- A no hands over a refutation R of the due kind: in the specification's words, kind 3 with the lowest false line, or one with at most 4n steps in all.
pub record ShowsNo (n : ℕ) (L : List ℤ) (R : List ℕ) : Type 0 where
  pub kind : DueKind L (kind_of R)
  pub lowest : (j : ℕ) → j < line_count L → is_false_lem (line_at L j) ≡ true → (k : ℕ) × LowestFalseLine L k × (R ≡ 3 ∷ 1 ∷ 0 ∷ 2 * k ∷ [])
  pub few : (kind_of R ≡ 3 → ⊥) → steps_in R ≤ 4 * n
  pub is_accepted : Accepted n L R

shows_no : (n : ℕ) (L : List ℤ) (R : List ℕ) → ValidFor n L → Due n L R → ShowsNo n L R
shows_no n L R v d =
    record {
      kind = subst (DueKind L) (sym d.kind) (kind_due n L (workable n L v));
      lowest = names_the_lowest n L (workable n L v) R d;
      few = λ z. d.few (λ e. z (d.kind ∙ e));
      is_accepted = due_accepted n L v R d;
    }

-- A list of whole lines with which a valid list begins is valid.
pub shorter_is_valid : (n : ℕ) (L M : List ℤ) → length L % line_size ≡ 0 → ValidFor n (L ++ M) → ValidFor n L
shorter_is_valid n L M = shorter_valid n L M

-- Who shared a group variable in the groups before shares one in those after, with the same relative sign: equal signs stay equal, and different signs stay
-- different unless both variables are always 0 in the longer list K.
pub record GoOnSharing (K : List ℤ) (before after : List ℕ) (x y : ℕ) : Type 0 where
  pub variable : SameVariable after x y
  pub equal : SameSign before x y → SameSign after x y
  pub different : (SameSign before x y → ⊥) → (SameSign after x y → ⊥) ⊎ (AlwaysZero (lines_of K) x × AlwaysZero (lines_of K) y)

-- One claim over any two calls that were not refused, each of either engine, on a list and on one that begins with all its lines.
pub record NothingUnlearned {e f : Engine} (n : ℕ) (L M : List ℤ) (c : CallOf e n L) (d : CallOf f n (L ++ M)) : Type 0 where
  -- A no hands over a refutation of the due kind, and the checker accepts it.
  pub shown : c.answer ≡ Ok decide.No → ShowsNo n L (refutation_in c.after)
  -- The answer is no exactly if the checker accepts some refutation, whoever proposed it.
  pub no_exactly_if_refuted : (c.answer ≡ Ok decide.No) ↔ ((R : List ℕ) × Accepted n L R)
  -- Accepted refutations stay accepted, unchanged.
  pub accepted_stays : (R : List ℕ) → Accepted n L R → Accepted n (L ++ M) R
  -- A no stays a no; and if the longer is a yes, so is the shorter.
  pub no_stays_no : c.answer ≡ Ok decide.No → d.answer ≡ Ok decide.No
  pub yes_was_yes : d.answer ≡ Ok decide.Yes → c.answer ≡ Ok decide.Yes
  -- Where both are a yes: least values stay or rise and greatest stay or fall, as the numbers written, absent ones included.
  pub least : c.answer ≡ Ok decide.Yes → d.answer ≡ Ok decide.Yes → (x : ℕ) → x < n
      → get_or (bounds_in n c.after) (2 * x) (pos 0) ⩽ get_or (bounds_in n d.after) (2 * x) (pos 0)
  pub greatest : c.answer ≡ Ok decide.Yes → d.answer ≡ Ok decide.Yes → (x : ℕ) → x < n
      → get_or (bounds_in n d.after) (2 * x + 1) (pos 0) ⩽ get_or (bounds_in n c.after) (2 * x + 1) (pos 0)
  -- Two events in one group stay in one group, equal ones equal and mirrored ones mirrored.
  pub groups : c.answer ≡ Ok decide.Yes → d.answer ≡ Ok decide.Yes → (x y : ℕ) → x < n → y < n
      → SameVariable (groups_in n c.after) x y → GoOnSharing (L ++ M) (groups_in n c.after) (groups_in n d.after) x y
  -- The model is the same exactly if the shorter list's model meets every added line.
  pub model : c.answer ≡ Ok decide.Yes → d.answer ≡ Ok decide.Yes
      → (model_in_lem n d.after ≡ model_in_lem n c.after) ↔ Solves (lines_of M) (assignment_of (model_in_lem n c.after))

pub nothing_unlearned : {e f : Engine} (n : ℕ) (L M : List ℤ) (c : CallOf e n L) (d : CallOf f n (L ++ M)) → NothingUnlearned n L M c d
nothing_unlearned n L M c d =
    let v = call_valid c in
    let u = call_valid d in
    let o = workable n L v in
    let p = workable n (L ++ M) u in
    let whole = o.whole in
    let more = longer_entails L M whole in
    record {
      shown = shown;
      no_exactly_if_refuted = ((λ e. (refutation_in c.after, (shown e).is_accepted)), (λ r. verdict_no c (accepted_no n L v r.0 r.1)));
      accepted_stays = λ R. answers_longer n L M R u;
      no_stays_no = λ e. verdict_no d (no_stays n L (L ++ M) o p more (call_no c e));
      yes_was_yes = λ e. verdict_yes c (yes_before n L (L ++ M) o p more (call_yes d e));
      least = λ a b. least_stays_or_rises n L (L ++ M) o p more _ _ _ _ _ _ (call_written c a) (call_written d b);
      greatest = λ a b. greatest_stays_or_falls n L (L ++ M) o p more _ _ _ _ _ _ (call_written c a) (call_written d b);
      groups = λ a b x y h k e.
          let w = call_written c a in
          let z = call_written d b in
          record {
            variable = groups_kept n L (L ++ M) o p more _ _ _ _ _ _ w z x y h k e;
            equal = equal_kept n L (L ++ M) o p more _ _ _ _ _ _ w z x y h k e;
            different = different_kept n L (L ++ M) o p more _ _ _ _ _ _ w z x y h k e;
          };
      model = λ a b.
          let w = call_written c a in
          let k = model_kept n L (L ++ M) o p more _ _ _ _ _ _ w (call_written d b) in
          ((λ e. ((solves_both L M whole _).0 (k.0 e)).1), (λ s. k.1 ((solves_both L M whole _).1 (w.model_is.solves, s))));
    }
  where
    shown : c.answer ≡ Ok decide.No → ShowsNo n L (refutation_in c.after)
    shown e = shows_no n L (refutation_in c.after) (call_valid c) (call_due c e)

-- Answers depend on the solutions alone: two lists with the same solutions have the same verdict, model, bounds and groups, whatever stood in the buffers
-- and whichever engine was asked.
pub record SameAnswers {e f : Engine} (n : ℕ) (L M : List ℤ) (c : CallOf e n L) (d : CallOf f n M) : Type 0 where
  pub answer : c.answer ≡ d.answer
  pub model : c.answer ≡ Ok decide.Yes → model_in_lem n c.after ≡ model_in_lem n d.after
  pub bounds : c.answer ≡ Ok decide.Yes → bounds_in n c.after ≡ bounds_in n d.after
  pub groups : c.answer ≡ Ok decide.Yes → groups_in n c.after ≡ groups_in n d.after

pub answers_by_solutions_alone : {e f : Engine} (n : ℕ) (L M : List ℤ) (c : CallOf e n L) (d : CallOf f n M) → SameSolutions (lines_of L) (lines_of M) → SameAnswers n L M c d
answers_by_solutions_alone n L M c d same =
    record {
      answer = answer;
      model = λ e. model_in (on_yes c e) ∙ (written e).0 ∙ sym (model_in (on_yes d (sym answer ∙ e)));
      bounds = λ e. bounds_in_law (on_yes c e) ∙ (written e).1 ∙ sym (bounds_in_law (on_yes d (sym answer ∙ e)));
      groups = λ e. groups_in_law (on_yes c e) ∙ (written e).2 ∙ sym (groups_in_law (on_yes d (sym answer ∙ e)));
    }
  where
    verdicts : verdict_of n (lines_of L) ≡ verdict_of n (lines_of M)
    verdicts = same_verdict n L M (workable n L (call_valid c)) (workable n M (call_valid d)) same

    answer : c.answer ≡ d.answer
    answer = go (verdict_of n (lines_of L)) refl
      where
        go : (t : Bool) → verdict_of n (lines_of L) ≡ t → c.answer ≡ d.answer
        go true e = verdict_yes c e ∙ sym (verdict_yes d (sym verdicts ∙ e))
        go false e = verdict_no c e ∙ sym (verdict_no d (sym verdicts ∙ e))

    written : c.answer ≡ Ok decide.Yes → (model_of n (lines_of L) ≡ model_of n (lines_of M)) × (bounds_of n (lines_of L) ≡ bounds_of n (lines_of M)) × (groups_of n (lines_of L) ≡ groups_of n (lines_of M))
    written e = same_written n L M (workable n L (call_valid c)) (workable n M (call_valid d)) same (call_yes c e)

-- ---- what the answers mean

-- The answer is yes exactly if whole numbers exist that meet every line.
pub yes_exactly_if_solvable : (n : ℕ) (L : List ℤ) → ValidFor n L → (verdict_of n (lines_of L) ≡ true) ↔ Solvable (lines_of L)
yes_exactly_if_solvable n L v = let o = workable n L v in (yes_solvable n L o, solvable_yes n L o)

-- Then the one model, the tightest bounds and the groups are computed.
pub yes_writes : (n : ℕ) (L : List ℤ) → ValidFor n L → verdict_of n (lines_of L) ≡ true
    → Written n (lines_of L) (model_of n (lines_of L)) (bounds_of n (lines_of L)) (groups_of n (lines_of L))
yes_writes n L v e = computed_written n (lines_of L) (lines_ok n L (workable n L v)) e

-- Nothing else has their meaning.
pub nothing_else : (n : ℕ) (L model bounds : List ℤ) (groups : List ℕ) → ValidFor n L → Written n (lines_of L) model bounds groups
    → (model ≡ model_of n (lines_of L)) × (bounds ≡ bounds_of n (lines_of L)) × (groups ≡ groups_of n (lines_of L))
nothing_else n L m b g v w = let o = workable n L v in (written_model n L o m b g w, written_bounds n L o m b g w, written_groups n L o m b g w)

-- On a yes, two group entries tell all that holds of two events in every solution. Sharing a group variable is an equivalence up to sign: x and y have the
-- same one exactly if x = y in every solution or x = -y in every solution. The signs say which: x = y exactly if both entries are equal, variable and sign;
-- x = -y exactly if the variables are equal and the signs differ, or both are always 0.
pub record GroupsTell {e : Engine} (n : ℕ) (L : List ℤ) (c : CallOf e n L) (x y : ℕ) : Type 0 where
  pub shared : SameVariable (groups_in n c.after) x y ↔ (Equal (lines_of L) x y ⊎ Mirrored (lines_of L) x y)
  pub equal : (SameVariable (groups_in n c.after) x y × SameSign (groups_in n c.after) x y) ↔ Equal (lines_of L) x y
  pub mirrored : ((SameVariable (groups_in n c.after) x y × (SameSign (groups_in n c.after) x y → ⊥)) ⊎ (AlwaysZero (lines_of L) x × AlwaysZero (lines_of L) y))
      ↔ Mirrored (lines_of L) x y

pub groups_tell : {e : Engine} (n : ℕ) (L : List ℤ) (c : CallOf e n L) → c.answer ≡ Ok decide.Yes → (x y : ℕ) → x < n → y < n → GroupsTell n L c x y
groups_tell n L c e x y h k =
    let w = call_written c e in
    record {
      shared = shared_exactly n (lines_of L) _ _ _ w x y h k;
      equal = equal_exactly n (lines_of L) _ _ _ w x y h k;
      mirrored = mirrored_exactly n (lines_of L) _ _ _ w x y h k;
    }

-- The values that a variable has in solutions agreeing with all earlier choices are consecutive integers, so there is no tie.
pub consecutive_values : (n : ℕ) (L : List ℤ) → ValidFor n L → (k : ℕ) → k < n → (s t : Assignment) → Solves (lines_of L) s → Solves (lines_of L) t → Agrees k t s
    → (z : ℤ) → s k ⩽ z → z ⩽ t k → (r : Assignment) × Solves (lines_of L) r × Agrees k r s × (r k ≡ z)
consecutive_values n L v k h s t a b =
    let o = workable n L v in
    no_tie n (lines_of L) (lines_ok n L o) (solvable_yes n L o (record { assignment = s; solves = a })) k h s t a b

-- With every d at least -m, each value of the model lies within n·m of zero.
pub model_is_small : (n m : ℕ) (L : List ℤ) → ValidFor n L → AllAbove m (lines_of L) → (s : Assignment) → IsModel n (lines_of L) s → (k : ℕ) → k < n
    → nat_abs (s k) ≤ n * m
model_is_small n m L v a = model_small n m (lines_of L) (lines_ok n L (workable n L v)) a

-- There is no solution exactly if the checker accepts some refutation, whoever proposed it.
pub unsolvable_exactly_if_refuted : (n : ℕ) (L : List ℤ) → ValidFor n L → (Solvable (lines_of L) → ⊥) ↔ ((R : List ℕ) × Accepted n L R)
unsolvable_exactly_if_refuted n L v = (
  (λ f. let r = due_refutation n L (unsolvable_no n L (workable n L v) f) in (r.0, due_accepted n L v r.0 r.1)),
  (λ r. answers_no_solvable n L r.0 r.1),
)

-- Whatever is accepted, a short one of the due kind is accepted too.
pub short_one_too : (n : ℕ) (L : List ℤ) (R : List ℕ) → ValidFor n L → Accepted n L R → (T : List ℕ) × ShowsNo n L T
short_one_too n L R v a = let r = due_refutation n L (accepted_no n L v R a) in (r.0, shows_no n L r.0 v r.1)

-- Kind 3 is due if some line is false, else kind 1 if a closed walk of negative sum exists, else kind 2.
pub the_due_kind : (n : ℕ) (L : List ℤ) → ValidFor n L → DueKind L (due_kind n (lines_of L))
the_due_kind n L v = kind_due n L (workable n L v)

-- The starred cases: one table, one statement over it.
pub starred_cases : AllHold cases
starred_cases = all_cases

-- ---- the refutation checker

-- The list's refusals, then 11; the checker says yes exactly for the three kinds.
pub yes_exactly_for_the_three_kinds : (n : ℕ) (L : List ℤ) (R : List ℕ) → Accepted n L R ↔ (ValidFor n L × (length R ≤ max_refutation) × Refutes L R)
yes_exactly_for_the_three_kinds n L R = accepted_when n L R

-- It accepts nothing against a list that has a solution, whoever proposed it.
pub nothing_against_a_solution : (n : ℕ) (L : List ℤ) (R : List ℕ) → Accepted n L R → Solvable (lines_of L) → ⊥
nothing_against_a_solution n L R = answers_no_solvable n L R

-- Accepted refutations stay accepted: unchanged, against each valid longer list that begins with all lines of the shorter.
pub accepted_stays_accepted : (n : ℕ) (L M : List ℤ) (R : List ℕ) → ValidFor n (L ++ M) → Accepted n L R → Accepted n (L ++ M) R
accepted_stays_accepted n L M R = answers_longer n L M R

-- Its no carries a place, an index into the refutation: it says no exactly where the refutation breaks by the specification's rules. A bad kind is index 0,
-- bad counts 1, a total length that disagrees with the counts 2; then, in reading order, the first step number that names no step or doesn't join, or the
-- last step of a walk that ends wrong; last, sums that aren't low enough give the index of the last number. In kind 3 a wrong step number is index 3. Fewer
-- than three numbers gives index 0.
pub no_exactly_where_it_breaks : (n : ℕ) (L : List ℤ) (R : List ℕ) (k : ℕ) → (refutation_answer n L R ≡ Ok (No k)) ↔ (ValidFor n L × (length R ≤ max_refutation) × BreaksAt L R k)
no_exactly_where_it_breaks n L R k = no_exactly_where n L R k

-- What is of none of the three kinds breaks somewhere, and nothing else does.
pub breaks_exactly_if_no_refutation : (L : List ℤ) (R : List ℕ) → (Refutes L R → ⊥) ↔ ((k : ℕ) × BreaksAt L R k)
breaks_exactly_if_no_refutation L R = breaks_unless_refutes L R

-- It breaks at one place.
pub breaks_at_one_place : (L : List ℤ) (R : List ℕ) (j k : ℕ) → BreaksAt L R j → BreaksAt L R k → j ≡ k
breaks_at_one_place L R j k = breaks_once L R j k

-- Stopped after any number it goes on to the same answer, from the list, the numbers not yet read and what it kept.
pub stopped_and_resumed : (n : ℕ) (L : List ℤ) (A B : List ℕ) → Words (A ++ B) → end_answer n L (take_all L (take_all L start A) B) ≡ refutation_answer n L (A ++ B)
stopped_and_resumed n L A B = resumed n L A B

-- So it does when stopped and resumed any number of times.
pub resumed_after_each_piece : (n : ℕ) (L : List ℤ) (pieces : List (List ℕ)) → Words (joined pieces) → end_answer n L (take_pieces L start pieces) ≡ refutation_answer n L (joined pieces)
resumed_after_each_piece n L pieces = in_pieces n L pieces

-- ---- identifiers

-- I has an identifier for each step of the refutation R, in walk order: that of the step's line, whole.
pub record EachIdentifier (L : List ℤ) (R I : List ℕ) : Type 0 where
  pub count : length I ≡ steps_in R
  pub each : (i : ℕ) → i < steps_in R → pos (get_or I i 0) ≡ (line_at L (step_at R i / 2)).identifier

-- Nothing falls out: so it is of every no.
pub identifiers_come_back : {e : Engine} (n : ℕ) (L : List ℤ) (c : CallOf e n L) → c.answer ≡ Ok decide.No → EachIdentifier L (refutation_in c.after) (identifiers_in c.after)
identifiers_come_back n L c e =
    let R = refutation_in c.after in
    rw (call_identifiers c e)
    (record { count = length_identifiers L R; each = identifier_whole n L R (valid_list n L (call_valid c)).lines (call_due c e).refutes })

-- Two calls, on lists that differ only in identifiers: the same answer, on a yes the same model, bounds and groups, on a no the same kind; and the checker
-- gives every refutation the same answer against both.
pub record NothingElseChanges {e f : Engine} (n : ℕ) (L M : List ℤ) (c : CallOf e n L) (d : CallOf f n M) : Type 0 where
  pub same_answer : c.answer ≡ d.answer
  pub same_model : c.answer ≡ Ok decide.Yes → model_in_lem n c.after ≡ model_in_lem n d.after
  pub same_bounds : c.answer ≡ Ok decide.Yes → bounds_in n c.after ≡ bounds_in n d.after
  pub same_groups : c.answer ≡ Ok decide.Yes → groups_in n c.after ≡ groups_in n d.after
  pub same_kind : c.answer ≡ Ok decide.No → kind_of (refutation_in c.after) ≡ kind_of (refutation_in d.after)
  pub checked_alike : (R : List ℕ) → refutation_answer n L R ≡ refutation_answer n M R

pub identifiers_change_nothing : {e f : Engine} (n : ℕ) (L M : List ℤ) → OnlyIdentifiers L M → (c : CallOf e n L) (d : CallOf f n M) → NothingElseChanges n L M c d
identifiers_change_nothing n L M o c d =
    let s = lines_same L M o in
    let same = call_answer c ∙ ap (λ (t : Bool). cond t (Ok decide.Yes) (Ok decide.No)) (same-verdict-bare n (lines_of L) (lines_of M) s) ∙ sym (call_answer d) in
    record {
      same_answer = same;
      same_model = λ e. model_in (on_yes c e) ∙ same_model n (lines_of L) (lines_of M) s ∙ sym (model_in (on_yes d (sym same ∙ e)));
      same_bounds = λ e. bounds_in_law (on_yes c e) ∙ same_bounds n (lines_of L) (lines_of M) s ∙ sym (bounds_in_law (on_yes d (sym same ∙ e)));
      same_groups = λ e. groups_in_law (on_yes c e) ∙ same_groups n (lines_of L) (lines_of M) s ∙ sym (groups_in_law (on_yes d (sym same ∙ e)));
      same_kind = λ e. (call_due c e).kind ∙ same_kind n (lines_of L) (lines_of M) s ∙ sym (call_due d (sym same ∙ e)).kind;
      checked_alike = same_checked L M o n (call_valid c) (call_valid d);
    }

-- ---- one place for a lone coefficient

-- A line that is not refused is determined by its terms that are not zero, in order, its d and its identifier: two such lines, each of a valid list, which
-- agree in these have the same numbers.
pub line_by_its_terms : (n m : ℕ) (L M : List ℤ) → ValidFor n L → ValidFor m M → (j k : ℕ) → j < line_count L → k < line_count M
    → terms_of (line_at L j) ≡ terms_of (line_at M k) → (line_at L j).d ≡ (line_at M k).d → (line_at L j).identifier ≡ (line_at M k).identifier → line_at L j ≡ line_at M k
line_by_its_terms n m L M v w j k h i = line_by_terms n m j k (line_at L j) (line_at M k) ((valid_list n L v).each j h) ((valid_list m M w).each k i)

-- So two lists whose lines mean the same are one, with one file (`same_terms_same_file` in Files.antt). Without rule 12 that would not hold: x ≤ 5 has the
-- same terms in both places, and is refused in the second.
abbrev pub lone_first : List ℤ
lone_first = pos 1 ∷ pos 0 ∷ pos 0 ∷ pos 0 ∷ pos 5 ∷ pos 0 ∷ []

abbrev pub lone_second : List ℤ
lone_second = pos 0 ∷ pos 0 ∷ pos 1 ∷ pos 0 ∷ pos 5 ∷ pos 0 ∷ []

pub second_place_is_refused : (terms_of (line_at lone_first 0) ≡ terms_of (line_at lone_second 0)) × ValidFor 1 lone_first × (validity_of 1 lone_second ≡ Err (MisplacedCoefficient 0))
unfolding validity_of lines_validity_lem line_tests line_at terms_of
second_place_is_refused = (refl, refl, refl)

-- The order of two terms is left to the tools: x + y ≤ 5 and y + x ≤ 5 are both valid, and two lists.
abbrev pub x_plus_y : List ℤ
x_plus_y = pos 1 ∷ pos 0 ∷ pos 1 ∷ pos 1 ∷ pos 5 ∷ pos 0 ∷ []

abbrev pub y_plus_x : List ℤ
y_plus_x = pos 1 ∷ pos 1 ∷ pos 1 ∷ pos 0 ∷ pos 5 ∷ pos 0 ∷ []

pub terms_in_either_order : ValidFor 2 x_plus_y × ValidFor 2 y_plus_x × (x_plus_y ≡ y_plus_x → ⊥)
unfolding validity_of lines_validity_lem line_tests line_at
terms_in_either_order = (refl, refl, (λ e. let x : pos 0 ≡ pos 1 = ap (λ (L : List ℤ). number L 1) e in never (cc)))

-- ---- the model checker

-- Yes: nothing is refused, and the values meet every line.
pub model_yes : (n : ℕ) (L m : List ℤ) → (model_answer n L m ≡ Ok Yes) ↔ (NoneApplies (refusal_table (checking_model n L m)) × Solves (lines_of L) (assignment_of m))
model_yes n L m = Iff.trans (yes_exactly n L m) (Iff.and (table_valid (checking_model n L m)) Iff.rfl)

-- No: with the first line that fails, in list order.
pub model_no : (n : ℕ) (L m : List ℤ) (k : ℕ) → (model_answer n L m ≡ Ok (No k)) ↔ (NoneApplies (refusal_table (checking_model n L m)) × FirstFails L (assignment_of m) k)
model_no n L m k = Iff.trans (no_exactly n L m k) (Iff.and (table_valid (checking_model n L m)) Iff.rfl)
