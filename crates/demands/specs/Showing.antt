-- What was asked of showings, in the words of docs/SPECIFICATION.md, each statement proved by citing the rest: every learned line is shown.
--
-- A reader has to believe the meaning of the words (`Implies` and `Breaks` in lines/specs/Line.antt, `against` in shown_list/specs/Against.antt, the rule of a
-- refutation in check_soundness/specs/Refutes.antt and the words of Demands.antt), the tables of refusals here and what a call is (`ShowCall`), and nothing of
-- how a showing is found. The promise of the checker is an equation, `shown_answer` (check_shown/specs/Answer.antt), that of the call `ShowsLine`
-- (show_line/specs/Answer.antt), each for every input; the exported functions return `check_shown_lem` and `ShowReturns` (c_check_shown/specs/Calls.antt, c_show_line/specs/Calls.antt).
use Rattle.std.specs.Prelude.{◌≡◌, refl, ◌↔◌, Bool, true, false, ℕ, ◌/◌, ◌<◌, ℤ, length, drop, Err, Ok, Result}
use Rattle.std.proofs.Common.{sym, subst, ◌∙◌, arith}
use Rattle.std.proofs.Math.Path.{ap}
use mathlib.Core.List.{List, [], ◌∷◌, ◌++◌}
use Rattle.std.proofs.Math.IntN.{nat_abs}
use Rattle.std.proofs.Math.ListN.{get_or, get_or-append}
use Rattle.std.proofs.Math.Seq.{drop_at}
use Rattle.integers.specs.Laws.{never}
use Rattle.integers.specs.Sequence.{get_d_tabulate}
use Rattle.lines.specs.declared.Line.{Line}
use Rattle.lines.specs.declared.Refusal.{Refusal}
use Rattle.lines.specs.declared.Refusal.TheVariants.{LongRefutation}
use Rattle.lines.specs.Limits.{max_lines, max_refutation, shown_constant_lem}
use Rattle.lines.specs.Line.{line_at, line_count, lines_of, Implies, Breaks}
use Rattle.lines.specs.Refusal.{validity_of}
use Rattle.check_answers.specs.declared.CheckAnswer.TheVariants.{Yes}
use Rattle.check_answers.specs.declared.CheckAnswer.TheVariants as check
use Rattle.check_answers.specs.Answer.{refused_when}
use Rattle.check_answers.specs.Answer as checks
use Rattle.check_refutation.specs.Progress.{start, run, accepted}
use Rattle.check_refutation.specs.Small.{either}
use Rattle.check_refutation.specs.Answer.{verdict}
use Rattle.check_soundness.specs.Head.{steps_in}
use Rattle.theory_bounds.specs.Verdict.{verdict_of}
use Rattle.theory_answers.specs.Refuted.{Due, due_refutation}
use Rattle.theory_answers.specs.Decided.{Some}
use Rattle.decide_identifiers.specs.Identifiers.{identifier_of_lem, step_at, identifiers_of, length_identifiers}
use Rattle.decide.specs.Decided.{cleared}
use Rattle.opposite_line.specs.Opposite.{opposite}
use Rattle.shown_list.specs.Against.{against, own_line, last_line}
use Rattle.check_shown.specs.Answer.{showing_validity_lem, shown_answer}
use Rattle.check_shown.specs.Asked.{ShownAsked, list_ok}
use Rattle.check_shown.specs.Meaning.{accepted_met, accepted_longer}
use Rattle.show_line.specs.declared.ShowAnswer.{ShowAnswer}
use Rattle.show_line.specs.declared.ShowAnswer.TheVariants.{Shown, NotShown}
use Rattle.show_line.specs.Answer.{show_rooms, show_validity_lem, judged_by, unless_refused, show_answer, ShowLent, lengths_of, OnShown, OnNotShown, Leaves, ShowsLine}
use Rattle.show_line.specs.Found.{show_asked}
use Rattle.show_line.specs.Meaning.{due_shown, implied_no, open_breaks, shown_exactly_if_implied}
use Rattle.show_line.specs.Places.{NotRefused, answered_valid}
use Rattle.implied_line.specs.declared.LineAnswer.TheVariants.{NotImplied}
use Rattle.demands.specs.Refusals.{Row, ◌when◌, table_within, list_table, rooms_table, FirstApplies}
use Rattle.demands.specs.Refused.{gives_or, gives_last, gives_refused, less_test, list_gives, within_gives, rooms_give}
use Rattle.demands.specs.ImpliedLine.{LineCall, right_line}
use Rattle.demands.specs.ShowingVersions.{right, right_keeps}

-- ---- a showing that is accepted

-- It says that every solution of the list meets the line, whoever proposed it.
pub accepted_says_so : (n : ℕ) (L : List ℤ) (l : Line) (R : List ℕ) → shown_answer n L l R ≡ Ok Yes → Implies (lines_of L) l
accepted_says_so = accepted_met

-- Where nothing is refused, every solution meets the line exactly if some showing is accepted: a list without a solution shows every line.
pub shown_exactly_if_met : (n : ℕ) (L : List ℤ) (l : Line) → ShownAsked n L l → Some (λ R. shown_answer n L l R ≡ Ok Yes) ↔ Implies (lines_of L) l
shown_exactly_if_met = shown_exactly_if_implied

-- Then a short one is: it is of the kind that is due for the list against the line, and has at most 4·n steps or names a false line.
pub short_one_is_accepted : (n : ℕ) (L : List ℤ) (l : Line) → ShownAsked n L l → Implies (lines_of L) l → Some (λ R. (shown_answer n L l R ≡ Ok Yes) × Due n (against L l) R)
short_one_is_accepted n L l a met =
    let d = due_refutation n (against L l) (implied_no n L l a met) in
    (d.0, (due_shown n L l a d.0 d.1, d.1))

-- Nothing is unlearned: what is accepted against a list is accepted unchanged against each valid longer list.
pub accepted_for_good : (n : ℕ) (L M : List ℤ) (l : Line) (R : List ℕ) → validity_of n (L ++ M) ≡ Ok tt → shown_answer n L l R ≡ Ok Yes → shown_answer n (L ++ M) l R ≡ Ok Yes
accepted_for_good = accepted_longer

-- ---- refusals

-- The list's; then the rules of a line, at the number that it would have behind the list, with the limit of a shown line for d; then 11.
abbrev pub showing_table : ℕ → List ℤ → Line → List ℕ → List Row
showing_table n L l R = list_table n L ++ (table_within (shown_constant_lem n) n (line_count L) l ++ LongRefutation when (max_refutation < length R) ∷ [])

pub showing_refused_exactly_if : (n : ℕ) (L : List ℤ) (l : Line) (R : List ℕ) (r : Refusal) → (shown_answer n L l R ≡ Err r) ↔ FirstApplies (showing_table n L l R) r
unfolding shown_answer showing_validity_lem verdict
showing_refused_exactly_if n L l R r =
    let s = run (against L l) start R in
    let f = gives_refused (gives_or (list_gives n L) (gives_or (within_gives (shown_constant_lem n) n (line_count L) l) (gives_last (less_test max_refutation (length R))))) r in
    let g = refused_when (showing_validity_lem n L l (length R)) (Ok (verdict s)) tt r in
    ((λ e. f.0 (g.0 e)), (λ t. g.1 (f.1 t)))

-- The same of a call, with 7 at places 4 and 5 and 8 instead of 11.
abbrev pub show_table : ℕ → List ℤ → Line → ShowLent → List Row
show_table n L l b = list_table n L ++ (table_within (shown_constant_lem n) n (line_count L) l ++ rooms_table show_rooms n (lengths_of b))

pub show_refused_exactly_if : (n : ℕ) (L : List ℤ) (l : Line) (x : Result ShowAnswer Refusal) (b a : ShowLent) → ShowsLine n L l x b a → (r : Refusal) → (x ≡ Err r) ↔ FirstApplies (show_table n L l b) r
unfolding show_answer show_validity_lem
show_refused_exactly_if n L l x b a d r =
    let f = gives_refused (gives_or (list_gives n L) (gives_or (within_gives (shown_constant_lem n) n (line_count L) l) (rooms_give show_rooms n (lengths_of b)))) r in (
      (λ e. f.0 (fore (show_validity_lem n L l (lengths_of b)) (verdict_of n (lines_of (against L l))) (sym d.is ∙ e))),
      (λ g. d.is ∙ ap (λ (v : Result Unit Refusal). unless_refused v (judged_by (verdict_of n (lines_of (against L l))))) (f.1 g)),
    )
  where
    fore : (v : Result Unit Refusal) (s : Bool) → unless_refused v (judged_by s) ≡ Err r → v ≡ Err r
    fore (Ok _) false e = never (cc)
    fore (Ok _) true e = never (cc)
    fore (Err q) s e = cc

-- A refusal leaves every buffer as it was.
pub refused_show_changes_nothing : (n : ℕ) (L : List ℤ) (l : Line) (r : Refusal) (b a : ShowLent) → ShowsLine n L l (Err r) b a → a ≡ b
refused_show_changes_nothing n L l r b a d = d.leaves

-- Every call is answered or refused, whatever it asks and whatever stands in the buffers: what is stated here is of something.
pub shows_exist : (n : ℕ) (L : List ℤ) (l : Line) (b : ShowLent) → (x : Result ShowAnswer Refusal) × (a : ShowLent) × ShowsLine n L l x b a
shows_exist n L l b = let o = right n L l b in (o.answer, o.after, right_keeps n L l b)

-- ---- the call

-- A call that was not refused, whatever stood in the buffers before.
pub record ShowCall (n : ℕ) (L : List ℤ) (l : Line) : Type 0 where
  pub answer : Result ShowAnswer Refusal
  pub before : ShowLent
  pub after : ShowLent
  pub promised : ShowsLine n L l answer before after
  pub not_refused : NotRefused answer

-- What is handed over: a showing that the checker accepts, short and of the due kind, in front of what stood there; and the identifier of each step, that of the
-- line in the list, or of the line itself where the step is of the opposite line, which has the number of the most lines.
pub record HandsOver (n : ℕ) (L : List ℤ) (l : Line) (b a : ShowLent) : Type 0 where
  pub numbers : List ℕ
  pub refutation : a.refutation ≡ numbers ++ drop (length numbers) b.refutation
  pub accepted : shown_answer n L l numbers ≡ Ok Yes
  pub due : Due n (against L l) numbers
  pub beyond_identifiers : drop (steps_in numbers) a.identifiers ≡ drop (steps_in numbers) b.identifiers
  pub list_identifier : (i : ℕ) → i < steps_in numbers → step_at numbers i / 2 < line_count L → get_or a.identifiers i 0 ≡ identifier_of_lem L (step_at numbers i)
  pub line_identifier : (i : ℕ) → i < steps_in numbers → step_at numbers i / 2 ≡ max_lines → get_or a.identifiers i 0 ≡ nat_abs l.identifier

pub record RightShow (n : ℕ) (L : List ℤ) (l : Line) (c : ShowCall n L l) : Type 0 where
  -- A showing exactly if every solution meets the line; else some solution does not.
  pub shown_exactly : (c.answer ≡ Ok Shown) ↔ Implies (lines_of L) l
  pub open_exactly : (c.answer ≡ Ok NotShown) ↔ Breaks (lines_of L) l
  pub hands_over : c.answer ≡ Ok Shown → HandsOver n L l c.before c.after
  -- Else nothing is written.
  pub unwritten : c.answer ≡ Ok NotShown → (c.after.refutation ≡ c.before.refutation) × (c.after.identifiers ≡ c.before.identifiers)
  -- The named part of the work area is all zeros, and the rest is untouched.
  pub work : c.after.work ≡ cleared n c.before.work

module _ {n : ℕ} {L : List ℤ} {l : Line} (c : ShowCall n L l) where
  all_valid : show_validity_lem n L l (lengths_of c.before) ≡ Ok tt
  all_valid = answered_valid n L l c.before (subst NotRefused c.promised.is c.not_refused)

  pub show_was_asked : ShownAsked n L l
  show_was_asked = (show_asked n L l c.before all_valid).asked

  answer_is : c.answer ≡ Ok (judged_by (verdict_of n (lines_of (against L l))))
  unfolding show_answer
  answer_is = c.promised.is ∙ ap (λ (v : Result Unit Refusal). unless_refused v (judged_by (verdict_of n (lines_of (against L l))))) all_valid

  on_shown : c.answer ≡ Ok Shown → OnShown n L l c.before c.after
  on_shown e = subst (λ (x : Result ShowAnswer Refusal). Leaves n L l x c.before c.after) e c.promised.leaves

  on_open : c.answer ≡ Ok NotShown → OnNotShown n c.before c.after
  on_open e = subst (λ (x : Result ShowAnswer Refusal). Leaves n L l x c.before c.after) e c.promised.leaves

  -- the verdict on the list against the line tells the answer
  verdict_shown : verdict_of n (lines_of (against L l)) ≡ false → c.answer ≡ Ok Shown
  verdict_shown e = answer_is ∙ ap (λ (t : Bool). Ok (judged_by t)) e

  verdict_open : verdict_of n (lines_of (against L l)) ≡ true → c.answer ≡ Ok NotShown
  verdict_open e = answer_is ∙ ap (λ (t : Bool). Ok (judged_by t)) e

  -- the identifiers of the steps, one by one
  read : (w : OnShown n L l c.before c.after) (i : ℕ) → i < steps_in w.numbers → get_or c.after.identifiers i 0 ≡ identifier_of_lem (against L l) (step_at w.numbers i)
  unfolding identifiers_of
  read w i h =
      ap (λ (I : List ℕ). get_or I i 0) w.identifiers
      ∙ get_or-append (identifiers_of (against L l) w.numbers) (drop (steps_in w.numbers) c.before.identifiers) 0 i (omega (arith, length_identifiers (against L l) w.numbers))
      ∙ get_d_tabulate (steps_in w.numbers) i (λ k. identifier_of_lem (against L l) (step_at w.numbers k)) 0 h

  handed : c.answer ≡ Ok Shown → HandsOver n L l c.before c.after
  unfolding opposite
  handed e =
      let w = on_shown e in
      record {
        numbers = w.numbers;
        refutation = w.refutation;
        accepted = due_shown n L l show_was_asked w.numbers w.due;
        due = w.due;
        beyond_identifiers = ap (drop (steps_in w.numbers)) w.identifiers ∙ drop_at (identifiers_of (against L l) w.numbers) _ (steps_in w.numbers) (length_identifiers (against L l) w.numbers);
        list_identifier = λ i h k. read w i h ∙ ap (λ (m : Line). nat_abs m.identifier) (own_line L (list_ok n L l show_was_asked).whole (list_ok n L l show_was_asked).count l (step_at w.numbers i / 2) k);
        line_identifier = λ i h k. read w i h ∙ ap (λ (j : ℕ). nat_abs (line_at (against L l) j).identifier) k ∙ ap (λ (m : Line). nat_abs m.identifier) (last_line L (list_ok n L l show_was_asked).whole (list_ok n L l show_was_asked).count l);
      }

pub right_show : (n : ℕ) (L : List ℤ) (l : Line) (c : ShowCall n L l) → RightShow n L l c
right_show n L l c =
    record {
      shown_exactly = ((λ e. accepted_met n L l (handed c e).numbers (handed c e).accepted), (λ met. verdict_shown c (implied_no n L l (show_was_asked c) met)));
      open_exactly = ((λ e. open_breaks n L l (show_was_asked c) (opens e)), (λ b. broken b));
      hands_over = handed c;
      unwritten = λ e. let w = on_open c e in (w.refutation, w.identifiers);
      work = go c.answer refl c.not_refused;
    }
  where
    told : (t : Bool) → ◌≡◌ {A = Result ShowAnswer Refusal} (Ok (judged_by t)) (Ok NotShown) → t ≡ true
    told true e = refl
    told false e = never (cc)

    opens : c.answer ≡ Ok NotShown → verdict_of n (lines_of (against L l)) ≡ true
    opens e = told _ (sym (answer_is c) ∙ e)

    broken : Breaks (lines_of L) l → c.answer ≡ Ok NotShown
    broken b = pick (verdict_of n (lines_of (against L l))) refl
      where
        pick : (t : Bool) → verdict_of n (lines_of (against L l)) ≡ t → c.answer ≡ Ok NotShown
        pick true e = verdict_open c e
        pick false e = absurd (b.breaks (accepted_met n L l (handed c (verdict_shown c e)).numbers (handed c (verdict_shown c e)).accepted b.assignment b.solves))

    go : (x : Result ShowAnswer Refusal) → c.answer ≡ x → NotRefused x → c.after.work ≡ cleared n c.before.work
    go (Ok Shown) e h = (on_shown c e).work
    go (Ok NotShown) e h = (on_open c e).work
    go (Err r) e h = absurd h

-- The line question (utvpi_implied_line) answers no exactly where nothing is shown.
pub open_exactly_if_not_implied : (n : ℕ) (L : List ℤ) (l : Line) (c : LineCall n L l) (d : ShowCall n L l) → (d.answer ≡ Ok NotShown) ↔ (c.answer ≡ Ok NotImplied)
open_exactly_if_not_implied n L l c d =
    let r = right_line n L l c in
    let q = right_show n L l d in
    ((λ e. r.no_exactly.1 (q.open_exactly.0 e)), (λ e. q.open_exactly.1 (r.no_exactly.0 e)))

-- What a call handed over is accepted against each valid longer list, too: the call on that list shows the line again.
pub shown_for_good : (n : ℕ) (L M : List ℤ) (l : Line) (c : ShowCall n L l) (d : ShowCall n (L ++ M) l) → (e : c.answer ≡ Ok Shown)
    → (d.answer ≡ Ok Shown) × (shown_answer n (L ++ M) l ((right_show n L l c).hands_over e).numbers ≡ Ok Yes)
shown_for_good n L M l c d e =
    let h = (right_show n L l c).hands_over e in
    let again = accepted_longer n L M l h.numbers (show_was_asked d).list h.accepted in
    ((right_show n (L ++ M) l d).shown_exactly.1 (accepted_met n (L ++ M) l h.numbers again), again)
