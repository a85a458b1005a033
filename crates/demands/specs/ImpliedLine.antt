-- What was asked of the line question, in the words of docs/SPECIFICATION.md, each statement proved by citing the rest: does every solution of a list meet a line?
--
-- A reader has to believe the meaning of the words (`Implies` and `Breaks` in lines/specs/Line.antt, `BreakingModel` in implied_line/specs/Meaning.antt, over `opposite` in
-- opposite_line/specs/Opposite.antt and the words of Demands.antt), the table of refusals here and what a call is (`LineCall`), and nothing of how the answers
-- are computed. The promise of the code is `AnswersLine` (implied_line/specs/Answer.antt), for every input; the exported function returns `LineReturns`.
use Rattle.std.specs.Prelude.{◌≡◌, refl, ◌↔◌, Bool, true, false, List, [], ◌∷◌, ◌++◌, ℕ, ◌<◌, ℤ, pos, negsuc, length, take, drop, Err, Ok, Result}
use Rattle.std.proofs.Common.{sym, ap₂, subst, ◌∙◌, arith, take_at, drop_at}
use Rattle.std.proofs.Math.Path.{ap}
use mathlib.Core.Logic.Iff
use Rattle.integers.specs.Integer.{◌⩽◌, ◌⋖◌}
use Rattle.integers.proofs.Linear.{ints}
use Rattle.integers.specs.Laws.{never}
use Rattle.integers.specs.Sequence.{length_tabulate}
use Rattle.lines.specs.declared.Line.{Line}
use Rattle.lines.specs.declared.Refusal.{Refusal}
use Rattle.lines.specs.Line.{line_count, lines_of, Assignment, Meets, Solves, Solvable, Entails, Implies, Breaks, SameSolutions}
use Rattle.lines.specs.Refusal.{place_of}
use Rattle.lines.specs.Valid.{valid_list, workable}
use Rattle.check_soundness.specs.Refutes.{Refutes}
use Rattle.theory_bounds.specs.Verdict.{verdict_of}
use Rattle.theory_bounds.specs.Answers.{model_of}
use Rattle.theory_answers.specs.Refuted.{Due}
use Rattle.theory_answers.specs.Longer.{longer_entails}
use Rattle.theory_answers.specs.Same.{model_too, same_verdict}
use Rattle.decide_buffers.specs.Room.{model_room_lem, model_rooms, ModelLent, model_lengths_of}
use Rattle.decide.specs.Decided.{cleared}
use Rattle.implied_line.specs.declared.LineAnswer.{LineAnswer}
use Rattle.implied_line.specs.declared.LineAnswer.TheVariants.{Implied, NotImplied, Unsolvable}
use Rattle.opposite_line.specs.Opposite.{opposite, opposed, opposed_works, meets_opposite, solves_opposed}
use Rattle.implied_line.specs.Answer.{question_validity_lem, judged_by, judged, unless_refused, implied_answer, answer_for, model_left, work_left, AnswersLine}
use Rattle.implied_line.specs.Judged.{LineAsked, asked}
use Rattle.implied_line.specs.Meaning.{BreakingModel, implies_more, breaks_before, implied_exactly, not_implied_exactly, unsolvable_exactly, breaking_model, one_breaking_model, implied_shown, shown_implied}
use Rattle.implied_line.specs.Places.{Below, NotRefused, answered_valid}
use Rattle.c_codes.specs.Codes.{no_code, no_solution_code, refusal_unit, refusal_code_lem}
use Rattle.c_codes.specs.Apart.{no_refusal}
use Rattle.c_implied_line.specs.Calls.{line_code_lem, LineReturns}
use Rattle.c_implied_line.specs.Laws.{line_below, lines_apart}
use Rattle.demands.specs.Refusals.{Row, list_table, line_table, rooms_table, FirstApplies}
use Rattle.demands.specs.Refused.{gives_or, gives_refused, list_gives, line_gives, rooms_give}
use Rattle.demands.specs.ImpliedLineVersions.{right, right_keeps}

-- ---- the opposite line

-- -a·x - b·y ≤ -d - 1: over whole numbers an assignment meets it exactly if it does not meet a·x + b·y ≤ d.
pub opposite_exactly : (s : Assignment) (l : Line) → Meets s (opposite l) ↔ (Meets s l → ⊥)
opposite_exactly s l = meets_opposite s l

-- ---- refusals

-- The list's; then the rules of a line, at the number that it would have behind the list; then 7 at 1, for the model, and 8.
abbrev pub question_table : ℕ → List ℤ → Line → ModelLent → List Row
question_table n L l lent = list_table n L ++ (line_table n (line_count L) l ++ rooms_table model_rooms n (model_lengths_of lent))

pub question_refused_exactly_if : (n : ℕ) (L : List ℤ) (l : Line) (x : Result LineAnswer Refusal) (b a : ModelLent) → AnswersLine n L l x b a
    → (r : Refusal) → (x ≡ Err r) ↔ FirstApplies (question_table n L l b) r
unfolding implied_answer question_validity_lem
question_refused_exactly_if n L l x b a d r =
    let f = gives_refused (gives_or (list_gives n L) (gives_or (line_gives n (line_count L) l) (rooms_give model_rooms n (model_lengths_of b)))) r in (
      (λ e. f.0 (fore (question_validity_lem n L l (model_lengths_of b)) (verdict_of n (lines_of L)) (verdict_of n (lines_of (opposed L l))) (sym d.is ∙ e))),
      (λ g. d.is ∙ ap (λ (v : Result Unit Refusal). unless_refused v (judged n L l)) (f.1 g)),
    )
  where
    fore : (v : Result Unit Refusal) (s t : Bool) → unless_refused v (judged_by s t) ≡ Err r → v ≡ Err r
    fore (Ok _) false t e = never (cc)
    fore (Ok _) true false e = never (cc)
    fore (Ok _) true true e = never (cc)
    fore (Err q) s t e = cc

-- A refusal leaves both buffers as they were. That the call ends is part of its promise.
pub refused_question_changes_nothing : (n : ℕ) (L : List ℤ) (l : Line) (r : Refusal) (b a : ModelLent) → AnswersLine n L l (Err r) b a → a ≡ b
refused_question_changes_nothing n L l r b a d = ap₂ both d.model d.work
  where
    both : List ℤ → List ℤ → ModelLent
    both m w = record { model = m; work = w }

-- Every question is answered or refused, whatever it asks and whatever stands in the buffers: what is stated here is of something.
pub questions_exist : (n : ℕ) (L : List ℤ) (l : Line) (b : ModelLent) → (x : Result LineAnswer Refusal) × (a : ModelLent) × AnswersLine n L l x b a
questions_exist n L l b = let o = right n L l b in (o.answer, o.after, right_keeps n L l b)

-- ---- the answer

-- A call that was not refused, whatever stood in the buffers before.
pub record LineCall (n : ℕ) (L : List ℤ) (l : Line) : Type 0 where
  pub answer : Result LineAnswer Refusal
  pub before : ModelLent
  pub after : ModelLent
  pub promised : AnswersLine n L l answer before after
  pub not_refused : NotRefused answer

-- an answer that is no refusal, by itself
same_answer : {x y : LineAnswer} → ◌≡◌ {A = Result LineAnswer Refusal} (Ok x) (Ok y) → x ≡ y
same_answer e = cc

module _ {n : ℕ} {L : List ℤ} {l : Line} (c : LineCall n L l) where
  all_valid : question_validity_lem n L l (model_lengths_of c.before) ≡ Ok tt
  all_valid = answered_valid n L l c.before (λ r e. c.not_refused r (c.promised.is ∙ e))

  pub was_asked : LineAsked n L l c.before.model c.before.work
  was_asked = asked n L l c.before all_valid

  answer_is : c.answer ≡ Ok (judged n L l)
  unfolding implied_answer
  answer_is = c.promised.is ∙ ap (λ (v : Result Unit Refusal). unless_refused v (judged n L l)) all_valid

  -- what is said of the computed answer is said of the call's
  exactly : {x : LineAnswer} {P : Type 0} → (judged n L l ≡ x) ↔ P → (c.answer ≡ Ok x) ↔ P
  exactly h = ((λ e. h.0 (same_answer (sym answer_is ∙ e))), (λ p. answer_is ∙ ap Ok (h.1 p)))

pub record RightLine (n : ℕ) (L : List ℤ) (l : Line) (c : LineCall n L l) : Type 0 where
  -- Yes exactly if the list has a solution and every solution meets the line; no exactly if some solution does not; else the list has no solution.
  pub yes_exactly : (c.answer ≡ Ok Implied) ↔ (Solvable (lines_of L) × Implies (lines_of L) l)
  pub no_exactly : (c.answer ≡ Ok NotImplied) ↔ Breaks (lines_of L) l
  pub none_exactly : (c.answer ≡ Ok Unsolvable) ↔ (Solvable (lines_of L) → ⊥)
  -- On a no the model of the list with the opposite line behind it is written: it solves the list and breaks the line. Nothing else has its meaning.
  pub model : c.answer ≡ Ok NotImplied → BreakingModel n L l (take (model_room_lem n) c.after.model)
  pub only_model : c.answer ≡ Ok NotImplied → (m : List ℤ) → BreakingModel n L l m → m ≡ take (model_room_lem n) c.after.model
  -- Only a no writes the model, and what lies beyond its room is untouched.
  pub no_model : (c.answer ≡ Ok NotImplied → ⊥) → c.after.model ≡ c.before.model
  pub beyond_model : drop (model_room_lem n) c.after.model ≡ drop (model_room_lem n) c.before.model
  -- The named part of the work area is all zeros, and the rest is untouched.
  pub work : c.after.work ≡ cleared n c.before.work

pub right_line : (n : ℕ) (L : List ℤ) (l : Line) (c : LineCall n L l) → RightLine n L l c
unfolding model_of
right_line n L l c =
    let v = was_asked c in
    record {
      yes_exactly = exactly c (implied_exactly n L l v.list v.line);
      no_exactly = exactly c (not_implied_exactly n L l v.list v.line);
      none_exactly = exactly c (unsolvable_exactly n L l v.list v.line);
      model = λ e. rw (model_in e) (breaking_model n L l v.list v.line (same_answer (sym (answer_is c) ∙ e)));
      only_model = λ e m b. one_breaking_model n L l v.list v.line m b ∙ sym (model_in e);
      no_model = λ f. c.promised.model ∙ unwritten c.answer f;
      beyond_model = ap (drop (model_room_lem n)) c.promised.model ∙ beyond c.answer;
      work = c.promised.work ∙ clears c.answer c.not_refused;
    }
  where
    model_in : c.answer ≡ Ok NotImplied → take (model_room_lem n) c.after.model ≡ model_of n (lines_of (opposed L l))
    model_in e =
        ap (take (model_room_lem n)) (c.promised.model ∙ ap (λ (x : Result LineAnswer Refusal). model_left n L l x c.before.model) e)
        ∙ take_at (model_of n (lines_of (opposed L l))) _ (model_room_lem n) (length_tabulate (model_room_lem n) _)

    unwritten : (x : Result LineAnswer Refusal) → (x ≡ Ok NotImplied → ⊥) → model_left n L l x c.before.model ≡ c.before.model
    unwritten (Ok Implied) f = refl
    unwritten (Ok NotImplied) f = absurd (f refl)
    unwritten (Ok Unsolvable) f = refl
    unwritten (Err r) f = refl

    beyond : (x : Result LineAnswer Refusal) → drop (model_room_lem n) (model_left n L l x c.before.model) ≡ drop (model_room_lem n) c.before.model
    beyond (Ok Implied) = refl
    beyond (Ok NotImplied) = drop_at (model_of n (lines_of (opposed L l))) _ (model_room_lem n) (length_tabulate (model_room_lem n) _)
    beyond (Ok Unsolvable) = refl
    beyond (Err r) = refl

    clears : (x : Result LineAnswer Refusal) → NotRefused x → work_left n x c.before.work ≡ cleared n c.before.work
    clears (Ok Implied) f = refl
    clears (Ok NotImplied) f = refl
    clears (Ok Unsolvable) f = refl
    clears (Err r) f = absurd (f r refl)

-- ---- a yes can be shown, too

-- Implied exactly if the checker's rule holds of some refutation of the list with the opposite line behind it, whoever proposed it.
pub implied_exactly_if_refuted : (n : ℕ) (L : List ℤ) (l : Line) (c : LineCall n L l) → Solvable (lines_of L) → (c.answer ≡ Ok Implied) ↔ ((R : List ℕ) × Refutes (opposed L l) R)
implied_exactly_if_refuted n L l c s =
    let v = was_asked c in
    let r = right_line n L l c in (
      (λ e. let t = implied_shown n L l v.list v.line (r.yes_exactly.0 e).1 in (t.0, t.1.refutes)),
      (λ t. r.yes_exactly.1 (s, shown_implied n L l v.list v.line t.0 t.1)),
    )

-- Then one of the due kind shows it, that of a false line or one with at most 4·n steps.
pub short_one_shows_it : (n : ℕ) (L : List ℤ) (l : Line) (c : LineCall n L l) → c.answer ≡ Ok Implied → (R : List ℕ) × Due n (opposed L l) R
short_one_shows_it n L l c e = let v = was_asked c in implied_shown n L l v.list v.line ((right_line n L l c).yes_exactly.0 e).1

-- ---- nothing learned is unlearned when lines are added

-- Of two calls that were not refused, on a list and on one that begins with all its lines: what was implied stays implied, as long as there is a solution; a
-- list without one stays so; and a no of the longer list was a no before.
pub record LineUnlearned (n : ℕ) (L M : List ℤ) (l : Line) (c : LineCall n L l) (d : LineCall n (L ++ M) l) : Type 0 where
  pub implied_stays : c.answer ≡ Ok Implied → Solvable (lines_of (L ++ M)) → d.answer ≡ Ok Implied
  pub none_stays : c.answer ≡ Ok Unsolvable → d.answer ≡ Ok Unsolvable
  pub no_before : d.answer ≡ Ok NotImplied → c.answer ≡ Ok NotImplied

pub line_unlearned : (n : ℕ) (L M : List ℤ) (l : Line) (c : LineCall n L l) (d : LineCall n (L ++ M) l) → LineUnlearned n L M l c d
line_unlearned n L M l c d =
    let more = longer_entails L M (valid_list n L (was_asked c).list).whole in
    let r = right_line n L l c in
    let q = right_line n (L ++ M) l d in
    record {
      implied_stays = λ e s. q.yes_exactly.1 (s, implies_more (lines_of L) (lines_of (L ++ M)) l more (r.yes_exactly.0 e).1);
      none_stays = λ e. q.none_exactly.1 (λ s. r.none_exactly.0 e (record { assignment = s.assignment; solves = more s.assignment s.solves }));
      no_before = λ e. r.no_exactly.1 (breaks_before (lines_of L) (lines_of (L ++ M)) l more (q.no_exactly.0 e));
    }

-- Answers depend on the solutions alone: two lists with the same solutions have the same answer, and on a no the same model, whatever stood in the buffers.
pub line_by_solutions_alone : (n : ℕ) (L M : List ℤ) (l : Line) (c : LineCall n L l) (d : LineCall n M l) → SameSolutions (lines_of L) (lines_of M)
    → (c.answer ≡ d.answer) × (c.answer ≡ Ok NotImplied → take (model_room_lem n) c.after.model ≡ take (model_room_lem n) d.after.model)
line_by_solutions_alone n L M l c d same = (answers, (λ e. (right_line n M l d).only_model (sym answers ∙ e) _ (moved ((right_line n L l c).model e))))
  where
    v : LineAsked n L l c.before.model c.before.work
    v = was_asked c

    w : LineAsked n M l d.before.model d.before.work
    w = was_asked d

    -- the solutions of the lists with the opposite line behind them are the same, too
    opposed_same : SameSolutions (lines_of (opposed L l)) (lines_of (opposed M l))
    opposed_same s =
        let f = solves_opposed L l (valid_list n L v.list).whole s in
        let g = solves_opposed M l (valid_list n M w.list).whole s in
        ((λ h. let p = f.0 h in g.1 ((same s).0 p.0, p.1)), (λ h. let p = g.0 h in f.1 ((same s).1 p.0, p.1)))

    answers : c.answer ≡ d.answer
    answers =
        answer_is c
        ∙ ap₂ (λ (t u : Bool). Ok (judged_by t u)) (same_verdict n L M (workable n L v.list) (workable n M w.list) same)
        (same_verdict n (opposed L l) (opposed M l) (opposed_works n (line_count L) L l v.list v.line) (opposed_works n (line_count M) M l w.list w.line) opposed_same)
        ∙ sym (answer_is d)

    moved : {m : List ℤ} → BreakingModel n L l m → BreakingModel n M l m
    moved b =
        record {
          model_length = b.model_length;
          model_is = model_too (lines_of (opposed L l)) (lines_of (opposed M l)) opposed_same b.model_is;
          solves = (same _).0 b.solves;
          breaks = b.breaks;
        }

-- ---- the exported function

-- A result that is not below 0 is that of a call which was not refused, so that all this holds of it: 0 is its yes, 1,000,000 its no, and 2,000,000 a list
-- without a solution.
pub record ReturnedLine (n : ℕ) (L : List ℤ) (l : Line) (r : ℤ) (b a : ModelLent) : Type 0 where
  pub call : LineCall n L l
  pub before : call.before ≡ b
  pub after : call.after ≡ a
  pub implied : (call.answer ≡ Ok Implied) ↔ (r ≡ pos 0)
  pub not_implied : (call.answer ≡ Ok NotImplied) ↔ (r ≡ pos no_code)
  pub unsolvable : (call.answer ≡ Ok Unsolvable) ↔ (r ≡ pos no_solution_code)

module _ (n : ℕ) (L : List ℤ) (l : Line) (r : ℤ) (b a : ModelLent) (d : LineReturns n L l r b a) where
  -- the number tells the answer, since no two answers have one
  returned_exactly : (x : Result LineAnswer Refusal) → Below refusal_unit x → (answer_for n L l b ≡ x) ↔ (r ≡ line_code_lem x)
  returned_exactly x h = ((λ e. d.is ∙ ap line_code_lem e), (λ q. lines_apart _ _ (line_below n L l b) h (sym d.is ∙ q)))

  pub returned_line_is_a_call : pos 0 ⩽ r → ReturnedLine n L l r b a
  returned_line_is_a_call h =
      record {
        call = record { answer = answer_for n L l b; before = b; after = a; promised = d.answers; not_refused = λ s e. go s r h (d.is ∙ ap line_code_lem e) };
        before = refl;
        after = refl;
        implied = returned_exactly (Ok Implied) tt;
        not_implied = returned_exactly (Ok NotImplied) tt;
        unsolvable = returned_exactly (Ok Unsolvable) tt;
      }
    where
      below : (k : ℕ) → pos 0 ⩽ negsuc k → ⊥
      below k = simp ints (omega arith)

      go : (s : Refusal) (z : ℤ) → pos 0 ⩽ z → z ≡ refusal_code_lem s → ⊥
      go s (pos k) h e = no_refusal k s e
      go s (negsuc k) h e = below k h

  -- Else it is the number of the first refusal that applies, and the buffers are as they were.
  pub refusal_returned : (s : Refusal) → place_of s < refusal_unit → (r ≡ refusal_code_lem s) ↔ FirstApplies (question_table n L l b) s
  refusal_returned s h =
      let f = question_refused_exactly_if n L l (answer_for n L l b) b a d.answers s in
      let g = returned_exactly (Err s) h in
      ((λ e. f.0 (g.1 e)), (λ t. g.0 (f.1 t)))

  pub returned_refusal_changes_nothing : r ⋖ pos 0 → a ≡ b
  returned_refusal_changes_nothing h = go (answer_for n L l b) d.is d.answers
    where
      above : (z : ℤ) (k : ℕ) → z ⋖ pos 0 → z ≡ pos k → ⊥
      above z k = simp ints (omega arith)

      go : (x : Result LineAnswer Refusal) → r ≡ line_code_lem x → AnswersLine n L l x b a → a ≡ b
      go (Ok Implied) e t = absurd (above r 0 h e)
      go (Ok NotImplied) e t = absurd (above r no_code h e)
      go (Ok Unsolvable) e t = absurd (above r no_solution_code h e)
      go (Err s) e t = refused_question_changes_nothing n L l s b a t

-- No two answers are returned as one number.
pub lines_returned_apart : (n m : ℕ) (L M : List ℤ) (l o : Line) (b c : ModelLent) → line_code_lem (answer_for n L l b) ≡ line_code_lem (answer_for m M o c) → answer_for n L l b ≡ answer_for m M o c
lines_returned_apart n m L M l o b c = lines_apart _ _ (line_below n L l b) (line_below m M o c)
