-- Versions of the checker of showings, and of the call, that go wrong in one thing, each a definition, and what was asked that it breaks.
use Rattle.lines.specs.declared.Refusal.{Refusal}
use Rattle.std.specs.Prelude.{◌≡◌, Bool, List, [], ◌∷◌, ◌++◌, ℕ, ℤ, pos, length, drop, replicate, Err, Ok, Result}
use Rattle.std.proofs.Math.Path.{refl}
use Rattle.std.proofs.Common.{sym, ◌∙◌, arith}
use Rattle.std.proofs.Math.Bool.{true, false}
use Rattle.integers.specs.Integer.{◌⩽◌}
use Rattle.integers.proofs.Linear.{ints}
use Rattle.integers.specs.Laws.{never}
use Rattle.lines.specs.declared.Line.{Line}
use Rattle.lines.specs.Line.{line_numbers_lem, line_at, lines_of, left_side_lem, Implies}
use Rattle.lines.specs.Refusal.{line_tests, lines_validity_lem, validity_of}
use Rattle.lines.specs.Valid.{workable}
use Rattle.lines.specs.Zero.{zero_line}
use Rattle.steps.specs.Point.{opposite as opposite-point}
use Rattle.steps.specs.Table.{entry, digit}
use Rattle.steps.specs.Step.{step_of, step_numbered_lem}
use Rattle.check_answers.specs.declared.CheckAnswer.{CheckAnswer}
use Rattle.check_answers.specs.declared.CheckAnswer.TheVariants.{Yes, No}
use Rattle.check_answers.specs.Answer.{unrefused}
use Rattle.check_answers.specs.Answer as checks
use Rattle.check_refutation.specs.Progress.{start, counts_ok_lem, is_false_step_lem, head_on, wrong_after, joins, turns, along, advance, run, closes, accepted, accepts, broken_at_lem}
use Rattle.check_refutation.specs.Answer.{verdict}
use Rattle.check_soundness.specs.Head.{steps_in}
use Rattle.check_soundness.specs.Meaning.{accepts_exactly}
use Rattle.check_soundness.specs.Answered.{verdict_yes}
use Rattle.check_soundness.specs.Sound.{solved_not_refuted}
use Rattle.theory_bounds.specs.Verdict.{verdict_of}
use Rattle.theory_answers.specs.Refuted.{due_refutation}
use Rattle.theory_answers.specs.Decided.{Some}
use Rattle.decide_buffers.specs.Room.{refutation_room_lem, identifiers_room_lem, work_room_lem}
use Rattle.decide_identifiers.specs.Identifiers.{identifiers_of}
use Rattle.decide.specs.Decided.{cleared}
use Rattle.opposite_line.specs.Opposite.{opposite, opposed}
use Rattle.shown_list.specs.Against.{against}
use Rattle.check_shown.specs.Answer.{showing_validity_lem, shown_answer}
use Rattle.check_shown.specs.Asked.{ShownAsked}
use Rattle.check_shown.specs.Meaning.{accepted_met, accepted_longer}
use Rattle.show_line.specs.declared.ShowAnswer.{ShowAnswer}
use Rattle.show_line.specs.declared.ShowAnswer.TheVariants.{Shown}
use Rattle.show_line.specs.Answer.{show_validity_lem, judged_by, unless_refused, show_answer, ShowLent, lengths_of, answer_for, Leaves, ShowsLine}
use Rattle.show_line.specs.Meaning.{due_shown, shown_exactly_if_implied}
use Rattle.demands.specs.ImpliedLineVersions.{most, least, with_bound}

-- ---- what was asked of a checker of showings
abbrev pub Checker : Type 0
Checker = ℕ → List ℤ → Line → List ℕ → Result CheckAnswer Refusal

-- accepted says that every solution meets the line
abbrev pub Sound : Checker → Type 0
Sound c = (n : ℕ) (L : List ℤ) (l : Line) (R : List ℕ) → c n L l R ≡ Ok Yes → Implies (lines_of L) l

-- where every solution does, and nothing is refused, some showing is accepted
abbrev pub Complete : Checker → Type 0
Complete c = (n : ℕ) (L : List ℤ) (l : Line) → ShownAsked n L l → Implies (lines_of L) l → Some (λ R. c n L l R ≡ Ok Yes)

-- accepted is so against each valid longer list
abbrev pub Lasting : Checker → Type 0
Lasting c = (n : ℕ) (L M : List ℤ) (l : Line) (R : List ℕ) → validity_of n (L ++ M) ≡ Ok tt → c n L l R ≡ Ok Yes → c n (L ++ M) l R ≡ Ok Yes

-- it refuses right, and else judges by the list that is made of the list and the line
abbrev judging : (List ℤ → Line → List ℤ) → Checker
judging made n L l R = checks.unless_refused (showing_validity_lem n L l (length R)) (Ok (verdict (run (made L l) start R)))

-- the checker has all three, so that those below break one only by what they do otherwise
pub right_checker : Sound (judging against) × Complete (judging against) × Lasting (judging against)
unfolding shown_answer
right_checker = (accepted_met, (λ n L l a met. (shown_exactly_if_implied n L l a).1 met), accepted_longer)

-- the steps of line 0 and of line 1, there and back
abbrev two_steps : List ℕ
two_steps = 1 ∷ 2 ∷ 0 ∷ 0 ∷ 2 ∷ []

-- ---- it takes the line itself for its opposite
pub with_line : Checker
with_line = judging (λ L l. L ++ line_numbers_lem l)

-- x at least 1 refutes x at most 0, which it so takes for shown
clashes : with_line 1 (line_numbers_lem least) most two_steps ≡ Ok Yes
unfolding with_line showing_validity_lem validity_of lines_validity_lem line_tests line_numbers_lem line_at step_numbered_lem step_of entry digit counts_ok_lem is_false_step_lem head_on wrong_after joins turns along advance run
    closes accepted verdict opposite-point
clashes = refl

pub with_line_breaks : Sound with_line → ⊥
unfolding line_numbers_lem line_at left_side_lem
with_line_breaks sound = let e : pos 1 ⩽ pos 0 = sound 1 (line_numbers_lem least) most two_steps clashes (λ _. pos 1) (simp ints (omega arith), tt) in absurd (omega arith)

-- ---- its opposite line has -d, which what takes d meets too
pub without_one : Checker
without_one = judging (λ L l. L ++ line_numbers_lem (with_bound l))

same_yes : {a : CheckAnswer} → ◌≡◌ {A = Result CheckAnswer Refusal} (Ok a) (Ok Yes) → a ≡ Yes
same_yes e = cc

-- a line of the list itself is not shown
pub without_one_breaks : Complete without_one → ⊥
unfolding without_one accepts validity_of lines_validity_lem line_tests line_numbers_lem line_at left_side_lem
without_one_breaks complete =
    let made : List ℤ = line_numbers_lem most ++ line_numbers_lem (with_bound most) in
    let found = complete 1 (line_numbers_lem most) most (record { list = refl; line = refl }) (λ s h. h.0) in
    let said = ((unrefused (showing_validity_lem 1 (line_numbers_lem most) most (length found.0)) (Ok (verdict (run made start found.0))) (Ok Yes) tt).0 found.1).1 in
    let refuted = (accepts_exactly made found.0).0 ((verdict_yes (run made start found.0)).0 (same_yes said)) in
    solved_not_refuted 1 made (workable 1 made refl).lines (λ _. pos 0) (simp ints (omega arith), (simp ints (omega arith), tt)) found.0 refuted

-- ---- it numbers the opposite line by the length of the list
pub at_the_end : Checker
at_the_end = judging opposed

abbrev longer : List ℤ
longer = line_numbers_lem zero_line

-- what it accepts breaks in a longer list, where that number is another line's
accepted_once : at_the_end 1 (line_numbers_lem most) most two_steps ≡ Ok Yes
unfolding at_the_end showing_validity_lem validity_of lines_validity_lem line_tests line_numbers_lem line_at opposite step_numbered_lem step_of entry digit counts_ok_lem is_false_step_lem head_on wrong_after joins turns along advance
    run closes accepted verdict opposite-point
accepted_once = refl

broken_then : at_the_end 1 (line_numbers_lem most ++ longer) most two_steps ≡ Ok (No 4)
unfolding at_the_end showing_validity_lem validity_of lines_validity_lem line_tests line_numbers_lem line_at opposite step_numbered_lem step_of entry digit counts_ok_lem is_false_step_lem head_on wrong_after joins turns along advance
    run closes accepted verdict broken_at_lem opposite-point
broken_then = refl

pub at_the_end_breaks : Lasting at_the_end → ⊥
unfolding validity_of lines_validity_lem line_tests line_numbers_lem line_at
at_the_end_breaks lasting = let e : Ok (No 4) ≡ Ok Yes = sym broken_then ∙ lasting 1 (line_numbers_lem most) longer most two_steps refl accepted_once in never (cc)

-- ---- the call
-- what it gives back: its answer, and what the lent buffers hold after
pub record Outcome : Type 0 where
  pub answer : Result ShowAnswer Refusal
  pub after : ShowLent

abbrev pub Version : Type 0
Version = ℕ → List ℤ → Line → ShowLent → Outcome

-- its promise, of any version of it
abbrev pub Keeps : Version → Type 0
Keeps f = (n : ℕ) (L : List ℤ) (l : Line) (b : ShowLent) → ShowsLine n L l (f n L l b).answer b (f n L l b).after

-- one that keeps it: by the verdict a refutation of the due kind is written, or none
module _ (n : ℕ) (L : List ℤ) (l : Line) (b : ShowLent) where
  after_by : Result Unit Refusal → (t : Bool) → verdict_of n (lines_of (against L l)) ≡ t → ShowLent
  after_by (Err r) t e = b
  after_by (Ok _) true e = record { refutation = b.refutation; identifiers = b.identifiers; work = cleared n b.work }
  after_by (Ok _) false e =
      let R = (due_refutation n (against L l) e).0 in
      record {
        refutation = R ++ drop (length R) b.refutation;
        identifiers = identifiers_of (against L l) R ++ drop (steps_in R) b.identifiers;
        work = cleared n b.work;
      }

  left_by : (v : Result Unit Refusal) (t : Bool) (e : verdict_of n (lines_of (against L l)) ≡ t) → Leaves n L l (unless_refused v (judged_by t)) b (after_by v t e)
  unfolding after_by
  left_by (Err r) t e = refl
  left_by (Ok _) true e = record { refutation = refl; identifiers = refl; work = refl }
  left_by (Ok _) false e = let d = due_refutation n (against L l) e in record { numbers = d.0; due = d.1; refutation = refl; identifiers = refl; work = refl }

pub right : Version
right n L l b = record { answer = answer_for n L l b; after = after_by n L l b (show_validity_lem n L l (lengths_of b)) (verdict_of n (lines_of (against L l))) refl }

pub right_keeps : Keeps right
unfolding right show_answer
right_keeps n L l b = record { is = refl; leaves = left_by n L l b (show_validity_lem n L l (lengths_of b)) (verdict_of n (lines_of (against L l))) refl }

-- ---- it says of every line that it is shown, whatever it writes
pub always_shown : (ℕ → List ℤ → Line → ShowLent → ShowLent) → Version
always_shown written n L l b = record { answer = unless_refused (show_validity_lem n L l (lengths_of b)) Shown; after = written n L l b }

-- one variable, and buffers of exactly the room needed
abbrev room : ShowLent
room = record { refutation = replicate (refutation_room_lem 1) 0; identifiers = replicate (identifiers_room_lem 1) 0; work = replicate (work_room_lem 1) (pos 0) }

-- with no line x is free, so that nothing shows that it is at most 0
pub always_shown_breaks : (written : ℕ → List ℤ → Line → ShowLent → ShowLent) → Keeps (always_shown written) → ⊥
unfolding always_shown show_validity_lem validity_of lines_validity_lem line_tests line_numbers_lem line_at left_side_lem
always_shown_breaks written keeps =
    let k = keeps 1 [] most room in
    let shows = due_shown 1 [] most (record { list = refl; line = refl }) k.leaves.numbers k.leaves.due in
    let e : pos 1 ⩽ pos 0 = accepted_met 1 [] most k.leaves.numbers shows (λ _. pos 1) tt in
    absurd (omega arith)
