-- Versions of the checkers that answer idly or by guessing, each a definition, and at a named input what breaks the promise.
use Rattle.lines.specs.declared.Refusal.{Refusal}
use Rattle.std.specs.Prelude.{◌≡◌, refl, ◌↔◌, cond, List, [], ◌∷◌, ℕ, ◌≤◌, ltb, ℤ, pos, neg_ℤ, length, Err, Ok, Result}
use Rattle.std.proofs.Common.{sym, ap, ◌∙◌, arith}
use Rattle.integers.specs.Laws.{never}
use Rattle.lines.specs.declared.Refusal.TheVariants.{TooManyVariables}
use Rattle.lines.specs.Limits.{max_refutation}
use Rattle.lines.specs.Line.{line_at, left_side_lem, is_false_lem}
use Rattle.lines.specs.Refusal.{line_tests, lines_validity_lem, validity_of}
use Rattle.check_answers.specs.declared.CheckAnswer.{CheckAnswer}
use Rattle.check_answers.specs.declared.CheckAnswer.TheVariants.{Yes, No}
use Rattle.check_answers.specs.Answer.{unless_refused}
use Rattle.check_model.specs.Model.{values_validity_lem, model_validity_lem, first_failing_lem, model_answer}
use Rattle.check_refutation.specs.Progress.{head_size, counts_ok_lem, is_false_step_lem, head_on, advance, run, closes, accepted, broken_at_lem}
use Rattle.check_refutation.specs.Answer.{verdict, refutation_validity, refutation_answer}
use Rattle.check_soundness.specs.Breaks.{breaks_once, no_exactly_where}
use Rattle.check_soundness.specs.BreaksAt.{last_index, BreaksAt}

-- ---- the refutation checker's promise, of any version of it
abbrev KeepsRefutation : (ℕ → List ℤ → List ℕ → Result CheckAnswer Refusal) → Type 0
KeepsRefutation f = (n : ℕ) (L : List ℤ) (R : List ℕ) → f n L R ≡ refutation_answer n L R

-- case 3: the line 0 ≤ -1, and its refutation
abbrev pub false_list : List ℤ
false_list = pos 0 ∷ pos 0 ∷ pos 0 ∷ pos 0 ∷ neg_ℤ (pos 1) ∷ pos 0 ∷ []

false_refutation : List ℕ
false_refutation = 3 ∷ 1 ∷ 0 ∷ 0 ∷ []

case_3 : refutation_answer 0 false_list false_refutation ≡ Ok Yes
unfolding refutation_answer refutation_validity validity_of lines_validity_lem line_tests line_at is_false_lem false_refutation counts_ok_lem is_false_step_lem head_on advance run closes accepted verdict
case_3 = refl

-- no numbers are no refutation, of no lines
nothing : refutation_answer 0 [] [] ≡ Ok (No 0)
unfolding refutation_answer refutation_validity validity_of lines_validity_lem run closes accepted broken_at_lem verdict
nothing = refl

-- it accepts nothing
pub accepts_nothing : ℕ → List ℤ → List ℕ → Result CheckAnswer Refusal
accepts_nothing n L R = unless_refused (refutation_validity n L R) (Ok (No 0))

pub accepts_nothing_breaks : KeepsRefutation accepts_nothing → ⊥
unfolding accepts_nothing refutation_validity validity_of lines_validity_lem line_tests line_at false_refutation
accepts_nothing_breaks k = let e : Ok (No 0) ≡ Ok Yes = k 0 false_list false_refutation ∙ case_3 in never (cc)

-- it accepts everything that is not refused
pub accepts_everything : ℕ → List ℤ → List ℕ → Result CheckAnswer Refusal
accepts_everything n L R = unless_refused (refutation_validity n L R) (Ok Yes)

pub accepts_everything_breaks : KeepsRefutation accepts_everything → ⊥
unfolding accepts_everything refutation_validity validity_of lines_validity_lem
accepts_everything_breaks k = let e : Ok Yes ≡ Ok (No 0) = k 0 [] [] ∙ nothing in never (cc)

-- the same answer, with another place for its no
abbrev moved_to : ℕ → Result CheckAnswer Refusal → Result CheckAnswer Refusal
moved_to i (Ok Yes) = Ok Yes
moved_to i (Ok (No k)) = Ok (No i)
moved_to i (Err r) = Err r

-- it answers right, but never says where a refutation breaks
pub says_nowhere : ℕ → List ℤ → List ℕ → Result CheckAnswer Refusal
says_nowhere n L R = moved_to 0 (refutation_answer n L R)

-- kind 1 without steps: the counts are wrong
abbrev no_steps_lem : List ℕ
no_steps_lem = 1 ∷ 0 ∷ 0 ∷ []

no_steps : refutation_answer 0 [] no_steps_lem ≡ Ok (No 1)
unfolding refutation_answer refutation_validity validity_of lines_validity_lem counts_ok_lem head_on advance run closes accepted broken_at_lem verdict
no_steps = refl

pub says_nowhere_breaks : KeepsRefutation says_nowhere → ⊥
unfolding says_nowhere
says_nowhere_breaks k = let e : Ok (No 0) ≡ Ok (No 1) = ap (moved_to 0) (sym no_steps) ∙ k 0 [] no_steps_lem ∙ no_steps in never (cc)

-- it answers right, but a no names the last number, or 0 where there is no whole head
pub says_last : ℕ → List ℤ → List ℕ → Result CheckAnswer Refusal
says_last n L R = moved_to (cond (ltb (length R) head_size) 0 (last_index R)) (refutation_answer n L R)

last_of_no_steps : says_last 0 [] no_steps_lem ≡ Ok (No 2)
unfolding says_last
last_of_no_steps = ap (moved_to 2) no_steps

pub says_last_breaks : KeepsRefutation says_last → ⊥
says_last_breaks k = let e : Ok (No 2) ≡ Ok (No 1) = sym last_of_no_steps ∙ k 0 [] no_steps_lem ∙ no_steps in never (cc)

-- nor does it say no exactly where the refutation breaks, which the checker does (`no_exactly_where_it_breaks` in Demands.antt)
abbrev SaysWhere : (ℕ → List ℤ → List ℕ → Result CheckAnswer Refusal) → Type 0
SaysWhere f = (n : ℕ) (L : List ℤ) (R : List ℕ) (k : ℕ) → (f n L R ≡ Ok (No k)) ↔ ((validity_of n L ≡ Ok tt) × (length R ≤ max_refutation) × BreaksAt L R k)

pub says_where : SaysWhere refutation_answer
says_where = no_exactly_where

pub says_last_not_where : SaysWhere says_last → ⊥
says_last_not_where s =
    let e = breaks_once [] no_steps_lem 2 1 ((s 0 [] no_steps_lem 2).0 last_of_no_steps).2 ((says_where 0 [] no_steps_lem 1).0 no_steps).2 in
    absurd (omega arith)

-- it refuses every list
pub refuses_every : ℕ → List ℤ → List ℕ → Result CheckAnswer Refusal
refuses_every n L R = Err TooManyVariables

pub refuses_every_breaks : KeepsRefutation refuses_every → ⊥
unfolding refuses_every
refuses_every_breaks k = let e : Err TooManyVariables ≡ Ok (No 0) = k 0 [] [] ∙ nothing in never (cc)

-- ---- the model checker's promise, of any version of it
abbrev KeepsModel : (ℕ → List ℤ → List ℤ → Result CheckAnswer Refusal) → Type 0
KeepsModel f = (n : ℕ) (L m : List ℤ) → f n L m ≡ model_answer n L m

-- no values for no variables fail line 0, 0 ≤ -1
first_line_fails : model_answer 0 false_list [] ≡ Ok (No 0)
unfolding model_answer model_validity_lem validity_of lines_validity_lem line_tests line_at left_side_lem values_validity_lem first_failing_lem
first_line_fails = refl

no_lines_met : model_answer 0 [] [] ≡ Ok Yes
unfolding model_answer model_validity_lem validity_of lines_validity_lem values_validity_lem first_failing_lem
no_lines_met = refl

-- it says yes to every model that is not refused
pub says_yes : ℕ → List ℤ → List ℤ → Result CheckAnswer Refusal
says_yes n L m = unless_refused (model_validity_lem n L m) (Ok Yes)

pub says_yes_breaks : KeepsModel says_yes → ⊥
unfolding says_yes model_validity_lem validity_of lines_validity_lem line_tests line_at values_validity_lem
says_yes_breaks k = let e : Ok Yes ≡ Ok (No 0) = k 0 false_list [] ∙ first_line_fails in never (cc)

-- it says no to every model, at the first line
pub says_no : ℕ → List ℤ → List ℤ → Result CheckAnswer Refusal
says_no n L m = unless_refused (model_validity_lem n L m) (Ok (No 0))

pub says_no_breaks : KeepsModel says_no → ⊥
unfolding says_no model_validity_lem validity_of lines_validity_lem values_validity_lem
says_no_breaks k = let e : Ok (No 0) ≡ Ok Yes = k 0 [] [] ∙ no_lines_met in never (cc)

-- it refuses every list
pub refuses_model : ℕ → List ℤ → List ℤ → Result CheckAnswer Refusal
refuses_model n L m = Err TooManyVariables

pub refuses_model_breaks : KeepsModel refuses_model → ⊥
unfolding refuses_model
refuses_model_breaks k = let e : Err TooManyVariables ≡ Ok Yes = k 0 [] [] ∙ no_lines_met in never (cc)
