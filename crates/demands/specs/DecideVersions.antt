-- Versions of deciding that are caught by their answer, another refusal or a verdict by guessing, each a definition, and at a named input what breaks the promise.
use Rattle.lines.specs.declared.Refusal.{Refusal}
use Rattle.std.specs.Prelude.{◌≡◌, refl, Bool, true, false, cond, not, List, [], ◌∷◌, ◌++◌, reverse, map, ℕ, ◌+◌, ◌%◌, eqb, ltb, ℤ, pos, length, take, drop, replicate, Err, Ok, Result}
use Rattle.std.proofs.Common.{◌∙◌, arith}
use Rattle.integers.specs.Laws.{never}
use Rattle.lines.specs.declared.Line.{Line}
use Rattle.lines.specs.declared.Refusal.TheVariants.{TooManyVariables, BrokenLength, TooManyLines, BadVariable, MisplacedCoefficient, BadConstant, ShortOutput, ShortWorkArea}
use Rattle.lines.specs.Limits.{line_size, max_variables, max_lines, max_constant}
use Rattle.lines.specs.Line.{line_at, line_count, lines_of, is_false_lem}
use Rattle.lines.specs.Refusal.{number_of, ◌or_else◌, refuse_if, Rule, line_rules, line_tests, first_broken, lines_validity_lem, validity_of}
use Rattle.steps.specs.Point.{opposite}
use Rattle.steps.specs.Table.{entry, digit}
use Rattle.steps.specs.Step.{step_of, steps_of}
use Rattle.theory_walks.specs.Row.{relax_row, start_row_lem, rounds, row_at, best}
use Rattle.theory_walks.specs.Negative.{no_negative}
use Rattle.theory_bounds.specs.Verdict.{has_false, consistent_halves, verdict_of}
use Rattle.theory_bounds.specs.Answers.{bounds_of, groups_of}
use Rattle.decide_buffers.specs.Room.{Lent, lengths_of, model_room_lem, bounds_room_lem, groups_room_lem, refutation_room_lem, identifiers_room_lem, work_room_lem, Room, output_rooms, work_rooms, lent_rooms, first_short, rooms_validity, decide_validity_lem}
use Rattle.decide.specs.declared.Answer.TheVariants.{Yes, No}
use Rattle.decide.specs.Decided.{unless_refused, decide_answer, answer_for, validity_for}
use Rattle.demands.specs.Versions.{false_list}
use Rattle.demands.specs.Cases.{list_8}
use Rattle.demands.specs.RightVersion.{Version, Keeps, written, refuted, outcome, right_yes, right_no, room_with, room, at_most5, list_8_no}

-- ---- the right answers to no lines and to a false one
no_lines_yes : answer_for 0 [] (room 0) ≡ Ok Yes
unfolding decide_answer decide_validity_lem rooms_validity validity_of lines_validity_lem verdict_of has_false no_negative consistent_halves
no_lines_yes = refl

false_list_no : answer_for 0 false_list (room 0) ≡ Ok No
unfolding decide_answer decide_validity_lem rooms_validity validity_of lines_validity_lem line_tests line_at is_false_lem verdict_of has_false
false_list_no = refl

-- ---- versions with other refusals
-- it refuses every list
pub refuses_every : Version
refuses_every n L b = record { answer = Err TooManyVariables; after = b }

pub refuses_every_breaks : Keeps refuses_every → ⊥
unfolding refuses_every
refuses_every_breaks k = let e : Err TooManyVariables ≡ Ok Yes = (k 0 [] (room 0)).is ∙ no_lines_yes in never (cc)

-- it refuses by v, and else answers and writes right
abbrev refusing_by : (ℕ → List ℤ → Lent → Result Unit Refusal) → Version
refusing_by v n L b = outcome (unless_refused (v n L b) (cond (verdict_of n (lines_of L)) (Ok Yes) (Ok No))) b (right_yes n L b) (right_no n L b)

-- of the output buffers that are too short it names the last
abbrev last_short_first : ℕ → List ℤ → Lent → Result Unit Refusal
last_short_first n L b = validity_of n L or_else first_short (reverse output_rooms ++ work_rooms) n (lengths_of b)

pub names_last_short : Version
names_last_short = refusing_by last_short_first

pub names_last_short_breaks : Keeps names_last_short → ⊥
unfolding names_last_short decide_answer decide_validity_lem rooms_validity validity_of lines_validity_lem
names_last_short_breaks k =
    let e : Err (ShortOutput 5) ≡ Err (ShortOutput 1) = (k 1 [] (room 0)).is in
    let p : ◌≡◌ {A = ℕ} 5 1 = cc in absurd (omega arith)

-- buffers for one variable, but for buffer number k, which has the room of none: 1 is the model, then bounds, groups, refutation, identifiers, work area
abbrev variables_but : ℕ → ℕ → ℕ
variables_but k j = cond (eqb j k) 0 1

abbrev short_at : ℕ → Lent
short_at k =
    record {
      model = replicate (model_room_lem (variables_but k 1)) (pos 0);
      bounds = replicate (bounds_room_lem (variables_but k 2)) (pos 0);
      groups = replicate (groups_room_lem (variables_but k 3)) 0;
      refutation = replicate (refutation_room_lem (variables_but k 4)) 0;
      identifiers = replicate (identifiers_room_lem (variables_but k 5)) 0;
      work = replicate (work_room_lem (variables_but k 6)) (pos 0);
    }

-- each buffer that alone is short has its own refusal and place
pub each_short_named : map (λ k. answer_for 1 [] (short_at k)) (1 ∷ 2 ∷ 3 ∷ 4 ∷ 5 ∷ 6 ∷ [])
    ≡ map Err (ShortOutput 1 ∷ ShortOutput 2 ∷ ShortOutput 3 ∷ ShortOutput 4 ∷ ShortOutput 5 ∷ ShortWorkArea ∷ [])
unfolding decide_answer decide_validity_lem rooms_validity validity_of lines_validity_lem
each_short_named = refl

-- short groups it reports as short bounds
abbrev groups_as_bounds : List Room
groups_as_bounds = take 2 lent_rooms ++ record { room = groups_room_lem; size = λ s. s.groups; refusal = ShortOutput 2 } ∷ drop 3 lent_rooms

pub names_bounds_for_groups : Version
names_bounds_for_groups = refusing_by (λ n L b. validity_of n L or_else first_short groups_as_bounds n (lengths_of b))

pub names_bounds_for_groups_breaks : Keeps names_bounds_for_groups → ⊥
unfolding names_bounds_for_groups decide_answer decide_validity_lem rooms_validity validity_of lines_validity_lem
names_bounds_for_groups_breaks k =
    let e : Err (ShortOutput 2) ≡ Err (ShortOutput 3) = (k 1 [] (short_at 3)).is in
    let p : ◌≡◌ {A = ℕ} 2 3 = cc in absurd (omega arith)

-- it refuses a list with these rules of a line in place of the specification's, and else answers and writes right
abbrev lines_by : List Rule → ℕ → ℕ → List Line → Result Unit Refusal
lines_by rules n k [] = Ok tt
lines_by rules n k (l ∷ ls) = first_broken rules n k l or_else lines_by rules n (k + 1) ls

abbrev ruled_by : List Rule → Version
ruled_by rules =
    refusing_by
    (λ n L b.
    refuse_if (ltb max_variables n) TooManyVariables
    or_else refuse_if (not (eqb (length L % line_size) 0)) BrokenLength
    or_else refuse_if (ltb max_lines (line_count L)) TooManyLines
    or_else lines_by rules n 0 (lines_of L)
    or_else rooms_validity n (lengths_of b))

-- those of the specification's rules whose number passes a test: one of them, and the others
abbrev rules_that : (ℕ → Bool) → List Rule → List Rule
rules_that p [] = []
rules_that p (r ∷ rs) = cond (p (number_of (r.refusal 0))) (r ∷ rules_that p rs) (rules_that p rs)

abbrev only : ℕ → List Rule
only k = rules_that (λ i. eqb i k) line_rules

abbrev others : ℕ → List Rule
others k = rules_that (λ i. not (eqb i k)) line_rules

-- within a line it refuses 6 first
pub refuses_constants_first : Version
refuses_constants_first = ruled_by (only 6 ++ others 6)

-- variable 0 where there is none, and d beyond its limit
abbrev twice_wrong : List ℤ
twice_wrong = pos 1 ∷ pos 0 ∷ pos 0 ∷ pos 0 ∷ pos (max_constant + 1) ∷ pos 0 ∷ []

pub refuses_constants_first_breaks : Keeps refuses_constants_first → ⊥
unfolding refuses_constants_first decide_answer decide_validity_lem rooms_validity validity_of lines_validity_lem line_tests line_at
refuses_constants_first_breaks k = let e : Err (BadConstant 0) ≡ Err (BadVariable 0) = (k 0 twice_wrong (room 0)).is in never (cc)

-- within a line it refuses 12 last
pub refuses_lone_late : Version
refuses_lone_late = ruled_by (others 12 ++ only 12)

-- a lone coefficient in the second place, and this d
abbrev lone_second : ℕ → List ℤ
lone_second d = pos 0 ∷ pos 0 ∷ pos 1 ∷ pos 0 ∷ pos d ∷ pos 0 ∷ []

pub refuses_lone_late_breaks : Keeps refuses_lone_late → ⊥
unfolding refuses_lone_late decide_answer decide_validity_lem rooms_validity validity_of lines_validity_lem line_tests line_at
refuses_lone_late_breaks k =
    let e : Err (BadConstant 0) ≡ Err (MisplacedCoefficient 0) = (k 1 (lone_second (max_constant + 1)) (room 1)).is in never (cc)

-- it takes a lone coefficient in either place
pub takes_lone_second : Version
takes_lone_second = ruled_by (others 12)

pub takes_lone_second_breaks : Keeps takes_lone_second → ⊥
unfolding takes_lone_second decide_answer decide_validity_lem rooms_validity validity_of lines_validity_lem line_tests line_at
takes_lone_second_breaks k = answered (verdict_of 1 (lines_of (lone_second 5))) (k 1 (lone_second 5) (room 1)).is
  where
    answered : (v : Bool) → cond v (Ok Yes) (Ok No) ≡ Err (MisplacedCoefficient 0) → ⊥
    answered true e = never (cc)
    answered false e = never (cc)

-- ---- versions with one verdict for every list
-- it says yes to every list, with a model of zeros
pub yes_with_zeros : Version
yes_with_zeros n L b = outcome (unless_refused (validity_for n L b) (Ok Yes)) b (written n (replicate n (pos 0)) (bounds_of n (lines_of L)) (groups_of n (lines_of L)) b) b

pub yes_with_zeros_breaks : Keeps yes_with_zeros → ⊥
unfolding yes_with_zeros decide_validity_lem rooms_validity validity_of lines_validity_lem line_tests line_at
yes_with_zeros_breaks k = let e : Ok Yes ≡ Ok No = (k 0 false_list (room 0)).is ∙ false_list_no in never (cc)

-- it says no to every list, with one stock refutation
pub no_with_stock : Version
no_with_stock n L b = outcome (unless_refused (validity_for n L b) (Ok No)) b b (refuted n L (3 ∷ 1 ∷ 0 ∷ 0 ∷ []) b)

pub no_with_stock_breaks : Keeps no_with_stock → ⊥
unfolding no_with_stock decide_validity_lem rooms_validity validity_of lines_validity_lem
no_with_stock_breaks k = let e : Ok No ≡ Ok Yes = (k 0 [] (room 0)).is ∙ no_lines_yes in never (cc)

-- ---- a version whose verdict depends on the first line: it looks at that alone, and else writes right
pub first_line_only : Version
first_line_only n L b = outcome (unless_refused (validity_for n L b) (cond (verdict_of n (take 1 (lines_of L))) (Ok Yes) (Ok No))) b (right_yes n L b) (right_no n L b)

-- case 8: its first line alone can be met
pub first_line_only_breaks : Keeps first_line_only → ⊥
unfolding first_line_only decide_validity_lem rooms_validity validity_of lines_validity_lem line_tests line_at is_false_lem verdict_of has_false no_negative consistent_halves
    entry digit step_of steps_of relax_row start_row_lem rounds row_at best opposite
first_line_only_breaks k = let e : Ok Yes ≡ Ok No = (k 1 list_8 (room_with 1 9)).is ∙ list_8_no in never (cc)

-- a false line, and x at most 5, in both orders: it says no to the one and yes to the other
pub first_line_no : (first_line_only 1 (false_list ++ at_most5) (room_with 1 0)).answer ≡ Ok No
unfolding first_line_only decide_validity_lem rooms_validity validity_of lines_validity_lem line_tests line_at is_false_lem verdict_of has_false
first_line_no = refl

pub first_line_yes : (first_line_only 1 (at_most5 ++ false_list) (room_with 1 0)).answer ≡ Ok Yes
unfolding first_line_only decide_validity_lem rooms_validity validity_of lines_validity_lem line_tests line_at is_false_lem verdict_of has_false no_negative consistent_halves
    entry digit step_of steps_of relax_row start_row_lem rounds row_at best opposite
first_line_yes = refl
