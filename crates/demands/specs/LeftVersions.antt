-- Versions of deciding that answer right and are caught by what they leave, each a definition, and at a named input what breaks the promise.
use Rattle.std.specs.Prelude.{◌≡◌, refl, cond, List, [], ◌∷◌, ◌++◌, map, ℕ, zero, suc, ◌+◌, ◌*◌, ◌-◌, ◌/◌, ◌%◌, ◌^◌, ◌<◌, eqb, ℤ, pos, negsuc, neg_ℤ, length, get_or, take, drop, replicate, None, Ok, Some}
use Rattle.std.proofs.Common.{sym, ap, subst, ◌∙◌, arith}
use Rattle.std.specs.Int.{w16, w64}
use mir.Val.{bits, of_z, to_z}
use Rattle.integers.specs.Laws.{never}
use Rattle.integers.specs.Sequence.{tabulate}
use Rattle.integers.specs.Lowest.{lowest}
use Rattle.lines.specs.Limits.{absent_least, absent_greatest}
use Rattle.lines.specs.Line.{line_at, lines_of, is_false_lem}
use Rattle.lines.specs.Refusal.{line_tests, lines_validity_lem, validity_of}
use Rattle.steps.specs.declared.Step.{Step}
use Rattle.steps.specs.Point.{opposite}
use Rattle.steps.specs.Table.{entry, digit}
use Rattle.steps.specs.Step.{step_of, step_numbered_lem, steps_of}
use Rattle.steps.specs.Walk.{Names}
use Rattle.check_answers.specs.declared.CheckAnswer.TheVariants as check
use Rattle.check_refutation.specs.Progress.{head_size, counts_ok_lem, head_on, wrong_after, joins, turns, along, advance, run, closes, accepted, broken_at_lem}
use Rattle.check_refutation.specs.Answer.{verdict, refutation_validity, refutation_answer}
use Rattle.check_soundness.specs.Head.{kind_of, steps_in}
use Rattle.check_soundness.specs.Refutes.{Refutes, kind_1, kind_2, kind_3}
use Rattle.theory_walks.specs.Row.{relax_row, start_row_lem, rounds, row_at, best}
use Rattle.theory_walks.specs.Negative.{no_negative}
use Rattle.theory_bounds.specs.Points.{assign}
use Rattle.theory_bounds.specs.Near.{above, at_most, near}
use Rattle.theory_bounds.specs.Tight.{Table, halves, tight}
use Rattle.theory_bounds.specs.Extend.{limit, pick}
use Rattle.theory_bounds.specs.Model.{model}
use Rattle.theory_bounds.specs.Table.{table_model}
use Rattle.theory_bounds.specs.Verdict.{has_false, first_false_lem, distances, consistent_halves, verdict_of, due_kind}
use Rattle.theory_bounds.specs.Answers.{model_of, bounds_of, same_points_lem, group_point_lem, groups_of}
use Rattle.theory_answers.specs.Refuted.{Due}
use Rattle.theory_answers.specs.Decided.{due_accepted}
use Rattle.decide_buffers.specs.Room.{refutation_room_lem, rooms_validity, decide_validity_lem}
use Rattle.decide_identifiers.specs.Identifiers.{step_at, identifiers_of}
use Rattle.decide.specs.declared.Answer.TheVariants.{Yes, No}
use Rattle.decide.specs.Parts.{no_verdict, refutation_in, refutation_in_law}
use Rattle.decide.specs.Decided.{decide_answer, answer_for}
use Rattle.demands.specs.Cases.{list_4, list_8, list_9}
use Rattle.demands.specs.RightVersion.{Version, Keeps, written, refuted_with, refuted, Left, leaving, due_numbers, due_numbers_law, right_yes, right_no, on_yes, on_no, room_with, room, at_most5, equal_pair, list_8_no}

-- ---- versions that write nothing, a part, or the same for every list
-- it writes nothing
abbrev nothing : Left
nothing n L b = b

pub writes_nothing : Version
writes_nothing = leaving nothing nothing

pub writes_nothing_breaks : Keeps writes_nothing → ⊥
unfolding writes_nothing decide_answer decide_validity_lem rooms_validity validity_of lines_validity_lem verdict_of has_false no_negative consistent_halves
    steps_of relax_row start_row_lem rounds row_at best opposite bounds_of halves
writes_nothing_breaks k =
    let s = on_yes nothing nothing k 1 [] (room 1) refl in
    let e : pos 0 ∷ pos 0 ∷ [] ≡ absent_least ∷ absent_greatest ∷ [] = s.bounds in never (cc)

-- on a yes it gives no variable a least or greatest value
abbrev absent : ℕ → List ℤ
absent zero = []
absent (suc n) = absent_least ∷ absent_greatest ∷ absent n

abbrev absent_bounds_yes : Left
absent_bounds_yes n L = written n (model_of n (lines_of L)) (absent n) (groups_of n (lines_of L))

pub absent_bounds : Version
absent_bounds = leaving absent_bounds_yes right_no

pub absent_bounds_breaks : Keeps absent_bounds → ⊥
unfolding absent_bounds decide_answer decide_validity_lem rooms_validity validity_of lines_validity_lem line_tests line_at is_false_lem verdict_of has_false no_negative consistent_halves
    entry digit step_of steps_of relax_row start_row_lem rounds row_at best opposite bounds_of halves
absent_bounds_breaks k =
    let s = on_yes absent_bounds_yes right_no k 1 at_most5 (room 1) refl in
    let e : absent_least ∷ absent_greatest ∷ [] ≡ absent_least ∷ pos 5 ∷ [] = s.bounds in never (cc)

-- on a no it states a refutation's kind and counts, and leaves out the steps
abbrev head_no : Left
head_no n L = refuted_with n (take head_size (due_numbers n L)) (identifiers_of L (due_numbers n L))

pub counts_not_written : Version
counts_not_written = leaving right_yes head_no

-- a due refutation of case 8's list has a first step, and it names one
record FirstStep (R : List ℕ) : Type 0 where
  count : ℕ
  number : ℕ
  numbers : List ℕ
  is : R ≡ 1 ∷ count ∷ 0 ∷ number ∷ numbers
  step : Step
  named : step_numbered_lem list_8 number ≡ Some step

first_step : (R : List ℕ) → Due 1 list_8 R → FirstStep R
unfolding due_kind has_false no_negative line_at is_false_lem entry digit step_of steps_of relax_row start_row_lem rounds row_at best
first_step R d = go d.refutes
  where
    kind_is_1 : kind_of R ≡ 1
    kind_is_1 = d.kind

    walk : (ks : List ℕ) (ts : List Step) → 0 < length ks → Names list_8 ks ts → R ≡ 1 ∷ length ks ∷ 0 ∷ ks → FirstStep R
    walk [] ts h e r = absurd (omega arith)
    walk (k ∷ ks) [] h e r = absurd e
    walk (k ∷ ks) (t ∷ ts) h e r = record { count = _; number = k; numbers = ks; is = r; step = t; named = e.0 }

    go : Refutes list_8 R → FirstStep R
    go (kind_1 c) = let w = c.walk in walk c.numbers w.steps w.some w.named c.is
    go (kind_2 c) = let e : ◌≡◌ {A = ℕ} 2 1 = sym (ap kind_of c.is) ∙ kind_is_1 in never (cc)
    go (kind_3 c) = let e : ◌≡◌ {A = ℕ} 3 1 = sym (ap kind_of c.is) ∙ kind_is_1 in never (cc)

no_step_9 : step_numbered_lem list_8 9 ≡ None
unfolding step_numbered_lem
no_step_9 = refl

-- 9 names no step, and stands where the first step should
pub counts_not_written_breaks : Keeps counts_not_written → ⊥
unfolding counts_not_written
counts_not_written_breaks k =
    let b = room_with 1 9 in
    let o = on_no right_yes head_no k 1 list_8 b list_8_no in
    let f = first_step (due_numbers 1 list_8) (due_numbers_law 1 list_8 (no_verdict 1 list_8 b list_8_no)) in
    let g = first_step o.numbers o.due in
    let unwritten : ◌≡◌ {A = ℕ} (fourth (take head_size (due_numbers 1 list_8))) 9 = ap (λ (R : List ℕ). fourth (take head_size R)) f.is in
    let same : ◌≡◌ {A = ℕ} 9 g.number = sym unwritten ∙ ap (λ (R : List ℕ). get_or R head_size 0) o.refutation ∙ ap fourth g.is in
    let e : None ≡ Some g.step = sym no_step_9 ∙ ap (step_numbered_lem list_8) same ∙ g.named in never (cc)
  where
    -- the number behind the head, with R in front
    fourth : List ℕ → ℕ
    fourth R = get_or (R ++ drop (length R) (replicate (refutation_room_lem 1) 9)) head_size 0

-- on a yes it writes right bounds and groups, and zeros for the model
abbrev zero_model_yes : Left
zero_model_yes n L = written n (replicate n (pos 0)) (bounds_of n (lines_of L)) (groups_of n (lines_of L))

pub zero_model : Version
zero_model = leaving zero_model_yes right_no

-- case 9: x is at least 4
pub zero_model_breaks : Keeps zero_model → ⊥
unfolding zero_model decide_answer decide_validity_lem rooms_validity validity_of lines_validity_lem line_tests line_at is_false_lem verdict_of has_false no_negative consistent_halves
    entry digit step_of steps_of relax_row start_row_lem rounds row_at best opposite assign above at_most near halves tight limit pick model table_model model_of
zero_model_breaks k =
    let s = on_yes zero_model_yes right_no k 1 list_9 (room 1) refl in
    let e : pos 0 ∷ [] ≡ pos 4 ∷ [] = s.model in never (cc)

-- on a no it writes a refutation of the due kind, always the same one
abbrev stock : ℕ → List ℕ
stock k = cond (eqb k 3) (3 ∷ 1 ∷ 0 ∷ 0 ∷ []) (cond (eqb k 1) (1 ∷ 2 ∷ 0 ∷ 0 ∷ 2 ∷ []) (2 ∷ 1 ∷ 1 ∷ 0 ∷ 2 ∷ []))

abbrev stock_no : Left
stock_no n L = refuted n L (stock (due_kind n (lines_of L)))

pub stock_refutation : Version
stock_refutation = leaving right_yes stock_no

list_4_no : answer_for 3 list_4 (room 3) ≡ Ok No
unfolding decide_answer decide_validity_lem rooms_validity validity_of lines_validity_lem line_tests line_at is_false_lem verdict_of has_false no_negative consistent_halves
    entry digit step_of steps_of relax_row start_row_lem rounds row_at best opposite halves
list_4_no = refl

valid_4 : validity_of 3 list_4 ≡ Ok tt
unfolding validity_of lines_validity_lem line_tests line_at
valid_4 = refl

kind_of_4 : due_kind 3 (lines_of list_4) ≡ 2
unfolding due_kind has_false no_negative line_at is_false_lem entry digit step_of steps_of relax_row start_row_lem rounds row_at best
kind_of_4 = refl

-- case 4: what was written is no refutation, since the first step does not lead to the opposite of its start
stock_not_accepted : refutation_answer 3 list_4 (stock 2) ≡ Ok (check.No 3)
unfolding refutation_answer refutation_validity validity_of lines_validity_lem line_tests line_at is_false_lem counts_ok_lem head_on joins turns along advance run closes accepted broken_at_lem verdict
    opposite entry digit step_of step_numbered_lem wrong_after
stock_not_accepted = refl

pub stock_refutation_breaks : Keeps stock_refutation → ⊥
unfolding stock_refutation
stock_refutation_breaks k =
    let o = on_no right_yes stock_no k 3 list_4 (room 3) list_4_no in
    let written : refutation_in (stock_no 3 list_4 (room 3)) ≡ stock 2 = ap (λ (j : ℕ). refutation_in (refuted 3 list_4 (stock j) (room 3))) kind_of_4 in
    let d : Due 3 list_4 (stock 2) = subst (Due 3 list_4) (sym (refutation_in_law o) ∙ written) o.due in
    let e : Ok (check.No 3) ≡ Ok check.Yes = sym stock_not_accepted ∙ due_accepted 3 list_4 valid_4 (stock 2) d in never (cc)

-- ---- versions with other groups
-- on a yes it finds each variable's group variable and its sign, from the distances, so
abbrev grouping : (variable sign : Table → ℕ → ℕ) → Left
grouping v s n L = written n (model_of n (lines_of L)) (bounds_of n (lines_of L)) (tabulate (2 * n) (λ i. cond (eqb (i % 2) 0) (v (distances n (lines_of L)) (i / 2)) (s (distances n (lines_of L)) (i / 2))))

-- the right variable
abbrev right_variable : Table → ℕ → ℕ
right_variable D x = group_point_lem D x / 2

-- plus
abbrev no_sign : Table → ℕ → ℕ
no_sign D x = 0

-- each variable is a group of its own
abbrev own_variable : Table → ℕ → ℕ
own_variable D x = x

pub own_groups : Version
own_groups = leaving (grouping own_variable no_sign) right_no

pub own_groups_breaks : Keeps own_groups → ⊥
unfolding own_groups decide_answer decide_validity_lem rooms_validity validity_of lines_validity_lem line_tests line_at is_false_lem verdict_of has_false no_negative consistent_halves
    entry digit step_of steps_of relax_row start_row_lem rounds row_at best opposite groups_of halves tight
own_groups_breaks k =
    let s = on_yes (grouping own_variable no_sign) right_no k 2 equal_pair (room 2) refl in
    let e : ◌≡◌ {A = List ℕ} (0 ∷ 0 ∷ 1 ∷ 0 ∷ []) (0 ∷ 0 ∷ 0 ∷ 0 ∷ []) = s.groups in never (cc)

-- it never says minus: the lowest variable with the same value
abbrev plus_variable : Table → ℕ → ℕ
plus_variable D x = lowest (λ r. same_points_lem D (2 * x) (2 * r)) 0 x

pub never_minus : Version
never_minus = leaving (grouping plus_variable no_sign) right_no

-- x and y mirrored: x + y is 0
abbrev mirrored_pair : List ℤ
mirrored_pair =
    pos 1 ∷ pos 0 ∷ pos 1 ∷ pos 1 ∷ pos 0 ∷ pos 0
    ∷ neg_ℤ (pos 1) ∷ pos 0 ∷ neg_ℤ (pos 1) ∷ pos 1 ∷ pos 0 ∷ pos 0
    ∷ []

pub never_minus_breaks : Keeps never_minus → ⊥
unfolding never_minus decide_answer decide_validity_lem rooms_validity validity_of lines_validity_lem line_tests line_at is_false_lem verdict_of has_false no_negative consistent_halves
    entry digit step_of steps_of relax_row start_row_lem rounds row_at best opposite groups_of halves tight
never_minus_breaks k =
    let s = on_yes (grouping plus_variable no_sign) right_no k 2 mirrored_pair (room 2) refl in
    let e : ◌≡◌ {A = List ℕ} (0 ∷ 0 ∷ 1 ∷ 0 ∷ []) (0 ∷ 0 ∷ 0 ∷ 1 ∷ []) = s.groups in never (cc)

-- where both signs hold it says minus
abbrev minus_first : Table → ℕ → ℕ
minus_first D x = cond (same_points_lem D (2 * x) (2 * right_variable D x + 1)) 1 0

pub prefers_minus : Version
prefers_minus = leaving (grouping right_variable minus_first) right_no

-- x always 0
abbrev zero_list : List ℤ
zero_list =
    pos 1 ∷ pos 0 ∷ pos 0 ∷ pos 0 ∷ pos 0 ∷ pos 0
    ∷ neg_ℤ (pos 1) ∷ pos 0 ∷ pos 0 ∷ pos 0 ∷ pos 0 ∷ pos 0
    ∷ []

pub prefers_minus_breaks : Keeps prefers_minus → ⊥
unfolding prefers_minus decide_answer decide_validity_lem rooms_validity validity_of lines_validity_lem line_tests line_at is_false_lem verdict_of has_false no_negative consistent_halves
    entry digit step_of steps_of relax_row start_row_lem rounds row_at best opposite groups_of halves tight
prefers_minus_breaks k =
    let s = on_yes (grouping right_variable minus_first) right_no k 1 zero_list (room 1) refl in
    let e : ◌≡◌ {A = List ℕ} (0 ∷ 1 ∷ []) (0 ∷ 0 ∷ []) = s.groups in never (cc)

-- its sign is that of x to the variable before x, not to the group variable
abbrev neighbour_sign : Table → ℕ → ℕ
neighbour_sign D x = cond (same_points_lem D (2 * x) (2 * (x - 1) + 1)) 1 0

pub signs_to_neighbour : Version
signs_to_neighbour = leaving (grouping right_variable neighbour_sign) right_no

-- y mirrors x and z mirrors y, so that z is x
abbrev mirrored_twice : List ℤ
mirrored_twice =
    mirrored_pair
    ++ pos 1 ∷ pos 1 ∷ pos 1 ∷ pos 2 ∷ pos 0 ∷ pos 0
    ∷ neg_ℤ (pos 1) ∷ pos 1 ∷ neg_ℤ (pos 1) ∷ pos 2 ∷ pos 0 ∷ pos 0
    ∷ []

other_last : ◌≡◌ {A = List ℕ} (0 ∷ 0 ∷ 0 ∷ 1 ∷ 0 ∷ 1 ∷ []) (0 ∷ 0 ∷ 0 ∷ 1 ∷ 0 ∷ 0 ∷ []) → ⊥
other_last e = let l : ◌≡◌ {A = ℕ} 1 0 = ap (λ (g : List ℕ). get_or g 5 0) e in absurd (omega arith)

pub signs_to_neighbour_breaks : Keeps signs_to_neighbour → ⊥
unfolding signs_to_neighbour decide_answer decide_validity_lem rooms_validity validity_of lines_validity_lem line_tests line_at is_false_lem verdict_of has_false no_negative consistent_halves
    entry digit step_of steps_of relax_row start_row_lem rounds row_at best opposite groups_of halves tight
signs_to_neighbour_breaks k = other_last (on_yes (grouping right_variable neighbour_sign) right_no k 3 mirrored_twice (room 3) refl).groups

-- ---- versions that lose identifiers
-- on a no it writes a due refutation, and this of it for the identifiers
abbrev identifying : (List ℤ → List ℕ → List ℕ) → Left
identifying f n L = refuted_with n (due_numbers n L) (f L (due_numbers n L))

-- the line 0 ≤ -1 of a message whose identifier has twelve bits, and its refutation
abbrev identified_list : List ℤ
identified_list = pos 0 ∷ pos 0 ∷ pos 0 ∷ pos 0 ∷ neg_ℤ (pos 1) ∷ pos 2048 ∷ []

abbrev identified_refutation : List ℕ
identified_refutation = 3 ∷ 1 ∷ 0 ∷ 0 ∷ []

identified_no : answer_for 0 identified_list (room 0) ≡ Ok No
unfolding decide_answer decide_validity_lem rooms_validity validity_of lines_validity_lem line_tests line_at is_false_lem verdict_of has_false
identified_no = refl

kind_identified : due_kind 0 (lines_of identified_list) ≡ 3
unfolding due_kind has_false line_at is_false_lem
kind_identified = refl

one_due : (R : List ℕ) → Due 0 identified_list R → R ≡ identified_refutation
unfolding first_false_lem line_at is_false_lem
one_due R d = d.lowest kind_identified

-- the first number of the buffer, with these in front
abbrev first_with : List ℕ → ℕ
first_with I = get_or (I ++ drop (length I) (room 0).identifiers) 0 0

-- where it keeps the promise, the first is 2048
first_identifier : (f : List ℤ → List ℕ → List ℕ) → Keeps (leaving right_yes (identifying f)) → first_with (f identified_list identified_refutation) ≡ 2048
unfolding identifiers_of line_at
first_identifier f k =
    let o = on_no right_yes (identifying f) k 0 identified_list (room 0) identified_no in
    let R = one_due (due_numbers 0 identified_list) (due_numbers_law 0 identified_list (no_verdict 0 identified_list (room 0) identified_no)) in
    let N = one_due o.numbers o.due in
    ap (λ (S : List ℕ). first_with (f identified_list S)) (sym R)
    ∙ ap (λ (I : List ℕ). get_or I 0 0) o.identifiers
    ∙ ap (λ (S : List ℕ). get_or (identifiers_of identified_list S ++ drop (steps_in S) (room 0).identifiers) 0 0) N

-- it keeps the low eleven bits of each identifier
abbrev eleven_bits : List ℤ → List ℕ → List ℕ
eleven_bits L R = map (λ i. i % 2048) (identifiers_of L R)

pub keeps_eleven_bits : Version
keeps_eleven_bits = leaving right_yes (identifying eleven_bits)

pub keeps_eleven_bits_breaks : Keeps keeps_eleven_bits → ⊥
unfolding keeps_eleven_bits identifiers_of line_at
keeps_eleven_bits_breaks k = let e : ◌≡◌ {A = ℕ} 0 2048 = first_identifier eleven_bits k in absurd (omega arith)

-- it writes the number of each step's line for its identifier
abbrev line_numbers_of : List ℤ → List ℕ → List ℕ
line_numbers_of L R = tabulate (steps_in R) (λ i. step_at R i / 2)

pub writes_line_numbers : Version
writes_line_numbers = leaving right_yes (identifying line_numbers_of)

pub writes_line_numbers_breaks : Keeps writes_line_numbers → ⊥
unfolding writes_line_numbers
writes_line_numbers_breaks k = let e : ◌≡◌ {A = ℕ} 0 2048 = first_identifier line_numbers_of k in absurd (omega arith)

-- ---- a version that cuts the model to 16 bits
-- the low 16 bits of a number's 64, read as signed
abbrev cut_to16 : ℤ → ℤ
cut_to16 z = to_z w16 (of_z w64 z % 2 ^ bits w16)

abbrev cut_yes : Left
cut_yes n L = written n (map cut_to16 (model_of n (lines_of L))) (bounds_of n (lines_of L)) (groups_of n (lines_of L))

pub cuts_model : Version
cuts_model = leaving cut_yes right_no

-- x at least 40,000
abbrev at_least40000 : List ℤ
at_least40000 = neg_ℤ (pos 1) ∷ pos 0 ∷ pos 0 ∷ pos 0 ∷ neg_ℤ (pos 40_000) ∷ pos 0 ∷ []

pub cuts_model_breaks : Keeps cuts_model → ⊥
unfolding cuts_model decide_answer decide_validity_lem rooms_validity validity_of lines_validity_lem line_tests line_at is_false_lem verdict_of has_false no_negative consistent_halves
    entry digit step_of steps_of relax_row start_row_lem rounds row_at best opposite assign above at_most near halves tight limit pick model table_model model_of
cuts_model_breaks k =
    let s = on_yes cut_yes right_no k 1 at_least40000 (room 1) refl in
    let e : negsuc 25_535 ∷ [] ≡ pos 40_000 ∷ [] = s.model in never (cc)
