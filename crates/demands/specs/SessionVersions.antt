-- Versions of a session's calls that go wrong in one thing, each a definition, and at a named state what breaks the promise. Beside them the versions that keep
-- it, so that those break it only by what they do otherwise.
use Rattle.lines.specs.declared.Refusal.{Refusal}
use Rattle.std.specs.Prelude.{◌≡◌, refl, Bool, true, false, not, cond, ◌&&◌, List, [], ◌∷◌, ◌++◌, ℕ, ◌+◌, ◌-◌, ◌*◌, ℤ, pos, neg_ℤ, length, drop, get_or, Err, Ok, Result}
use Rattle.std.proofs.Common.{sym, ap, subst, ◌∙◌, arith}
use Rattle.std.proofs.lemmas.List.{length-replicate}
use Rattle.std.proofs.Math.ListN.{get_or-append}
use Rattle.integers.specs.Laws.{never}
use Rattle.integers.proofs.Linear.{ints}
use Rattle.lines.specs.declared.Line.{Line}
use Rattle.lines.specs.declared.Refusal.TheVariants.{BadCoefficient}
use Rattle.lines.specs.Limits.{line_size}
use Rattle.lines.specs.Line.{number, line_numbers_lem, lines_of, numbers_of, line_at, is_false_lem}
use Rattle.lines.specs.Refusal.{line_tests, lines_validity_lem, validity_of}
use Rattle.steps.specs.Point.{opposite}
use Rattle.steps.specs.Table.{entry, digit}
use Rattle.steps.specs.Step.{step_of, steps_of}
use Rattle.theory_walks.specs.Row.{relax_row, start_row_lem, rounds, row_at, best}
use Rattle.theory_walks.specs.Negative.{no_negative}
use Rattle.theory_bounds.specs.Points.{assign}
use Rattle.theory_bounds.specs.Near.{above, at_most, near}
use Rattle.theory_bounds.specs.Tight.{halves, tight}
use Rattle.theory_bounds.specs.Extend.{limit, pick}
use Rattle.theory_bounds.specs.Model.{model}
use Rattle.theory_bounds.specs.Table.{table_model}
use Rattle.theory_bounds.specs.Verdict.{has_false, consistent_halves, verdict_of}
use Rattle.theory_bounds.specs.Answers.{model_of, groups_of}
use Rattle.decide_rows.specs.Read.{no_walk_lem}
use Rattle.decide_rows.specs.Table.{stored_at}
use Rattle.decide_buffers.specs.Room.{Lent, model_room_lem, groups_room_lem, rooms_validity, decide_validity_lem}
use Rattle.decide.specs.declared.Answer.{Answer}
use Rattle.decide.specs.declared.Answer.TheVariants as decide
use Rattle.decide.specs.Decided.{unless_refused, decide_answer, validity_for, answer_for, OnYes, Leaves}
use Rattle.longer_list.specs.Written.{put_at}
use Rattle.session_state.specs.State.{known_room, session_room_lem, zeros, behind, front_of, kept, table_for, kept_for, known_for, state_of, variables_in, count_in, refused_in, numbers_with, known_in, table_of_known, kept_of_known, line_start, headed, pushed, popped}
use Rattle.session_state.specs.Session.{length_front, pushed_is, popped_is, known_is, table_size, known_size, kept_known, state_front}
use Rattle.session_promise.specs.Promise.{Stands, start_answer, start_state, add_validity, learns_in, learnt_known, learnt_answer, add_answer, add_state, LearntLeft, AddLeft, withdraw_answer, Starts, Adds, Withdraws}
use Rattle.session_promise.specs.Standing.{stands, variables, known_read, state_validity, all_numbers, add_answer_law, stand_learns}
use Rattle.session_promise.specs.Sequence.{withdraws_from}
use Rattle.session_kept.specs.Kept.{given_model, given_bounds, given_groups}
use Rattle.demands.specs.RightVersion.{left_by as leftOn, written, right, right_keeps, room_with, list_8_no}

-- ---- what a call gives back: a start or a withdrawal its answer and the state, an add the buffers too
pub record Done : Type 0 where
  pub answer : Result Unit Refusal
  pub state : List ℤ

pub record Added : Type 0 where
  pub answer : Result Answer Refusal
  pub state : List ℤ
  pub after : Lent

-- the promises, of any version of the calls
abbrev pub KeepsStart : (ℕ → List ℤ → Done) → Type 0
KeepsStart f = (n : ℕ) (s : List ℤ) → Starts n s (f n s).answer (f n s).state

abbrev pub KeepsAdd : (List ℤ → Line → Lent → Added) → Type 0
KeepsAdd f = (s : List ℤ) (l : Line) (b : Lent) → Adds s l (f s l b).answer b (f s l b).state (f s l b).after

abbrev pub KeepsWithdraw : (List ℤ → Done) → Type 0
KeepsWithdraw f = (s : List ℤ) → Withdraws s (f s).answer (f s).state

-- ---- versions that keep them
-- a start or a withdrawal with the right answer that leaves t where it is done
abbrev left_by : Result Unit Refusal → (before done : List ℤ) → List ℤ
left_by (Ok _) s t = t
left_by (Err r) s t = s

abbrev starting_with : (ℕ → List ℤ → List ℤ) → ℕ → List ℤ → Done
starting_with t n s = record { answer = start_answer n (length s); state = left_by (start_answer n (length s)) s (t n s) }

abbrev withdrawing_by : (List ℤ → List ℤ) → List ℤ → Done
withdrawing_by t s = record { answer = withdraw_answer s; state = left_by (withdraw_answer s) s (t s) }

-- an add that answers x where it is not refused by the state alone, with what deciding leaves, and then the state t
abbrev buffer_by : Result Unit Refusal → (before after : Lent) → Lent
buffer_by (Ok _) b a = a
buffer_by (Err r) b a = b

-- where the line is learnt, what is given of what is known then, u; else what deciding leaves
abbrev learnt_after : Bool → ℕ → List ℤ → List ℤ → Lent → Lent
learnt_after true n L u b = written n (given_model n (kept_of_known n u)) (given_bounds n (table_of_known n u)) (given_groups n (kept_of_known n u)) b
learnt_after false n L u b = (right n L b).after

pub right_add : List ℤ → Line → Lent → Added
right_add s l b =
    record {
      answer = add_answer s l b;
      state = add_state s l (learnt_known s l) (add_answer s l b);
      after = buffer_by (add_validity s) b (buffer_by (validity_for (variables_in s) (numbers_with s l) b) b (learnt_after (learns_in s l) (variables_in s) (numbers_with s l) (learnt_known s l) b));
    }

pub right_add_keeps : KeepsAdd right_add
unfolding right_add add_answer
right_add_keeps s l b = record { is = refl; state = refl; left = by_state (add_validity s) }
  where
    n : ℕ
    n = variables_in s

    L : List ℤ
    L = numbers_with s l

    u : List ℤ
    u = learnt_known s l

    by_deciding : (y : Result Answer Refusal) (a : Lent) → learns_in s l ≡ false → Leaves (variables_in s) (numbers_with s l) y b a → AddLeft y s l b a
    by_deciding (Ok decide.Yes) a e o = subst (λ (c : Bool). LearntLeft c (variables_in s) (numbers_with s l) (learnt_known s l) (Ok decide.Yes) b a) (sym e) o
    by_deciding (Ok decide.No) a e o = subst (λ (c : Bool). LearntLeft c (variables_in s) (numbers_with s l) (learnt_known s l) (Ok decide.No) b a) (sym e) o
    by_deciding (Err r) a e o = o

    by_table : (c : Bool) → learns_in s l ≡ c → AddLeft (learnt_answer c (variables_in s) (numbers_with s l) b) s l b (learnt_after c (variables_in s) (numbers_with s l) (learnt_known s l) b)
    by_table true e =
        subst (λ (c : Bool). LearntLeft c (variables_in s) (numbers_with s l) (learnt_known s l) (Ok decide.Yes) b (learnt_after true (variables_in s) (numbers_with s l) (learnt_known s l) b)) (sym e)
        (record { outputs = record { model_is = refl; bounds_is = refl; groups_is = refl }; refutation = refl; identifiers = refl; work = refl })
    by_table false e = let k = right_keeps n L b in by_deciding (answer_for n L b) (right n L b).after e (subst (λ (x : Result Answer Refusal). Leaves n L x b (right n L b).after) k.is k.leaves)

    by_list : (v : Result Unit Refusal) → AddLeft (unless_refused v (learnt_answer (learns_in s l) (variables_in s) (numbers_with s l) b)) s l b (buffer_by v b (learnt_after (learns_in s l) (variables_in s) (numbers_with s l) (learnt_known s l) b))
    by_list (Ok _) = by_table (learns_in s l) refl
    by_list (Err r) = refl

    by_state : (v : Result Unit Refusal) → AddLeft (unless_refused v (unless_refused (validity_for (variables_in s) (numbers_with s l) b) (learnt_answer (learns_in s l) (variables_in s) (numbers_with s l) b))) s l b
        (buffer_by v b (buffer_by (validity_for (variables_in s) (numbers_with s l) b) b (learnt_after (learns_in s l) (variables_in s) (numbers_with s l) (learnt_known s l) b)))
    by_state (Ok _) = by_list (validity_for (variables_in s) (numbers_with s l) b)
    by_state (Err r) = refl

-- ---- the states: n is 1, and nothing lies beyond
-- x at most 3, and x at least 4, which clash; and a line that is refused
abbrev most : Line
most = record { a = pos 1; x = pos 0; b = pos 0; y = pos 0; d = pos 3; identifier = pos 0 }

abbrev least : Line
least = record { a = neg_ℤ (pos 1); x = pos 0; b = pos 0; y = pos 0; d = neg_ℤ (pos 4); identifier = pos 0 }

abbrev twice : Line
twice = record { a = pos 2; x = pos 0; b = pos 0; y = pos 0; d = pos 0; identifier = pos 0 }

abbrev state : List Line → Bool → List ℤ
state ls refused = state_of 1 ls refused ++ []

none_valid : validity_of 1 (numbers_of []) ≡ Ok tt
unfolding validity_of lines_validity_lem numbers_of
none_valid = refl

most_valid : validity_of 1 (numbers_of (most ∷ [])) ≡ Ok tt
unfolding validity_of lines_validity_lem numbers_of line_numbers_lem line_tests line_at
most_valid = refl

both_valid : validity_of 1 (numbers_of (most ∷ least ∷ [])) ≡ Ok tt
unfolding validity_of lines_validity_lem numbers_of line_numbers_lem line_tests line_at
both_valid = refl

-- each has a solution, both together none
none_yes : verdict_of 1 [] ≡ true
unfolding verdict_of has_false no_negative consistent_halves steps_of relax_row start_row_lem rounds row_at best opposite
none_yes = refl

most_yes : verdict_of 1 (most ∷ []) ≡ true
unfolding verdict_of has_false is_false_lem no_negative consistent_halves entry digit step_of steps_of relax_row start_row_lem rounds row_at best opposite
most_yes = refl

both_not : verdict_of 1 (most ∷ least ∷ []) ≡ false
unfolding verdict_of has_false is_false_lem no_negative consistent_halves entry digit step_of steps_of relax_row start_row_lem rounds row_at best opposite
both_not = refl

one : pos 1 ≡ pos 0 → ⊥
one = simp ints (omega arith)

-- ---- a start that forgets its n: it writes a state of no variables
pub forgets_n : ℕ → List ℤ → Done
forgets_n = starting_with (λ n s. state_of 0 [] false ++ drop (session_room_lem n) s)

abbrev long : List ℤ
long = zeros (session_room_lem 1)

long_enough : start_answer 1 (length long) ≡ Ok tt
unfolding start_answer session_room_lem known_room
long_enough = ap (start_answer 1) (length-replicate (session_room_lem 1) (pos 0))

pub forgets_n_breaks : KeepsStart forgets_n → ⊥
unfolding forgets_n state_of front_of numbers_of
forgets_n_breaks k =
    let written : state_of 0 [] false ++ drop (session_room_lem 1) long ≡ state_of 1 [] false ++ drop (session_room_lem 1) long =
    subst (λ (v : Result Unit Refusal). left_by v long (state_of 0 [] false ++ drop (session_room_lem 1) long) ≡ start_state 1 long v) long_enough (k 1 long).state in
    one (ap (λ (t : List ℤ). number t 0) (sym written))

-- ---- withdrawals
-- what a version that withdraws with the right answer must leave behind lines ls and one more
withdrawn : (t : List ℤ → List ℤ) → KeepsWithdraw (withdrawing_by t) → (ls : List Line) (l : Line) (refused : Bool) → validity_of 1 (numbers_of (ls ++ l ∷ [])) ≡ Ok tt
    → verdict_of 1 (ls ++ l ∷ []) ≡ not refused → verdict_of 1 (kept (ls ++ l ∷ []) refused) ≡ true
    → t (state (ls ++ l ∷ []) refused) ≡ state_of 1 ls false ++ drop (session_room_lem 1) (state (ls ++ l ∷ []) refused)
withdrawn t k ls l refused v y w =
    let s = state (ls ++ l ∷ []) refused in
    let f = (withdraws_from (stands 1 (ls ++ l ∷ []) v refused s [] refl y w) (k s)).last ls l refl in
    ap (λ (x : Result Unit Refusal). left_by x s (t s)) (sym f.0) ∙ f.1

-- it leaves the old line in the room
pub leaves_old_line : List ℤ → Done
leaves_old_line = withdrawing_by (λ s. headed (count_in s - 1) false s)

pub leaves_old_line_breaks : KeepsWithdraw leaves_old_line → ⊥
unfolding leaves_old_line state_of front_of behind numbers_of line_numbers_lem
leaves_old_line_breaks k = one (ap (λ (t : List ℤ). number t 3) (withdrawn (λ s. headed (count_in s - 1) false s) k [] most false most_valid most_yes most_yes))

-- it leaves the no, so that the next add is refused
abbrev keeping_no : List ℤ → List ℤ
keeping_no s = headed (count_in s - 1) (refused_in s) (put_at (line_start (count_in s - 1)) (zeros line_size) s)

pub stays_refused : List ℤ → Done
stays_refused = withdrawing_by keeping_no

pub stays_refused_breaks : KeepsWithdraw stays_refused → ⊥
unfolding stays_refused state_of front_of behind numbers_of line_numbers_lem
stays_refused_breaks k = one (ap (λ (t : List ℤ). number t 2) (withdrawn keeping_no k (most ∷ []) least true both_valid both_not most_yes))

-- it takes the line away and leaves what was known with it
pub leaves_old_table : List ℤ → Done
leaves_old_table = withdrawing_by popped

-- of the two points of x: 6 from x+ to x-, and no walk
in_table : (ls : List Line) → number (known_for 1 ls) 2 ≡ number (table_for 1 ls) 2
unfolding known_for
in_table ls = get_or-append (table_for 1 ls) (kept_for 1 ls) (pos 0) 2 (omega (arith, table_size 1 ls))

distance_most : number (known_for 1 (most ∷ [])) 2 ≡ pos 6
unfolding entry digit step_of steps_of relax_row start_row_lem rounds row_at best opposite
distance_most = in_table (most ∷ []) ∙ stored_at (steps_of (most ∷ [])) 2 0 1 (omega arith) (omega arith)

distance_none : number (known_for 1 []) 2 ≡ no_walk_lem
unfolding steps_of relax_row start_row_lem rounds row_at best
distance_none = in_table [] ∙ stored_at (steps_of []) 2 0 1 (omega arith) (omega arith)

far : pos 6 ≡ no_walk_lem → ⊥
far = simp ints (omega arith)

pub leaves_old_table_breaks : KeepsWithdraw leaves_old_table → ⊥
unfolding leaves_old_table
leaves_old_table_breaks k =
    let s = state (most ∷ []) false in
    let rest = drop (session_room_lem 1) s in
    let front = length_front 1 [] false (omega arith) in
    let left : popped s ≡ front_of 1 [] false ++ (known_for 1 (most ∷ []) ++ []) = ap popped (state_front 1 (most ∷ []) false []) ∙ popped_is 1 [] most false (known_for 1 (most ∷ []) ++ []) (omega arith) in
    let due : popped s ≡ front_of 1 [] false ++ (known_for 1 [] ++ rest) = withdrawn popped k [] most false most_valid most_yes most_yes ∙ state_front 1 [] false rest in
    let same : known_for 1 (most ∷ []) ≡ known_for 1 [] =
    sym (known_is 1 (front_of 1 [] false) (known_for 1 (most ∷ [])) [] front (known_size 1 (most ∷ [])))
    ∙ ap (known_in 1) (sym left ∙ due)
    ∙ known_is 1 (front_of 1 [] false) (known_for 1 []) rest front (known_size 1 []) in
    far (sym distance_most ∙ ap (λ (t : List ℤ). number t 2) same ∙ distance_none)

-- ---- adds
-- it counts a line that it refuses
abbrev counted_by : List ℤ → Line → List ℤ → Result Answer Refusal → List ℤ
counted_by s l t (Ok decide.Yes) = t
counted_by s l t (Ok decide.No) = t
counted_by s l t (Err r) = pushed s l false

pub counts_refused : List ℤ → Line → Lent → Added
counts_refused s l b = record { answer = add_answer s l b; state = counted_by s l (right_add s l b).state (add_answer s l b); after = (right_add s l b).after }

twice_refused : answer_for 1 (numbers_of (twice ∷ [])) (room_with 1 9) ≡ Err (BadCoefficient 0)
unfolding decide_answer decide_validity_lem validity_of lines_validity_lem numbers_of line_numbers_lem line_tests line_at
twice_refused = refl

pub counts_refused_breaks : KeepsAdd counts_refused → ⊥
unfolding counts_refused state_of front_of numbers_of
counts_refused_breaks k =
    let s = state [] false in
    let b = room_with 1 9 in
    let refused : add_answer s twice b ≡ Err (BadCoefficient 0) = add_answer_law (stands 1 [] none_valid false s [] refl none_yes none_yes) twice b ∙ twice_refused in
    let same : pushed s twice false ≡ s =
    subst (λ (x : Result Answer Refusal). counted_by s twice (right_add s twice b).state x ≡ add_state s twice (learnt_known s twice) x) refused (k s twice b).state in
    let more : pushed s twice false ≡ front_of 1 (twice ∷ []) false ++ (known_for 1 [] ++ []) =
    ap (λ (x : List ℤ). pushed x twice false) (state_front 1 [] false []) ∙ pushed_is 1 [] false (known_for 1 [] ++ []) twice false (omega arith) in
    one (ap (λ (t : List ℤ). number t 1) (sym more ∙ same))

-- it decides without the first line
pub without_first : List ℤ → Line → Lent → Added
without_first s l b =
    record {
      answer = unless_refused (add_validity s) (answer_for (variables_in s) (drop line_size (numbers_with s l)) b);
      state = (right_add s l b).state;
      after = (right_add s l b).after;
    }

least_yes : answer_for 1 (drop line_size (numbers_of (most ∷ least ∷ []))) (room_with 1 9) ≡ Ok decide.Yes
unfolding numbers_of line_numbers_lem decide_answer decide_validity_lem rooms_validity validity_of lines_validity_lem line_tests line_at is_false_lem verdict_of has_false
    no_negative consistent_halves entry digit step_of steps_of relax_row start_row_lem rounds row_at best opposite
least_yes = refl

both_no : answer_for 1 (numbers_of (most ∷ least ∷ [])) (room_with 1 9) ≡ Ok decide.No
unfolding numbers_of line_numbers_lem
both_no = list_8_no

pub without_first_breaks : KeepsAdd without_first → ⊥
unfolding without_first
without_first_breaks k =
    let s = state (most ∷ []) false in
    let b = room_with 1 9 in
    let holds = stands 1 (most ∷ []) most_valid false s [] refl most_yes most_yes in
    let wrong : unless_refused (add_validity s) (answer_for (variables_in s) (drop line_size (numbers_with s least)) b) ≡ Ok decide.Yes =
    ap (λ (v : Result Unit Refusal). unless_refused v (answer_for (variables_in s) (drop line_size (numbers_with s least)) b)) (state_validity holds)
    ∙ ap (λ (n : ℕ). answer_for n (drop line_size (numbers_with s least)) b) (variables holds)
    ∙ ap (λ (L : List ℤ). answer_for 1 (drop line_size L) b) (all_numbers holds least)
    ∙ least_yes in
    let same : Ok decide.Yes ≡ Ok decide.No = sym wrong ∙ (k s least b).is ∙ add_answer_law holds least b ∙ both_no in
    never (cc)

-- it looks at false lines and at walks, and not at halves, so that half-integers count: x + x at most 1, and then at least 1
abbrev by_walks : ℕ → List ℤ → Lent → Result Answer Refusal
by_walks n L b = unless_refused (validity_for n L b) (cond (not (has_false (lines_of L)) && no_negative (steps_of (lines_of L)) (2 * n)) (Ok decide.Yes) (Ok decide.No))

pub learns_halves : List ℤ → Line → Lent → Added
learns_halves s l b =
    record {
      answer = unless_refused (add_validity s) (by_walks (variables_in s) (numbers_with s l) b);
      state = (right_add s l b).state;
      after = (right_add s l b).after;
    }

abbrev at_most_one : Line
at_most_one = record { a = pos 1; x = pos 0; b = pos 1; y = pos 0; d = pos 1; identifier = pos 0 }

abbrev at_least_one : Line
at_least_one = record { a = neg_ℤ (pos 1); x = pos 0; b = neg_ℤ (pos 1); y = pos 0; d = neg_ℤ (pos 1); identifier = pos 0 }

one_valid : validity_of 1 (numbers_of (at_most_one ∷ [])) ≡ Ok tt
unfolding validity_of lines_validity_lem numbers_of line_numbers_lem line_tests line_at
one_valid = refl

one_yes : verdict_of 1 (at_most_one ∷ []) ≡ true
unfolding verdict_of has_false is_false_lem no_negative consistent_halves entry digit step_of steps_of relax_row start_row_lem rounds row_at best opposite
one_yes = refl

no_walk : by_walks 1 (numbers_of (at_most_one ∷ at_least_one ∷ [])) (room_with 1 9) ≡ Ok decide.Yes
unfolding numbers_of line_numbers_lem decide_validity_lem rooms_validity validity_of lines_validity_lem line_tests line_at is_false_lem has_false no_negative entry digit step_of
    steps_of relax_row start_row_lem rounds row_at best
no_walk = refl

no_whole_number : answer_for 1 (numbers_of (at_most_one ∷ at_least_one ∷ [])) (room_with 1 9) ≡ Ok decide.No
unfolding numbers_of line_numbers_lem decide_answer decide_validity_lem rooms_validity validity_of lines_validity_lem line_tests line_at is_false_lem verdict_of has_false
    no_negative consistent_halves entry digit step_of steps_of relax_row start_row_lem rounds row_at best opposite
no_whole_number = refl

pub learns_halves_breaks : KeepsAdd learns_halves → ⊥
unfolding learns_halves
learns_halves_breaks k =
    let s = state (at_most_one ∷ []) false in
    let b = room_with 1 9 in
    let holds = stands 1 (at_most_one ∷ []) one_valid false s [] refl one_yes one_yes in
    let wrong : unless_refused (add_validity s) (by_walks (variables_in s) (numbers_with s at_least_one) b) ≡ Ok decide.Yes =
    ap (λ (v : Result Unit Refusal). unless_refused v (by_walks (variables_in s) (numbers_with s at_least_one) b)) (state_validity holds)
    ∙ ap (λ (n : ℕ). by_walks n (numbers_with s at_least_one) b) (variables holds)
    ∙ ap (λ (L : List ℤ). by_walks 1 L b) (all_numbers holds at_least_one)
    ∙ no_walk in
    let same : Ok decide.Yes ≡ Ok decide.No = sym wrong ∙ (k s at_least_one b).is ∙ add_answer_law holds at_least_one b ∙ no_whole_number in
    never (cc)

-- ---- adds that answer right and leave the right state, and on a yes hand out something else
abbrev yes_leaving : (List ℤ → Line → Lent → Lent) → List ℤ → Line → Lent → Added
yes_leaving y s l b =
    record {
      answer = add_answer s l b;
      state = (right_add s l b).state;
      after = leftOn (add_answer s l b) b (y s l b) (right_add s l b).after;
    }

-- with what is right on a yes it keeps the promise
pub right_yes_keeps : KeepsAdd (yes_leaving (λ s l b. (right_add s l b).after))
unfolding right_add
right_yes_keeps s l b = record { is = refl; state = refl; left = go (add_answer s l b) (right_add_keeps s l b).left }
  where
    go : (x : Result Answer Refusal) → AddLeft x s l b (right_add s l b).after → AddLeft x s l b (leftOn x b (right_add s l b).after (right_add s l b).after)
    go (Ok decide.Yes) o = o
    go (Ok decide.No) o = o
    go (Err r) o = refl

-- what such a version must hand out where all lines so far have a solution
yes_left : (y : List ℤ → Line → Lent → Lent) → KeepsAdd (yes_leaving y) → {n : ℕ} {ls : List Line} {s : List ℤ} → Stands n ls false s → (l : Line) (b : Lent)
    → answer_for n (numbers_of (ls ++ l ∷ [])) b ≡ Ok decide.Yes → OnYes n (numbers_of (ls ++ l ∷ [])) b (y s l b)
yes_left y k {n} {ls} {s} holds l b e =
    subst (λ (x : Result Answer Refusal). Leaves n (numbers_of (ls ++ l ∷ [])) x b (leftOn x b (y s l b) (right_add s l b).after)) (add_answer_law holds l b ∙ e)
    (stand_learns holds l (k s l b)).decided.leaves

-- the model and the groups that the state keeps
abbrev kept_in : List ℤ → List ℤ
kept_in s = kept_of_known (variables_in s) (known_in (variables_in s) s)

kept_read : {A : Type 0} {n : ℕ} {ls : List Line} {s : List ℤ} → Stands n ls false s → (f : ℕ → List ℤ → A) → f (variables_in s) (kept_in s) ≡ f n (kept_for n ls)
kept_read {A} {n} {ls} {s} holds f =
    ap (λ (m : ℕ). f m (kept_of_known m (known_in m s))) (variables holds)
    ∙ ap (λ (q : List ℤ). f n (kept_of_known n q)) (known_read holds)
    ∙ ap (f n) (kept_known n ls)

-- it hands out the model that was kept before the line, whether it meets the line or not
abbrev old_model : List ℤ → Line → Lent → Lent
old_model s l b =
    let a = (right_add s l b).after in
    record {
      model = given_model (variables_in s) (kept_in s) ++ drop (model_room_lem (variables_in s)) b.model;
      bounds = a.bounds;
      groups = a.groups;
      refutation = a.refutation;
      identifiers = a.identifiers;
      work = a.work;
    }

pub keeps_old_model : List ℤ → Line → Lent → Added
keeps_old_model = yes_leaving old_model

least_alone_yes : answer_for 1 (numbers_of (least ∷ [])) (room_with 1 9) ≡ Ok decide.Yes
unfolding numbers_of line_numbers_lem
least_alone_yes = least_yes

-- no lines have the model 0, and x at least 4 has 4
model_before : number (given_model 1 (kept_for 1 []) ++ drop (model_room_lem 1) (room_with 1 9).model) 0 ≡ pos 0
unfolding steps_of relax_row start_row_lem rounds row_at best opposite assign above at_most near halves limit pick model table_model model_of
model_before = refl

model_with : number (model_of 1 (lines_of (numbers_of (least ∷ []))) ++ drop (model_room_lem 1) (room_with 1 9).model) 0 ≡ pos 4
unfolding numbers_of line_numbers_lem line_at entry digit step_of steps_of relax_row start_row_lem rounds row_at best opposite assign above at_most near halves limit pick model
    table_model model_of
model_with = refl

four : pos 4 ≡ pos 0 → ⊥
four = simp ints (omega arith)

pub keeps_old_model_breaks : KeepsAdd keeps_old_model → ⊥
unfolding keeps_old_model
keeps_old_model_breaks k =
    let s = state [] false in
    let b = room_with 1 9 in
    let holds = stands 1 [] none_valid false s [] refl none_yes none_yes in
    let old : number (old_model s least b).model 0 ≡ pos 0 =
    kept_read holds (λ n q. number (given_model n q ++ drop (model_room_lem n) b.model) 0) ∙ model_before in
    four (sym model_with ∙ sym (ap (λ (m : List ℤ). number m 0) (yes_left old_model k holds least b least_alone_yes).model) ∙ old)

-- it hands out the groups that were kept before the line, whether its steps are wide or not: x at most y, and then at least y
abbrev old_groups : List ℤ → Line → Lent → Lent
old_groups s l b =
    let a = (right_add s l b).after in
    record {
      model = a.model;
      bounds = a.bounds;
      groups = given_groups (variables_in s) (kept_in s) ++ drop (groups_room_lem (variables_in s)) b.groups;
      refutation = a.refutation;
      identifiers = a.identifiers;
      work = a.work;
    }

pub keeps_old_groups : List ℤ → Line → Lent → Added
keeps_old_groups = yes_leaving old_groups

abbrev at_most_y : Line
at_most_y = record { a = pos 1; x = pos 0; b = neg_ℤ (pos 1); y = pos 1; d = pos 0; identifier = pos 0 }

abbrev at_least_y : Line
at_least_y = record { a = neg_ℤ (pos 1); x = pos 0; b = pos 1; y = pos 1; d = pos 0; identifier = pos 0 }

below_valid : validity_of 2 (numbers_of (at_most_y ∷ [])) ≡ Ok tt
unfolding validity_of lines_validity_lem numbers_of line_numbers_lem line_tests line_at
below_valid = refl

below_yes : verdict_of 2 (at_most_y ∷ []) ≡ true
unfolding verdict_of has_false is_false_lem no_negative consistent_halves entry digit step_of steps_of relax_row start_row_lem rounds row_at best opposite
below_yes = refl

equal_yes : answer_for 2 (numbers_of (at_most_y ∷ at_least_y ∷ [])) (room_with 2 9) ≡ Ok decide.Yes
unfolding numbers_of line_numbers_lem decide_answer decide_validity_lem rooms_validity validity_of lines_validity_lem line_tests line_at is_false_lem verdict_of has_false
    no_negative consistent_halves entry digit step_of steps_of relax_row start_row_lem rounds row_at best opposite
equal_yes = refl

-- y's group variable is y, and with both lines it is x
group_before : get_or (given_groups 2 (kept_for 2 (at_most_y ∷ [])) ++ drop (groups_room_lem 2) (room_with 2 9).groups) 2 0 ≡ 1
unfolding entry digit step_of steps_of relax_row start_row_lem rounds row_at best opposite model_of groups_of halves tight
group_before = refl

group_with : get_or (groups_of 2 (lines_of (numbers_of (at_most_y ∷ at_least_y ∷ []))) ++ drop (groups_room_lem 2) (room_with 2 9).groups) 2 0 ≡ 0
unfolding numbers_of line_numbers_lem line_at entry digit step_of steps_of relax_row start_row_lem rounds row_at best opposite groups_of halves tight
group_with = refl

pub keeps_old_groups_breaks : KeepsAdd keeps_old_groups → ⊥
unfolding keeps_old_groups
keeps_old_groups_breaks k =
    let s = state_of 2 (at_most_y ∷ []) false ++ [] in
    let b = room_with 2 9 in
    let holds = stands 2 (at_most_y ∷ []) below_valid false s [] refl below_yes below_yes in
    let old : get_or (old_groups s at_least_y b).groups 2 0 ≡ 1 =
    kept_read holds (λ n q. get_or (given_groups n q ++ drop (groups_room_lem n) b.groups) 2 0) ∙ group_before in
    let same : ◌≡◌ {A = ℕ} 1 0 = sym old ∙ ap (λ (g : List ℕ). get_or g 2 0) (yes_left old_groups k holds at_least_y b equal_yes).groups ∙ group_with in
    absurd (omega arith)
