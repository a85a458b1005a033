-- What a start writes, and what is left of a state whose last line is taken away.
use Rattle.std.specs.Prelude.{◌≡◌, Bool, true, false, List, [], ◌++◌, ℕ, ◌+◌, ◌-◌, ◌≤◌, ℤ, length, take, drop, Ok}
use Rattle.std.proofs.Common.{sym, ap, ap₂, ◌∙◌, arith, take_at, drop_at, drop-drop}
use Rattle.lines.specs.Limits.{max_variables}
use Rattle.lines.specs.Line.{numbers_of}
use Rattle.lines.specs.Valid.{workable, modellable}
use Rattle.session_state.specs.State.{front_room, session_room_lem, front_of, known_for, variables_in, refused_in, known_in, popped, with_known, started}
use Rattle.session_state.specs.Laws.{room_is, with_own}
use Rattle.session_state.specs.Session.{length_front, started_is, state_front}
use Rattle.session_known.specs.Known.{known_anew_lem}
use Rattle.session_known.specs.Meaning.{known_anew}
use Rattle.session_remake.specs.Remade.{remade_known}
use Rattle.session_promise.specs.Promise.{start_state, known_before, withdraw_state}
use Rattle.session_promise.specs.Standing.{empty}
use Rattle.session_promise.specs.Sequence.{no_lines}

-- ---- a start: n and no lines, and then what is known of none
pub start_is : (n : ℕ) → n ≤ max_variables → (s t : List ℤ) → t ≡ with_known n (started n s) (known_anew_lem n [] (known_in n (started n s))) → t ≡ start_state n s (Ok tt)
unfolding numbers_of
start_is n few s t e =
    let front = front_of n [] false in
    let long : length front ≡ front_room = length_front n [] false (omega arith) in
    let valid = empty n few in
    let known : known_anew_lem n [] (known_in n (started n s)) ≡ known_for n [] =
    known_anew n [] (workable n [] valid) (no_lines n few) (modellable n [] valid) (known_in n (started n s)) in
    let first : take front_room (started n s) ≡ front = ap (take front_room) (started_is n s) ∙ take_at front (drop front_room s) front_room long in
    let ends : front_room + (session_room_lem n - front_room) ≡ session_room_lem n = omega (arith, room_is n) in
    let beyond : drop (session_room_lem n - front_room) (drop front_room (started n s)) ≡ drop (session_room_lem n) s =
    ap (λ (x : List ℤ). drop (session_room_lem n - front_room) (drop front_room x)) (started_is n s)
    ∙ ap (drop (session_room_lem n - front_room)) (drop_at front (drop front_room s) front_room long)
    ∙ drop-drop (session_room_lem n - front_room) front_room s
    ∙ ap (λ (j : ℕ). drop j s) ends in
    e
    ∙ ap (with_known n (started n s)) known
    ∙ ap₂ (λ (x y : List ℤ). x ++ (known_for n [] ++ y)) first beyond
    ∙ sym (state_front n [] false (drop (session_room_lem n) s))

-- ---- the last line is taken away, by the last answer
taken_by : (s : List ℤ) (r : Bool) → refused_in s ≡ r → (t : List ℤ) → t ≡ popped (with_known (variables_in s) s (known_before r s)) → t ≡ withdraw_state s (Ok tt)
taken_by s r q t e = e ∙ ap (λ (c : Bool). popped (with_known (variables_in s) s (known_before c s))) (sym q)

-- after a no what is known stays
pub taken_no : (s t : List ℤ) → refused_in s ≡ true → t ≡ popped s → t ≡ withdraw_state s (Ok tt)
taken_no s t q e = taken_by s true q t (e ∙ ap popped (sym (with_own (variables_in s) s)))

-- else it is made anew
pub taken_anew : (s m t : List ℤ) → refused_in s ≡ false → m ≡ with_known (variables_in s) s (remade_known s) → t ≡ popped m → t ≡ withdraw_state s (Ok tt)
taken_anew s m t q d e = taken_by s false q t (e ∙ ap popped d)
