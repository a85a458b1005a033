-- What is read from a session's state, and what it becomes: the state of its n, its lines and its last answer, with any numbers behind it.
use Rattle.std.specs.Prelude.{◌≡◌, Bool, ℕ, suc, ◌+◌, ◌*◌, ◌-◌, ◌<◌, ◌≤◌, leb, ℤ, take, drop, set}
use Rattle.std.proofs.Math.Path.{refl}
use Rattle.std.proofs.Common.{sym, ap, ap₂, ◌∙◌, arith, le-leb, take_at, drop_at}
use Rattle.std.proofs.Math.Bool.{true, false, not}
use mathlib.Core.List.{List, [], ◌∷◌, ◌++◌, append_assoc, append-nil}
use Rattle.std.proofs.Math.IntN.{pos}
use Rattle.std.proofs.Math.ListN.{length, length-append, length-replicate}
use Rattle.std.proofs.lemmas.List.{length-map, replicate-append-replicate}
use Rattle.integers.specs.Integer.{eq_z, is_between}
use Rattle.integers.specs.Laws.{both_true}
use Rattle.integers.specs.Sequence.{tabulate, length_tabulate}
use Rattle.lines.specs.declared.Line.{Line}
use Rattle.lines.specs.Limits.{line_size, max_variables, max_lines}
use Rattle.lines.specs.Line.{line_numbers_lem, numbers_of}
use Rattle.lines.specs.LineNumbers.{length_numbers, length_numbers_of}
use Rattle.steps.specs.Step.{steps_of}
use Rattle.theory_bounds.specs.Verdict.{distances}
use Rattle.theory_bounds.specs.Table.{table_model}
use Rattle.theory_bounds.specs.Answers.{model_of, group_at_lem, groups_of}
use Rattle.decide_rows.specs.Table.{table_length}
use Rattle.longer_list.specs.Written.{put_at}
use Rattle.session_state.specs.State.{head_size, front_room, table_room_lem, kept_room_lem, known_room, session_room_lem, flag_of_lem, zeros, behind, front_of, kept, table_for, widened, kept_for, known_for, state_of, table_of_known, kept_of_known, known_in, variables_in, count_in, refused_in, numbers_in, head_ok_lem, fit_all_lem, is_state_lem, line_start, headed, started, pushed, popped, with_known}
use Rattle.session_state.specs.Laws.{front_split, room_is, room_known}

-- ---- the numbers of lines and of one more
pub numbers_more : (ls : List Line) (l : Line) → numbers_of (ls ++ l ∷ []) ≡ numbers_of ls ++ line_numbers_lem l
unfolding numbers_of
numbers_more [] l = append-nil (line_numbers_lem l)
numbers_more (k ∷ ls) l = ap (λ (x : List ℤ). line_numbers_lem k ++ x) (numbers_more ls l) ∙ sym (append_assoc (line_numbers_lem k) (numbers_of ls) (line_numbers_lem l))

pub length_more : (ls : List Line) (l : Line) → length (ls ++ l ∷ []) ≡ length ls + 1
length_more ls l = length-append ls (l ∷ [])

-- one line's zeros of those behind
behind_more : (k : ℕ) → k < max_lines → zeros (behind k) ≡ zeros line_size ++ zeros (behind (k + 1))
unfolding behind
behind_more k h = let e : line_size * (max_lines - k) ≡ line_size + line_size * (max_lines - (k + 1)) = omega arith in ap zeros e ∙ sym (replicate-append-replicate line_size (line_size * (max_lines - (k + 1))) (pos 0))

from_zero : (k m : ℕ) → k ≤ m → is_between (pos 0) (pos m) (pos k) ≡ true
from_zero k m h = both_true (leb 0 k) (leb k m) (le-leb 0 k (omega arith)) (le-leb k m h)

-- ---- the front of a state, from its lines
module _ (n : ℕ) (ls : List Line) (r : Bool) where
  -- what stands before the zeros
  abbrev front : List ℤ
  front = pos n ∷ pos (length ls) ∷ flag_of_lem r ∷ numbers_of ls

  length_lines : length (pos n ∷ pos (length ls) ∷ flag_of_lem r ∷ numbers_of ls) ≡ line_start (length ls)
  length_lines = omega (arith, length_numbers_of ls)

  pub length_front : length ls ≤ max_lines → length (front_of n ls r) ≡ front_room
  unfolding front_of
  length_front h =
      omega (arith, length-append (numbers_of ls) (zeros (behind (length ls))), length_numbers_of ls, length-replicate (behind (length ls)) (pos 0), front_split (length ls) h)

  split : (rest : List ℤ) → front_of n ls r ++ rest ≡ (pos n ∷ pos (length ls) ∷ flag_of_lem r ∷ numbers_of ls) ++ (zeros (behind (length ls)) ++ rest)
  unfolding front_of
  split rest = append_assoc (pos n ∷ pos (length ls) ∷ flag_of_lem r ∷ numbers_of ls) (zeros (behind (length ls))) rest

  -- ---- what is read
  module _ (rest : List ℤ) where
    pub variables_is : variables_in (front_of n ls r ++ rest) ≡ n
    unfolding front_of
    variables_is = refl

    pub count_is : count_in (front_of n ls r ++ rest) ≡ length ls
    unfolding front_of
    count_is = refl

    pub refused_is : refused_in (front_of n ls r ++ rest) ≡ r
    unfolding front_of
    refused_is = go r
      where
        go : (t : Bool) → not (eq_z (flag_of_lem t) (pos 0)) ≡ t
        go true = refl
        go false = refl

    pub numbers_is : numbers_in (front_of n ls r ++ rest) ≡ numbers_of ls
    numbers_is =
        ap (λ (k : ℕ). take (line_size * k) (drop head_size (front_of n ls r ++ rest))) count_is
        ∙ ap (λ (x : List ℤ). take (line_size * length ls) (drop head_size x)) (split rest)
        ∙ take_at (numbers_of ls) (zeros (behind (length ls)) ++ rest) (line_size * length ls) (length_numbers_of ls)

    head_is : n ≤ max_variables → length ls ≤ max_lines → known_room n ≤ length rest → head_ok_lem (front_of n ls r ++ rest) ≡ true
    unfolding head_ok_lem front_of
    head_is few h room =
        let size = length-append (front_of n ls r) rest in
        let long : head_size ≤ length (front_of n ls r ++ rest) = omega (arith, size, length_front h, front_split (length ls) h) in
        let whole : session_room_lem n ≤ length (front_of n ls r ++ rest) = omega (arith, size, length_front h, room_is n, room) in
        both_true _ _ (le-leb _ _ long)
        (both_true _ _ (from_zero n max_variables few) (both_true _ _ (from_zero (length ls) max_lines h) (both_true _ _ (flag r) (le-leb _ _ whole))))
      where
        flag : (t : Bool) → is_between (pos 0) (pos 1) (flag_of_lem t) ≡ true
        flag true = refl
        flag false = refl

    pub state_is : n ≤ max_variables → length ls ≤ max_lines → known_room n ≤ length rest → fit_all_lem (numbers_of ls) ≡ true → is_state_lem (front_of n ls r ++ rest) ≡ true
    unfolding is_state_lem
    state_is few h room fit = both_true _ _ (head_is few h room) (ap fit_all_lem numbers_is ∙ fit)

-- ---- what it becomes
-- n and no lines
pub started_is : (n : ℕ) (s : List ℤ) → started n s ≡ front_of n [] false ++ drop front_room s
unfolding started front_of numbers_of
started_is n s =
    let e : front_room ≡ suc (suc (suc (behind 0))) = omega (arith, front_split 0 (omega arith)) in
    ap (λ (k : ℕ). set (zeros k ++ drop front_room s) 0 (pos n)) e

-- ys in place of as many numbers zs behind xs
put_is : (xs zs ys w : List ℤ) (at : ℕ) → length xs ≡ at → length zs ≡ line_size → put_at at ys (xs ++ (zs ++ w)) ≡ xs ++ (ys ++ w)
put_is xs zs ys w at e z = rw (take_at xs (zs ++ w) at e, drop_at xs (zs ++ w) at e, drop_at zs w line_size z)

-- the front with one line more, from its lines
one_more : (n : ℕ) (ls : List Line) (l : Line) (q : Bool) (rest : List ℤ)
    → front_of n (ls ++ l ∷ []) q ++ rest ≡ (pos n ∷ pos (length ls + 1) ∷ flag_of_lem q ∷ numbers_of ls) ++ (line_numbers_lem l ++ (zeros (behind (length ls + 1)) ++ rest))
one_more n ls l q rest =
    split n (ls ++ l ∷ []) q rest
    ∙ ap (λ (k : ℕ). pos n ∷ pos k ∷ flag_of_lem q ∷ (numbers_of (ls ++ l ∷ []) ++ (zeros (behind k) ++ rest))) (length_more ls l)
    ∙ ap (λ (x : List ℤ). pos n ∷ pos (length ls + 1) ∷ flag_of_lem q ∷ x)
    (ap (λ (x : List ℤ). x ++ (zeros (behind (length ls + 1)) ++ rest)) (numbers_more ls l) ∙ append_assoc (numbers_of ls) (line_numbers_lem l) (zeros (behind (length ls + 1)) ++ rest))

-- one line more
pub pushed_is : (n : ℕ) (ls : List Line) (r : Bool) (rest : List ℤ) (l : Line) (q : Bool) → length ls < max_lines
    → pushed (front_of n ls r ++ rest) l q ≡ front_of n (ls ++ l ∷ []) q ++ rest
unfolding pushed
pushed_is n ls r rest l q h =
    let c = length ls in
    let xs = front n ls r in
    let w = zeros (behind (c + 1)) ++ rest in
    let e : front_of n ls r ++ rest ≡ xs ++ (zeros line_size ++ w) =
    split n ls r rest ∙ ap (λ (x : List ℤ). xs ++ x) (ap (λ (x : List ℤ). x ++ rest) (behind_more c h) ∙ append_assoc (zeros line_size) (zeros (behind (c + 1))) rest) in
    ap (λ (x : List ℤ). headed (count_in x + 1) q (put_at (line_start (count_in x)) (line_numbers_lem l) x)) e
    ∙ ap (headed (c + 1) q) (put_is xs (zeros line_size) (line_numbers_lem l) w (line_start c) (length_lines n ls r) (length-replicate line_size (pos 0)))
    ∙ sym (one_more n ls l q rest)

-- the last line is taken away
pub popped_is : (n : ℕ) (ls : List Line) (l : Line) (r : Bool) (rest : List ℤ) → length ls < max_lines
    → popped (front_of n (ls ++ l ∷ []) r ++ rest) ≡ front_of n ls false ++ rest
unfolding popped
popped_is n ls l r rest h =
    let c = length ls in
    let xs : List ℤ = pos n ∷ pos (c + 1) ∷ flag_of_lem r ∷ numbers_of ls in
    let w = zeros (behind (c + 1)) ++ rest in
    let back : c + 1 - 1 ≡ c = omega arith in
    let size : length xs ≡ line_start c = omega (arith, length_numbers_of ls) in
    let zs : zeros (behind c) ++ rest ≡ zeros line_size ++ w = ap (λ (x : List ℤ). x ++ rest) (behind_more c h) ∙ append_assoc (zeros line_size) (zeros (behind (c + 1))) rest in
    ap (λ (x : List ℤ). headed (count_in x - 1) false (put_at (line_start (count_in x - 1)) (zeros line_size) x)) (one_more n ls l r rest)
    ∙ ap (λ (k : ℕ). headed k false (put_at (line_start k) (zeros line_size) (xs ++ (line_numbers_lem l ++ w)))) back
    ∙ ap (headed c false) (put_is xs (line_numbers_lem l) (zeros line_size) w (line_start c) size (length_numbers l))
    ∙ ap (λ (x : List ℤ). pos n ∷ pos c ∷ pos 0 ∷ (numbers_of ls ++ x)) (sym zs)
    ∙ sym (split n ls false rest)

-- ---- what is known of the lines, behind the front
-- a front of that length, what is known and what lies beyond
module _ (n : ℕ) (front t rest : List ℤ) (long : length front ≡ front_room) (size : length t ≡ known_room n) where
  pub known_is : known_in n (front ++ (t ++ rest)) ≡ t
  known_is =
      ap (take (session_room_lem n - front_room)) (drop_at front (t ++ rest) front_room long)
      ∙ take_at t rest (session_room_lem n - front_room) (size ∙ sym (room_known n))

  pub with_is : (u : List ℤ) → with_known n (front ++ (t ++ rest)) u ≡ front ++ (u ++ rest)
  with_is u =
      let behind_known : drop (session_room_lem n - front_room) (drop front_room (front ++ (t ++ rest))) ≡ rest =
      ap (drop (session_room_lem n - front_room)) (drop_at front (t ++ rest) front_room long) ∙ drop_at t rest (session_room_lem n - front_room) (size ∙ sym (room_known n)) in
      ap₂ (λ (x y : List ℤ). x ++ (u ++ y)) (take_at front (t ++ rest) front_room long) behind_known

  pub beyond_is : drop (session_room_lem n) (front ++ (t ++ rest)) ≡ rest
  beyond_is =
      let e : length (front ++ t) ≡ session_room_lem n = length-append front t ∙ omega (arith, long, size, room_is n) in
      ap (drop (session_room_lem n)) (sym (append_assoc front t rest)) ∙ drop_at (front ++ t) rest (session_room_lem n) e

pub table_size : (n : ℕ) (ls : List Line) → length (table_for n ls) ≡ table_room_lem n
table_size n ls = table_length (steps_of ls) (2 * n) (2 * n)

pub kept_size : (n : ℕ) (ls : List Line) → length (kept_for n ls) ≡ kept_room_lem n
unfolding model_of groups_of
kept_size n ls =
    length-append (tabulate n (table_model n (distances n ls))) (widened (tabulate (2 * n) (group_at_lem (distances n ls))))
    ∙ omega (
      arith,
      length_tabulate n (table_model n (distances n ls)),
      length-map (tabulate (2 * n) (group_at_lem (distances n ls))) pos,
      length_tabulate (2 * n) (group_at_lem (distances n ls)),
    )

pub known_size : (n : ℕ) (ls : List Line) → length (known_for n ls) ≡ known_room n
unfolding known_for known_room
known_size n ls = length-append (table_for n ls) (kept_for n ls) ∙ omega (arith, table_size n ls, kept_size n ls)

-- of what is known the table, and the model and the groups
pub table_known : (n : ℕ) (ls : List Line) → table_of_known n (known_for n ls) ≡ table_for n ls
unfolding known_for
table_known n ls = take_at (table_for n ls) (kept_for n ls) (table_room_lem n) (table_size n ls)

pub kept_known : (n : ℕ) (ls : List Line) → kept_of_known n (known_for n ls) ≡ kept_for n ls
unfolding known_for
kept_known n ls = drop_at (table_for n ls) (kept_for n ls) (table_room_lem n) (table_size n ls)

-- a state, from its front
pub state_front : (n : ℕ) (ls : List Line) (r : Bool) (rest : List ℤ) → state_of n ls r ++ rest ≡ front_of n ls r ++ (known_for n (kept ls r) ++ rest)
unfolding state_of
state_front n ls r rest = append_assoc (front_of n ls r) (known_for n (kept ls r)) rest

pub length_state : (n : ℕ) (ls : List Line) (r : Bool) → length ls ≤ max_lines → length (state_of n ls r) ≡ session_room_lem n
unfolding state_of
length_state n ls r h =
    length-append (front_of n ls r) (known_for n (kept ls r)) ∙ omega (arith, length_front n ls r h, known_size n (kept ls r), room_is n)

-- after a no it is what is known of the lines before
pub kept_no : (ls : List Line) (l : Line) → kept (ls ++ l ∷ []) true ≡ ls
kept_no ls l = take_at ls (l ∷ []) (length (ls ++ l ∷ []) - 1) (omega (arith, length_more ls l))
