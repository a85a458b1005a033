-- What the tests of a state give, number by number.
use Rattle.std.specs.Prelude.{◌≡◌, refl, true, ◌&&◌, List, [], ◌∷◌, ◌++◌, ℕ, zero, suc, ◌+◌, ◌*◌, ◌^◌, ◌-◌, ◌<◌, ◌≤◌, leb, ℤ, pos, negsuc, nat_abs, length, take, drop}
use Rattle.std.proofs.Common.{sym, ap, ◌∙◌, mul-le-mul_right, not-suc-le-zero, le_of_suc-le-suc, add-one, arith, leb-true, drop_of_length-le, length-append, length-drop, take-append-drop, drop-cons, length-take-le, take-take, get_or-take, SFits}
use Rattle.std.proofs.Math.ListN.{get_or-append}
use Rattle.std.specs.Int.Signed.{le_z}
use Rattle.std.specs.Int.{w32, w64}
use Rattle.integers.specs.Integer.{◌⩽◌, is_between}
use Rattle.integers.proofs.Linear.{ints, given, given₂}
use Rattle.integers.specs.Laws.{and_true, both_true}
use Rattle.lines.specs.Limits.{line_size, max_variables, max_lines}
use Rattle.lines.specs.Line.{number}
use Rattle.session_state.specs.State.{head_size, front_room, table_room_lem, kept_room_lem, known_room, table_end, session_room_lem, behind, variables_in, count_in, numbers_in, table_in, table_of_known, kept_of_known, known_in, head_ok_lem, fits32, fit_all_lem, is_state_lem, with_known}

-- ---- a number from 0 to m
pub between_low : (m : ℕ) (z : ℤ) → is_between (pos 0) (pos m) z ≡ true → pos 0 ⩽ z
between_low m z e = let t = and_true (le_z (pos 0) z) (le_z z (pos m)) e in given t.0 (simp ints (omega arith))

pub between_high : (m : ℕ) (z : ℤ) → is_between (pos 0) (pos m) z ≡ true → nat_abs z ≤ m
between_high m z e = let t = and_true (le_z (pos 0) z) (le_z z (pos m)) e in given₂ t.0 t.1 (simp ints (omega arith))

-- ---- the room
-- before what is known, k lines and the zeros behind them
pub front_split : (k : ℕ) → k ≤ max_lines → front_room ≡ head_size + (line_size * k + behind k)
unfolding behind
front_split k h = omega arith

-- both sides of a table are small
pub table_small : (n : ℕ) → n ≤ max_variables → table_room_lem n ≤ table_room_lem max_variables
table_small n h =
    let a : 2 * n * (2 * n) ≤ 2 * max_variables * (2 * n) = mul-le-mul_right (2 * n) (omega arith) in
    omega (arith, a, h)

pub room_is : (n : ℕ) → session_room_lem n ≡ front_room + known_room n
unfolding session_room_lem
room_is n = refl

pub room_known : (n : ℕ) → session_room_lem n - front_room ≡ known_room n
room_known n = omega (arith, room_is n)

pub end_is : (n : ℕ) → table_end n ≡ front_room + table_room_lem n
unfolding table_end
end_is n = refl

end_table : (n : ℕ) → table_end n - front_room ≡ table_room_lem n
end_table n = omega (arith, end_is n)

-- the table ends within the room
pub end_room : (n : ℕ) → table_end n ≤ session_room_lem n
unfolding known_room
end_room n = omega (arith, end_is n, room_is n)

pub room_lines : (n k : ℕ) → k ≤ max_lines → head_size + line_size * k ≤ session_room_lem n
room_lines n k h = omega (arith, front_split k h, room_is n)

-- ---- the head
pub record HeadOk (s : List ℤ) : Type 0 where
  pub long : head_size ≤ length s
  pub variables_low : pos 0 ⩽ number s 0
  pub variables : variables_in s ≤ max_variables
  pub count_low : pos 0 ⩽ number s 1
  pub count : count_in s ≤ max_lines
  pub room : session_room_lem (variables_in s) ≤ length s

pub head_ok : (s : List ℤ) → head_ok_lem s ≡ true → HeadOk s
unfolding head_ok_lem
head_ok s e =
    let a = and_true (leb head_size (length s)) _ e in
    let b = and_true (is_between (pos 0) (pos max_variables) (number s 0)) _ a.1 in
    let c = and_true (is_between (pos 0) (pos max_lines) (number s 1)) _ b.1 in
    let d = and_true (is_between (pos 0) (pos 1) (number s 2)) _ c.1 in
    record {
      long = leb-true _ _ a.0;
      variables_low = between_low max_variables (number s 0) b.0;
      variables = between_high max_variables (number s 0) b.0;
      count_low = between_low max_lines (number s 1) c.0;
      count = between_high max_lines (number s 1) c.0;
      room = leb-true _ _ d.1;
    }

pub state_head : (s : List ℤ) → is_state_lem s ≡ true → HeadOk s
unfolding is_state_lem
state_head s e = head_ok s (and_true (head_ok_lem s) (fit_all_lem (numbers_in s)) e).0

pub state_head_ok : (s : List ℤ) → is_state_lem s ≡ true → head_ok_lem s ≡ true
unfolding is_state_lem
state_head_ok s e = (and_true (head_ok_lem s) (fit_all_lem (numbers_in s)) e).0

pub state_fits : (s : List ℤ) → is_state_lem s ≡ true → fit_all_lem (numbers_in s) ≡ true
unfolding is_state_lem
state_fits s e = (and_true (head_ok_lem s) (fit_all_lem (numbers_in s)) e).1

-- the lines that are there end within the state
pub lines_end : {s : List ℤ} → HeadOk s → head_size + line_size * count_in s ≤ length s
lines_end {s} h = omega (arith, room_lines (variables_in s) (count_in s) h.count, h.room)

-- and so does one more
pub next_end : {s : List ℤ} → HeadOk s → count_in s < max_lines → head_size + line_size * count_in s + line_size ≤ length s
next_end {s} h l = omega (arith, room_lines (variables_in s) (count_in s + 1) (omega arith), h.room)

-- the part of a state where its lines stand
pub lines_part : (s : List ℤ) (k : ℕ) → k ≡ count_in s → take (head_size + line_size * k - head_size) (drop head_size s) ≡ numbers_in s
lines_part s k e = let j : head_size + line_size * k - head_size ≡ line_size * count_in s = omega arith in ap (λ (i : ℕ). take i (drop head_size s)) j

pub length_numbers_in : (s : List ℤ) → HeadOk s → length (numbers_in s) ≡ line_size * count_in s
length_numbers_in s h = length-take-le (line_size * count_in s) (drop head_size s) (omega (arith, length-drop head_size s, lines_end h))

-- ---- numbers of 32 bits
fits_is : (z : ℤ) → fits32 z ≡ true → SFits w32 z
fits_is z e = let t = and_true (le_z (negsuc (2 ^ 31 - 1)) z) (le_z z (pos (2 ^ 31 - 1))) e in given₂ t.0 t.1 (simp ints (omega arith))

is_fits : (z : ℤ) → SFits w32 z → fits32 z ≡ true
is_fits z h = both_true (le_z (negsuc (2 ^ 31 - 1)) z) (le_z z (pos (2 ^ 31 - 1))) (given h (simp ints (omega arith))) (given h (simp ints (omega arith)))

pub fit_at : (zs : List ℤ) → fit_all_lem zs ≡ true → (i : ℕ) → i < length zs → SFits w32 (number zs i)
unfolding fit_all_lem
fit_at [] e i h = absurd (not-suc-le-zero h)
fit_at (z ∷ zs) e zero h = fits_is z (and_true (fits32 z) (fit_all_lem zs) e).0
fit_at (z ∷ zs) e (suc i) h = fit_at zs (and_true (fits32 z) (fit_all_lem zs) e).1 i (le_of_suc-le-suc h)

pub all_fit : (zs : List ℤ) → ((i : ℕ) → SFits w32 (number zs i)) → fit_all_lem zs ≡ true
unfolding fit_all_lem
all_fit [] h = refl
all_fit (z ∷ zs) h = both_true (fits32 z) (fit_all_lem zs) (is_fits z (h 0)) (all_fit zs (λ i. h (suc i)))

pub fit_from : (zs : List ℤ) (i : ℕ) → i < length zs → fit_all_lem (drop i zs) ≡ (fits32 (number zs i) && fit_all_lem (drop (i + 1) zs))
unfolding fit_all_lem
fit_from zs i h = ap fit_all_lem (drop-cons zs i (pos 0) h) ∙ ap (λ (k : ℕ). fits32 (number zs i) && fit_all_lem (drop k zs)) (sym (add-one i))

pub fit_past : (zs : List ℤ) (i : ℕ) → length zs ≤ i → fit_all_lem (drop i zs) ≡ true
unfolding fit_all_lem
fit_past zs i h = ap fit_all_lem (drop_of_length-le zs h)

-- ---- a number of 64 bits without its sign
pub abs_fits : (z : ℤ) → SFits w64 z → nat_abs z < 2 ^ 64
abs_fits z h = given h (simp ints (omega arith))

-- ---- numbers with the same head
pub head_same : (s t : List ℤ) → length t ≡ length s → ((i : ℕ) → i < head_size → number t i ≡ number s i) → head_ok_lem t ≡ head_ok_lem s
unfolding head_ok_lem
head_same s t e same = rw (e, same 0 (omega arith), same 1 (omega arith), same 2 (omega arith))

-- and something else known
module _ (n : ℕ) (s u : List ℤ) (room : session_room_lem n ≤ length s) (size : length u ≡ known_room n) where
  pub with_length : length (with_known n s u) ≡ length s
  with_length =
      length-append (take front_room s) (u ++ drop (session_room_lem n - front_room) (drop front_room s))
      ∙ omega (
        arith,
        length-take-le front_room s (omega (arith, room, room_is n)),
        length-append u (drop (session_room_lem n - front_room) (drop front_room s)),
        length-drop (session_room_lem n - front_room) (drop front_room s),
        length-drop front_room s,
        room,
        room_is n,
        size,
      )

  pub with_number : (i : ℕ) → i < front_room → number (with_known n s u) i ≡ number s i
  with_number i h =
      get_or-append (take front_room s) (u ++ drop (session_room_lem n - front_room) (drop front_room s)) (pos 0) i (omega (arith, h, length-take-le front_room s (omega (arith, room, room_is n))))
      ∙ get_or-take front_room s i (pos 0) h

  pub with_head : head_ok_lem (with_known n s u) ≡ head_ok_lem s
  with_head = head_same s (with_known n s u) with_length (λ i h. with_number i (omega arith))

  pub with_count : count_in (with_known n s u) ≡ count_in s
  with_count = ap nat_abs (with_number 1 (omega arith))

-- what was known again
pub with_own : (n : ℕ) (s : List ℤ) → with_known n s (known_in n s) ≡ s
with_own n s =
    ap (λ (x : List ℤ). take front_room s ++ x) (take-append-drop (session_room_lem n - front_room) (drop front_room s))
    ∙ take-append-drop front_room s

pub length_known_in : (n : ℕ) (s : List ℤ) → session_room_lem n ≤ length s → length (known_in n s) ≡ known_room n
length_known_in n s room =
    length-take-le (session_room_lem n - front_room) (drop front_room s) (omega (arith, length-drop front_room s, room, room_is n)) ∙ room_known n

-- the table among it
pub length_table : (n : ℕ) (q : List ℤ) → length q ≡ known_room n → length (table_of_known n q) ≡ table_room_lem n
unfolding known_room
length_table n q size = length-take-le (table_room_lem n) q (omega (arith, size))

-- and the rest
pub length_kept : (n : ℕ) (q : List ℤ) → length q ≡ known_room n → length (kept_of_known n q) ≡ kept_room_lem n
unfolding known_room
length_kept n q size = length-drop (table_room_lem n) q ∙ omega (arith, size)

-- it is the state's table
pub table_in_known : (n : ℕ) (s : List ℤ) → table_in n s ≡ table_of_known n (known_in n s)
unfolding known_room
table_in_known n s =
    ap (λ (k : ℕ). take k (drop front_room s)) (end_table n)
    ∙ sym (take-take (table_room_lem n) (session_room_lem n - front_room) (drop front_room s) (omega (arith, room_known n)))

pub length_table_in : (n : ℕ) (s : List ℤ) → session_room_lem n ≤ length s → length (table_in n s) ≡ table_room_lem n
length_table_in n s room = ap length (table_in_known n s) ∙ length_table n (known_in n s) (length_known_in n s room)
