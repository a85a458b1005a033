-- What the state of a session is: the one place that says so. And what is read from any numbers as from a state.
use Rattle.std.specs.Prelude.{Bool, true, false, not, cond, ◌&&◌, List, [], ◌∷◌, ◌++◌, map, ℕ, ◌+◌, ◌*◌, ◌-◌, ◌^◌, leb, ℤ, pos, negsuc, nat_abs, length, take, drop, set, replicate}
use Rattle.integers.specs.Integer.{eq_z, is_between}
use Rattle.lines.specs.declared.Line.{Line}
use Rattle.lines.specs.Limits.{line_size, max_variables, max_lines}
use Rattle.lines.specs.Line.{number, line_numbers_lem, numbers_of}
use Rattle.steps.specs.Step.{steps_of}
use Rattle.theory_bounds.specs.Answers.{model_of, groups_of}
use Rattle.decide_rows.specs.Table.{stored_table}
use Rattle.decide_buffers.specs.Room.{model_room_lem, groups_room_lem}
use Rattle.longer_list.specs.Written.{put_at}
use Rattle.session_state.specs.declared.Head.{Head}

-- ---- the state
-- the numbers before those of the lines
abbrev pub head_size : ℕ
head_size = 3

-- how many numbers stand before the table
abbrev pub front_room : ℕ
front_room = head_size + line_size * max_lines

-- how many the table has
abbrev pub table_room_lem : ℕ → ℕ
table_room_lem n = 2 * n * (2 * n)

-- how many the model and the groups have
abbrev pub kept_room_lem : ℕ → ℕ
kept_room_lem n = model_room_lem n + groups_room_lem n

-- how many all of them have: what is known of the lines
unfoldable pub known_room : ℕ → ℕ
known_room n = table_room_lem n + kept_room_lem n

-- where the table ends
unfoldable pub table_end : ℕ → ℕ
table_end n = front_room + table_room_lem n

-- how many numbers a state of n variables has
unfoldable pub session_room_lem : ℕ → ℕ
session_room_lem n = front_room + known_room n

-- the number that says whether the last answer was a no
abbrev pub flag_of_lem : Bool → ℤ
flag_of_lem refused = cond refused (pos 1) (pos 0)

abbrev pub zeros : ℕ → List ℤ
zeros k = replicate k (pos 0)

-- how many of them are zeros behind k lines
unfoldable pub behind : ℕ → ℕ
behind k = line_size * (max_lines - k)

-- n, how many lines, whether the last answer was a no, the numbers of the lines in order, zeros behind
unfoldable pub front_of : ℕ → List Line → Bool → List ℤ
front_of n ls refused = pos n ∷ pos (length ls) ∷ flag_of_lem refused ∷ (numbers_of ls ++ zeros (behind (length ls)))

-- the lines that are known: all of them, or after a no those before the last
abbrev pub kept : List Line → Bool → List Line
kept ls refused = cond refused (take (length ls - 1) ls) ls

-- the distances of their steps, row v with those to v; no walk as the number that deciding has for it
abbrev pub table_for : ℕ → List Line → List ℤ
table_for n ls = stored_table (steps_of ls) (2 * n) (2 * n)

-- numbers of groups as those of a state
abbrev pub widened : List ℕ → List ℤ
widened = map pos

-- their model and groups
abbrev pub kept_for : ℕ → List Line → List ℤ
kept_for n ls = model_of n ls ++ widened (groups_of n ls)

-- all of these
unfoldable pub known_for : ℕ → List Line → List ℤ
known_for n ls = table_for n ls ++ kept_for n ls

-- the front, and what is known of the lines behind it
unfoldable pub state_of : ℕ → List Line → Bool → List ℤ
state_of n ls refused = front_of n ls refused ++ known_for n (kept ls refused)

-- ---- any numbers, read as a state
abbrev pub variables_in : List ℤ → ℕ
variables_in s = nat_abs (number s 0)

abbrev pub count_in : List ℤ → ℕ
count_in s = nat_abs (number s 1)

abbrev pub refused_in : List ℤ → Bool
refused_in s = not (eq_z (number s 2) (pos 0))

abbrev pub head_of : List ℤ → Head
head_of s = record { n = variables_in s; count = count_in s; refused = refused_in s }

-- the numbers of its lines
abbrev pub numbers_in : List ℤ → List ℤ
numbers_in s = take (line_size * count_in s) (drop head_size s)

-- and with those of one line more
abbrev pub numbers_with : List ℤ → Line → List ℤ
numbers_with s l = numbers_in s ++ line_numbers_lem l

-- its table
abbrev pub table_in : ℕ → List ℤ → List ℤ
table_in n s = take (table_end n - front_room) (drop front_room s)

-- all that is known of its lines
abbrev pub known_in : ℕ → List ℤ → List ℤ
known_in n s = take (session_room_lem n - front_room) (drop front_room s)

-- of this the table, and the model and the groups
abbrev pub table_of_known : ℕ → List ℤ → List ℤ
table_of_known n q = take (table_room_lem n) q

abbrev pub kept_of_known : ℕ → List ℤ → List ℤ
kept_of_known n q = drop (table_room_lem n) q

-- ---- whether they begin with a state, as far as the calls have to know it
unfoldable pub head_ok_lem : List ℤ → Bool
head_ok_lem s =
    leb head_size (length s)
    && (is_between (pos 0) (pos max_variables) (number s 0)
    && (is_between (pos 0) (pos max_lines) (number s 1)
    && (is_between (pos 0) (pos 1) (number s 2)
    && leb (session_room_lem (variables_in s)) (length s))))

-- z fits 32 bits
abbrev pub fits32 : ℤ → Bool
fits32 z = is_between (negsuc (2 ^ 31 - 1)) (pos (2 ^ 31 - 1)) z

unfoldable pub fit_all_lem : List ℤ → Bool
fit_all_lem [] = true
fit_all_lem (z ∷ zs) = fits32 z && fit_all_lem zs

unfoldable pub is_state_lem : List ℤ → Bool
is_state_lem s = head_ok_lem s && fit_all_lem (numbers_in s)

-- ---- what is written
-- where line number k begins
abbrev pub line_start : ℕ → ℕ
line_start k = head_size + line_size * k

-- the count of lines and the last answer
abbrev pub headed : ℕ → Bool → List ℤ → List ℤ
headed count refused s = set (set s 1 (pos count)) 2 (flag_of_lem refused)

-- n and zeros, before the table
unfoldable pub started : ℕ → List ℤ → List ℤ
started n s = set (zeros front_room ++ drop front_room s) 0 (pos n)

-- one line more
unfoldable pub pushed : List ℤ → Line → Bool → List ℤ
pushed s l refused = headed (count_in s + 1) refused (put_at (line_start (count_in s)) (line_numbers_lem l) s)

-- the last line is taken away
unfoldable pub popped : List ℤ → List ℤ
popped s = headed (count_in s - 1) false (put_at (line_start (count_in s - 1)) (zeros line_size) s)

-- something else is known
abbrev pub with_known : ℕ → List ℤ → List ℤ → List ℤ
with_known n s q = take front_room s ++ (q ++ drop (session_room_lem n - front_room) (drop front_room s))
