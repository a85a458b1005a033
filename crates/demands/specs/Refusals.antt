-- The specification's table of refusals: when each applies, in the order in which they go, and what it is to be the first that applies.
-- The number and the place of each are `number_of` and `place_of` (lines/specs/Refusal.antt); the rooms of the lent buffers, with their refusals 7 and 8 in
-- their order, are `lent_rooms_by` the room of an engine's work area (decide_buffers/specs/Room.antt).
use Rattle.std.specs.Prelude.{◌≡◌, ◌⊎◌, List, [], ◌∷◌, ◌++◌, ℕ, zero, suc, ◌+◌, ◌*◌, ◌%◌, ◌<◌, ◌≤◌, ℤ, pos, neg_ℤ, length, Err}
use Rattle.integers.specs.Integer.{◌⩽◌, ◌⋖◌}
use Rattle.lines.specs.declared.Line.{Line}
use Rattle.lines.specs.declared.Refusal.{Refusal}
use Rattle.lines.specs.declared.Refusal.TheVariants.{TooManyVariables, BrokenLength, TooManyLines, BadCoefficient, BadVariable, MisplacedCoefficient, BadConstant, BadIdentifier, ShortWorkArea, WrongModelLength, BadValue, LongRefutation, NotDifference}
use Rattle.lines.specs.Limits.{line_size, max_variables, max_lines, max_constant, max_identifier, max_value, max_refutation}
use Rattle.lines.specs.Line.{number, line_at, line_count}
use Rattle.little_endian.specs.Bytes.{int32s, int64s}
use Rattle.check_answers.specs.declared.CheckAnswer.TheVariants as check
use Rattle.decide_buffers.specs.declared.Lengths.{Lengths}
use Rattle.decide_buffers.specs.Room.{Lent, lengths_of, Room, work_room_lem, differences_work_room_lem, lent_rooms_by, lent_rooms}
use Rattle.check_model.specs.Model.{model_answer}
use Rattle.check_refutation.specs.Answer.{refutation_answer}
use Rattle.decide.specs.declared.Answer.TheVariants as decide
use Rattle.decide.specs.Decided.{answer_for}
use Rattle.differences.specs.Decided.{differences_answer_for}
use Rattle.implied_pair.specs.Pair.{pair_call}
use Rattle.c_codes.specs.CheckCode.{check_code_lem}
use Rattle.c_codes.specs.ListBytes.{number_bytes}
use Rattle.c_checking.specs.Calls.{value_bytes, model_of_bytes, refutation_of_bytes, check_model_lem, check_refutation_lem}
use Rattle.c_deciding.specs.Calls.{decide_code_lem}
use Rattle.c_implied.specs.Calls.{outcome_code_lem}

-- What is asked, for n variables: to decide a list, with these lent buffers; the same of a list of differences, of the engine for these; what two variables
-- of a list imply about each other, with this work area; to check a model of a list, or a refutation; and from C both checks on bytes.
pub data Asked : Type 0 where
  deciding : (n : ℕ) (list : List ℤ) (lent : Lent) → Asked
  deciding_differences : (n : ℕ) (list : List ℤ) (lent : Lent) → Asked
  asking_pair : (n : ℕ) (list : List ℤ) (x y : ℕ) (work : List ℤ) → Asked
  checking_model : (n : ℕ) (list values : List ℤ) → Asked
  checking_refutation : (n : ℕ) (list : List ℤ) (numbers : List ℕ) → Asked
  checking_model_bytes : (n : ℕ) (list values : List ℕ) → Asked
  checking_refutation_bytes : (n : ℕ) (list numbers : List ℕ) → Asked

-- ---- when a number of a line, or a value, is wrong
abbrev pub IsCoefficient : ℤ → Type 0
IsCoefficient c = (c ≡ neg_ℤ (pos 1)) ⊎ (c ≡ pos 0) ⊎ (c ≡ pos 1)

-- coefficient not 0 and variable number below 0 or at least n; or coefficient 0 and number not 0
abbrev pub WrongVariable : ℕ → ℤ → ℤ → Type 0
WrongVariable n a x = ((a ≡ pos 0 → ⊥) × ((x ⋖ pos 0) ⊎ (pos n ⩽ x))) ⊎ ((a ≡ pos 0) × (x ≡ pos 0 → ⊥))

-- the first coefficient is 0, and the second is not
abbrev pub LoneSecond : Line → Type 0
LoneSecond l = (l.a ≡ pos 0) × (l.b ≡ pos 0 → ⊥)

-- one coefficient is 1 and the other -1, in either order; the variables may be the same
abbrev pub IsDifference : Line → Type 0
IsDifference l = ((l.a ≡ pos 1) × (l.b ≡ neg_ℤ (pos 1))) ⊎ ((l.a ≡ neg_ℤ (pos 1)) × (l.b ≡ pos 1))

-- below -m or above m
abbrev pub Outside : ℕ → ℤ → Type 0
Outside m z = (z ⋖ neg_ℤ (pos m)) ⊎ (pos m ⋖ z)

-- below 0 or above the greatest identifier
abbrev pub WrongIdentifier : ℤ → Type 0
WrongIdentifier i = (i ⋖ pos 0) ⊎ (pos max_identifier ⋖ i)

-- ---- the table
pub record Row : Type 1 where
  pub refusal : Refusal
  pub condition : Type 0

infix 68 ◌when◌
abbrev pub ◌when◌ : Refusal → Type 0 → Row
r when c = record { refusal = r; condition = c }

-- the rows for k, for k + 1, and so on: count times
abbrev pub rows_from : ℕ → ℕ → (ℕ → List Row) → List Row
rows_from k zero rows = []
rows_from k (suc count) rows = rows k ++ rows_from (k + 1) count rows

-- within a line 4, 5, 12, 6, 13, with a limit for d
abbrev pub table_within : ℕ → ℕ → ℕ → Line → List Row
table_within most n k l =
    BadCoefficient k when ((IsCoefficient l.a → ⊥) ⊎ (IsCoefficient l.b → ⊥))
    ∷ BadVariable k when (WrongVariable n l.a l.x ⊎ WrongVariable n l.b l.y)
    ∷ MisplacedCoefficient k when LoneSecond l
    ∷ BadConstant k when Outside most l.d
    ∷ BadIdentifier k when WrongIdentifier l.identifier
    ∷ []

-- of a list's lines
abbrev pub line_table : ℕ → ℕ → Line → List Row
line_table n k l = table_within max_constant n k l

-- 3; then lines from the first
abbrev pub lines_table : ℕ → List ℤ → List Row
lines_table n L = TooManyLines when (max_lines < line_count L) ∷ rows_from 0 (line_count L) (λ k. line_table n k (line_at L k))

-- 1, 2, 3; then lines from the first
abbrev pub list_table : ℕ → List ℤ → List Row
list_table n L = TooManyVariables when (max_variables < n) ∷ BrokenLength when (length L % line_size ≡ 0 → ⊥) ∷ lines_table n L

-- 60: lines from the first
abbrev pub differences_table : List ℤ → List Row
differences_table L = rows_from 0 (line_count L) (λ k. NotDifference k when (IsDifference (line_at L k) → ⊥) ∷ [])

-- list bytes that are no multiple of a line's give 2
abbrev pub bytes_table : ℕ → List ℕ → List Row
bytes_table n b = TooManyVariables when (max_variables < n) ∷ BrokenLength when (length b % (number_bytes * line_size) ≡ 0 → ⊥) ∷ lines_table n (int32s b)

-- 10: values from the first
abbrev pub values_table : List ℤ → List Row
values_table m = rows_from 0 (length m) (λ k. BadValue k when Outside max_value (number m k) ∷ [])

-- 7, 8: a lent buffer is shorter than its room
abbrev pub rooms_table : List Room → ℕ → Lengths → List Row
rooms_table [] n s = []
rooms_table (r ∷ rs) n s = r.refusal when (r.size s < r.room n) ∷ rooms_table rs n s

-- 5, at place 0 for x and at place 1 for y: a variable that the list has not; then 8
abbrev pub pair_table : ℕ → ℕ → ℕ → ℕ → List Row
pair_table n x y size = BadVariable 0 when (n ≤ x) ∷ BadVariable 1 when (n ≤ y) ∷ ShortWorkArea when (size < work_room_lem n) ∷ []

-- then 7, 8 for deciding, 60, 7, 8 for deciding differences, 5, 8 for a pair, 9, 10 for a model, 11 for a refutation
abbrev pub refusal_table : Asked → List Row
refusal_table (deciding n L lent) = list_table n L ++ rooms_table lent_rooms n (lengths_of lent)
refusal_table (deciding_differences n L lent) = list_table n L ++ (differences_table L ++ rooms_table (lent_rooms_by differences_work_room_lem) n (lengths_of lent))
refusal_table (asking_pair n L x y w) = list_table n L ++ pair_table n x y (length w)
refusal_table (checking_model n L m) = list_table n L ++ WrongModelLength when (length m ≡ n → ⊥) ∷ values_table m
refusal_table (checking_refutation n L R) = list_table n L ++ LongRefutation when (max_refutation < length R) ∷ []
refusal_table (checking_model_bytes n b m) = bytes_table n b ++ WrongModelLength when (length m ≡ value_bytes * n → ⊥) ∷ values_table (int64s m)
refusal_table (checking_refutation_bytes n b R) = bytes_table n b ++ LongRefutation when (number_bytes * max_refutation < length R) ∷ []

-- ---- the first that applies
abbrev pub NoneApplies : List Row → Type 0
NoneApplies [] = Unit {0}
NoneApplies (row ∷ rows) = (row.condition → ⊥) × NoneApplies rows

-- the condition of r holds, and none that goes before does
pub record FirstApplies (rows : List Row) (r : Refusal) : Type 1 where
  pub before : List Row
  pub condition : Type 0
  pub after : List Row
  pub stands : rows ≡ before ++ r when condition ∷ after
  pub applies : condition
  pub none_before : NoneApplies before

-- ---- what is answered
abbrev pub IsRefused : Asked → Refusal → Type 0
IsRefused (deciding n L lent) r = answer_for n L lent ≡ Err r
IsRefused (deciding_differences n L lent) r = differences_answer_for n L lent ≡ Err r
IsRefused (asking_pair n L x y w) r = (pair_call n L x y w).answer ≡ Err r
IsRefused (checking_model n L m) r = model_answer n L m ≡ Err r
IsRefused (checking_refutation n L R) r = refutation_answer n L R ≡ Err r
IsRefused (checking_model_bytes n b m) r = model_of_bytes n b m ≡ Err r
IsRefused (checking_refutation_bytes n b R) r = refutation_of_bytes n b R ≡ Err r

-- the number that stands for the answer in C
abbrev pub returned : Asked → ℤ
returned (deciding n L lent) = decide_code_lem (answer_for n L lent)
returned (deciding_differences n L lent) = decide_code_lem (differences_answer_for n L lent)
returned (asking_pair n L x y w) = outcome_code_lem (pair_call n L x y w).answer
returned (checking_model n L m) = check_code_lem (model_answer n L m)
returned (checking_refutation n L R) = check_code_lem (refutation_answer n L R)
returned (checking_model_bytes n b m) = check_model_lem n b m
returned (checking_refutation_bytes n b R) = check_refutation_lem n b R
