-- The refusals of a file in the specification's order, each at named bytes, as one table with one statement over it; and a version of reading that names
-- another one, with what breaks the promise.
use Rattle.file_records.specs.declared.FileRefusal.{FileRefusal}
use Rattle.file_list.specs.declared.Listed.{Listed}
use Rattle.std.specs.Prelude.{◌≡◌, refl, cond, List, [], ◌∷◌, ◌++◌, ℕ, suc, ◌-◌, ltb, length, Err, Ok, Result}
use Rattle.integers.specs.Laws.{never}
use Rattle.lines.specs.declared.Refusal.TheVariants.{BadCoefficient}
use Rattle.lines.specs.Limits.{line_size, max_variables}
use Rattle.lines.specs.Line.{line_at, line_numbers_lem, numbers_of}
use Rattle.lines.specs.Refusal.{line_tests, lines_validity_lem, validity_of}
use Rattle.file_records.specs.declared.FileRefusal.TheVariants.{Cut, UnknownKind, WrongLength, OutOfPlace, Trailing, NoRoom, NoIdentifier, List as OfList}
use Rattle.file_records.specs.declared.Cursor.{Cursor}
use Rattle.file_records.specs.Table.{kind_numbered, record_place}
use Rattle.file_records.specs.Scan.{start, next_record_lem, scan_from, scan}
use Rattle.file_list.specs.File.{line_in, file_list_lem}
use Rattle.file_list.specs.Read.{list_validity_lem, after_scan, read_answer}

-- the bytes of a file, the room of the list's buffer, and what the reader answers
pub record FileCase : Type 0 where
  pub bytes : List ℕ
  pub room : ℕ
  pub answer : Result Listed FileRefusal

abbrev pub AllRead : List FileCase → Type 0
AllRead [] = Unit {0}
AllRead (c ∷ cs) = (read_answer max_variables c.bytes c.room ≡ c.answer) × AllRead cs

-- ---- records
-- one variable
abbrev variable : List ℕ
variable = 4 ∷ 0 ∷ 1 ∷ 0 ∷ 1 ∷ 0 ∷ 0 ∷ 0 ∷ []

-- a line of coefficient a: for 1 it says x ≤ 5
abbrev line : ℕ → List ℕ
line a = 20 ∷ 0 ∷ 2 ∷ 0 ∷ a ∷ 0 ∷ 0 ∷ 0 ∷ 0 ∷ 0 ∷ 0 ∷ 0 ∷ 0 ∷ 0 ∷ 0 ∷ 0 ∷ 0 ∷ 0 ∷ 0 ∷ 0 ∷ 5 ∷ 0 ∷ 0 ∷ 0 ∷ []

-- x ≤ 5 with an identifier of one byte
abbrev identified : ℕ → List ℕ
identified i = 24 ∷ 0 ∷ 4 ∷ 0 ∷ 1 ∷ 0 ∷ 0 ∷ 0 ∷ 0 ∷ 0 ∷ 0 ∷ 0 ∷ 0 ∷ 0 ∷ 0 ∷ 0 ∷ 0 ∷ 0 ∷ 0 ∷ 0 ∷ 5 ∷ 0 ∷ 0 ∷ 0 ∷ i ∷ 0 ∷ 0 ∷ 0 ∷ []

abbrev end : List ℕ
end = 0 ∷ 0 ∷ 3 ∷ 0 ∷ []

-- ---- the table
abbrev reading : List ℕ → ℕ → Result Listed FileRefusal → FileCase
reading b room a = record { bytes = b; room = room; answer = a }

unfoldable pub file_cases : List FileCase
file_cases =
    -- 20: no header, a header cut, a body cut, no end
    reading [] 0 (Err (Cut 0))
    ∷ reading (4 ∷ 0 ∷ 1 ∷ []) 0 (Err (Cut 0))
    ∷ reading (4 ∷ 0 ∷ 1 ∷ 0 ∷ 1 ∷ 0 ∷ 0 ∷ []) 0 (Err (Cut 0))
    ∷ reading variable 0 (Err (Cut 8))
    -- 21
    ∷ reading (variable ++ 0 ∷ 0 ∷ 5 ∷ 0 ∷ []) 0 (Err (UnknownKind 8))
    -- 22, also where the body is cut
    ∷ reading (variable ++ 19 ∷ 0 ∷ 2 ∷ 0 ∷ []) line_size (Err (WrongLength 8))
    -- 23: no record of n comes first; a second one; also where there is no room, or the identifier is 0
    ∷ reading end 0 (Err (OutOfPlace 0))
    ∷ reading (variable ++ variable ++ end) 0 (Err (OutOfPlace 8))
    ∷ reading (line 1) 0 (Err (OutOfPlace 0))
    ∷ reading (identified 0) 0 (Err (OutOfPlace 0))
    -- 26, also where there is no room
    ∷ reading (variable ++ identified 0 ++ end) 0 (Err (NoIdentifier 8))
    -- 25
    ∷ reading (variable ++ line 1 ++ end) (line_size - 1) (Err (NoRoom 8))
    ∷ reading (variable ++ line 1 ++ identified 7 ++ end) line_size (Err (NoRoom 32))
    -- 24, also where a rule of the list is broken
    ∷ reading (variable ++ end ++ 0 ∷ []) 0 (Err (Trailing 12))
    ∷ reading (variable ++ line 2 ++ end ++ 0 ∷ []) line_size (Err (Trailing 36))
    -- the list's refusals go last
    ∷ reading (variable ++ line 2 ++ end) line_size (Err (OfList (BadCoefficient 0)))
    -- nothing is refused
    ∷ reading (variable ++ end) 0 (Ok (record { n = 1; lines = 0 }))
    ∷ reading (variable ++ line 1 ++ end) line_size (Ok (record { n = 1; lines = 1 }))
    ∷ []

infixr 20 ◌then◌
◌then◌ : {A B : Type 0} → A → B → A × B
a then b = (a, b)

pub all_read : AllRead file_cases
unfolding file_cases kind_numbered record_place next_record_lem scan_from scan line_in file_list_lem line_numbers_lem numbers_of list_validity_lem read_answer
    line_at line_tests lines_validity_lem validity_of
all_read =
    refl then refl then refl then refl
    then refl
    then refl
    then refl then refl then refl then refl
    then refl
    then refl then refl
    then refl then refl
    then refl
    then refl then refl
    then tt

-- ---- the reader's promise, of any version of it
abbrev KeepsRead : (ℕ → List ℕ → ℕ → Result Listed FileRefusal) → Type 0
KeepsRead f = (most : ℕ) (b : List ℕ) (room : ℕ) → f most b room ≡ read_answer most b room

-- it calls bytes after the end a cut record
abbrev cut_at_end : List ℕ → Result Cursor FileRefusal → Result Cursor FileRefusal
cut_at_end b (Ok c) = cond (ltb c.at (length b)) (Err (Cut c.at)) (Ok c)
cut_at_end b (Err r) = Err r

pub trailing_as_cut : ℕ → List ℕ → ℕ → Result Listed FileRefusal
trailing_as_cut most b room = after_scan most b (cut_at_end b (scan_from (suc (length b)) b room start))

pub trailing_as_cut_breaks : KeepsRead trailing_as_cut → ⊥
unfolding trailing_as_cut kind_numbered next_record_lem scan_from scan read_answer
trailing_as_cut_breaks k = let e : ◌≡◌ {A = Result Listed FileRefusal} (Err (Cut 12)) (Err (Trailing 12)) = k max_variables (variable ++ end ++ 0 ∷ []) 0 in never (cc)
