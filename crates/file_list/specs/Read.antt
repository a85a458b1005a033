-- What reading a file answers and leaves in the lent buffer, for every input.
use Rattle.lines.specs.declared.Refusal.{Refusal}
use Rattle.file_records.specs.declared.FileRefusal.{FileRefusal}
use Rattle.file_list.specs.declared.Listed.{Listed}
use Rattle.std.specs.Prelude.{◌≡◌, List, ◌++◌, ℕ, ◌*◌, ltb, ℤ, length, drop, Err, Ok, Result}
use Rattle.lines.specs.declared.Refusal.TheVariants.{TooManyVariables}
use Rattle.lines.specs.Limits.{line_size}
use Rattle.lines.specs.Refusal.{◌or_else◌, refuse_if, validity_of}
use Rattle.file_records.specs.declared.FileRefusal.TheVariants.{List as OfList}
use Rattle.file_records.specs.declared.Cursor.{Cursor}
use Rattle.file_records.specs.Scan.{scan}
use Rattle.file_list.specs.File.{file_list_lem}

-- 1, with a limit of one's own; then the list's refusals
unfoldable pub list_validity_lem : ℕ → ℕ → List ℤ → Result Unit Refusal
list_validity_lem most n L = refuse_if (ltb most n) TooManyVariables or_else validity_of n L

abbrev pub unless_refused : Result Unit Refusal → Result Listed FileRefusal → Result Listed FileRefusal
unless_refused (Ok _) a = a
unless_refused (Err r) a = Err (OfList r)

-- the file's refusals go first
abbrev pub after_scan : ℕ → List ℕ → Result Cursor FileRefusal → Result Listed FileRefusal
after_scan most b (Ok c) = unless_refused (list_validity_lem most c.n (file_list_lem b c.lines)) (Ok (record { n = c.n; lines = c.lines }))
after_scan most b (Err r) = Err r

-- the buffer is given by its length
unfoldable pub read_answer : ℕ → List ℕ → ℕ → Result Listed FileRefusal
read_answer most b room = after_scan most b (scan b room)

-- b is what the buffer held before, a what it holds after
abbrev pub Leaves : List ℕ → Result Listed FileRefusal → List ℤ → List ℤ → Type 0
Leaves bytes (Ok z) b a = a ≡ file_list_lem bytes z.lines ++ drop (line_size * z.lines) b
Leaves bytes (Err r) b a = a ≡ b

pub record ReadDone (most : ℕ) (bytes : List ℕ) (answer : Result Listed FileRefusal) (b a : List ℤ) : Type 0 where
  pub is : answer ≡ read_answer most bytes (length b)
  pub leaves : Leaves bytes answer b a
