-- What writing a file answers and leaves in the lent buffer, for every input.
use Rattle.lines.specs.declared.Refusal.{Refusal}
use Rattle.file_records.specs.declared.FileRefusal.{FileRefusal}
use Rattle.std.specs.Prelude.{◌≡◌, cond, List, ◌++◌, ℕ, ltb, ℤ, length, drop, Err, Ok, Result}
use Rattle.lines.specs.Refusal.{validity_of}
use Rattle.file_records.specs.declared.FileRefusal.TheVariants.{NoRoom, List as OfList}
use Rattle.file_list.specs.File.{file_size_lem, file_of}

abbrev pub unless_refused : Result Unit Refusal → Result ℕ FileRefusal → Result ℕ FileRefusal
unless_refused (Ok _) a = a
unless_refused (Err r) a = Err (OfList r)

-- the list's refusals; then 25 with place 0; then how many bytes are written
unfoldable pub write_answer : ℕ → List ℤ → ℕ → Result ℕ FileRefusal
write_answer n L room = unless_refused (validity_of n L) (cond (ltb room (file_size_lem L)) (Err (NoRoom 0)) (Ok (file_size_lem L)))

-- b is what the buffer held before, a what it holds after
abbrev pub Leaves : ℕ → List ℤ → Result ℕ FileRefusal → List ℕ → List ℕ → Type 0
Leaves n L (Ok k) b a = a ≡ file_of n L ++ drop k b
Leaves n L (Err r) b a = a ≡ b

pub record WriteDone (n : ℕ) (L : List ℤ) (answer : Result ℕ FileRefusal) (b a : List ℕ) : Type 0 where
  pub is : answer ≡ write_answer n L (length b)
  pub leaves : Leaves n L answer b a
