-- The number and the place that the specification gives each refusal of a file.
use Rattle.std.specs.Prelude.{ℕ}
use Rattle.lines.specs.declared.Numbered.{Numbered}
use Rattle.lines.specs.Refusal.{numbered_at, number_and_place}
use Rattle.file_records.specs.declared.FileRefusal.{FileRefusal}
use Rattle.file_records.specs.declared.FileRefusal.TheVariants.{Cut, UnknownKind, WrongLength, OutOfPlace, Trailing, NoRoom, NoIdentifier, List}

-- the place is the byte offset of the record, or the specification's of the list
abbrev pub file_number_and_place : FileRefusal → Numbered
file_number_and_place (Cut k) = numbered_at 20 k
file_number_and_place (UnknownKind k) = numbered_at 21 k
file_number_and_place (WrongLength k) = numbered_at 22 k
file_number_and_place (OutOfPlace k) = numbered_at 23 k
file_number_and_place (Trailing k) = numbered_at 24 k
file_number_and_place (NoRoom k) = numbered_at 25 k
file_number_and_place (NoIdentifier k) = numbered_at 26 k
file_number_and_place (List r) = number_and_place r

abbrev pub file_number : FileRefusal → ℕ
file_number r = (file_number_and_place r).number

abbrev pub file_place : FileRefusal → ℕ
file_place r = (file_number_and_place r).place
