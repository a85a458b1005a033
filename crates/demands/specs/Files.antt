-- What was demanded of files and of the program that reports on one, in the words of docs/SPECIFICATION.md, each statement proved by citing the rest.
use Rattle.file_records.specs.declared.FileRefusal.{FileRefusal}
use Rattle.std.specs.Prelude.{◌≡◌, refl, ◌↔◌, List, [], ◌∷◌, ◌++◌, ℕ, ◌*◌, ◌<◌, ◌≤◌, ℤ, pos, length, drop, take, Ok, Result}
use Rattle.std.proofs.Common.{ap}
use Rattle.lines.specs.Limits.{line_size, max_variables}
use Rattle.lines.specs.Line.{line_numbers_lem, line_at, line_count}
use Rattle.lines.specs.Terms.{SameTerms, list_by_terms}
use Rattle.little_endian.specs.Bytes.{AreBytes}
use Rattle.little_endian.specs.Writing.{bytes_of}
use Rattle.theory_answers.specs.Semantics.{Written}
use Rattle.file_list.specs.declared.Listed.{Listed}
use Rattle.file_list.specs.File.{file_of, file_list_lem, line_records, line_body}
use Rattle.file_list.specs.Read.{read_answer, ReadDone}
use Rattle.file_list.specs.Write.{WriteDone}
use Rattle.file_list.specs.Bytes.{file_bytes}
use Rattle.file_list.specs.Back.{OneFile, read_written, list_in_file, written_read, one_file, one_list}
use Rattle.c_files.specs.Files.{ReadReturns, WriteReturns, returned_read_back, returned_written_again}
use Rattle.file_list.specs.Calls.{write_then_read, read_then_write}
use Rattle.c_files.specs.declared.FileRead.{FileRead}
use Rattle.c_files.specs.declared.FileWritten.{FileWritten}
use Rattle.file_text.specs.Text.{refused_text}
use Rattle.file_report.specs.Report.{most_variables, most_lines, Reported, Decided as DecidedText}
use Rattle.file_report.specs.Input.{input_size, front_enough}
use Rattle.demands.specs.FileVersions.{AllRead, file_cases, all_read}
use Rattle.demands.specs.Program.{within_decided, beyond_refused}
use Rattle.demands.specs.Demands.{ValidFor}

-- ---- files

-- Reading what was written gives n and the list back.
pub written_is_read_back : (n : ℕ) (L : List ℤ) → ValidFor n L → (most room : ℕ) → n ≤ most → length L ≤ room
    → (read_answer most (file_of n L) room ≡ Ok (record { n = n; lines = line_count L })) × (file_list_lem (file_of n L) (line_count L) ≡ L)
written_is_read_back n L v most room h k = (written_read n L v most room h k, list_in_file n L v)

-- Whatever is read is the list of valid lines whose one file these bytes are.
pub read_is_written_again : (most : ℕ) (b : List ℕ) (room : ℕ) (z : Listed) → AreBytes b → read_answer most b room ≡ Ok z
    → ValidFor z.n (file_list_lem b z.lines) × (file_of z.n (file_list_lem b z.lines) ≡ b)
read_is_written_again most b room z h e = read_written most b room z h e

-- So every slice of bytes is refused or is the one file of its list, and two lists never have one file.
pub refused_or_one_file : (most : ℕ) (b : List ℕ) (room : ℕ) → AreBytes b → OneFile most b room
refused_or_one_file most b room h = one_file most b room h

pub one_list_of_a_file : (n m : ℕ) (L M : List ℤ) → ValidFor n L → ValidFor m M → file_of n L ≡ file_of m M → (n ≡ m) × (L ≡ M)
one_list_of_a_file n m L M v w e = one_list n m L M v w e

-- So every identifier is read back, all its bits, and lists that differ in one have different files.
pub identifiers_read_back : (n : ℕ) (L : List ℤ) → ValidFor n L → (k : ℕ) → (line_at (file_list_lem (file_of n L) (line_count L)) k).identifier ≡ (line_at L k).identifier
identifiers_read_back n L v k = ap (λ (M : List ℤ). (line_at M k).identifier) (list_in_file n L v)

pub other_identifier_other_file : (n : ℕ) (L M : List ℤ) → ValidFor n L → ValidFor n M → (k : ℕ) → ((line_at L k).identifier ≡ (line_at M k).identifier → ⊥) → file_of n L ≡ file_of n M → ⊥
other_identifier_other_file n L M v w k h e = h (ap (λ (N : List ℤ). (line_at N k).identifier) (one_list n n L M v w e).1)

-- Two tools that mean the same terms in the same order, line by line, write the same numbers and the same file.
pub same_terms_same_file : (n : ℕ) (L M : List ℤ) → ValidFor n L → ValidFor n M → SameTerms L M → (L ≡ M) × (file_of n L ≡ file_of n M)
same_terms_same_file n L M v w same = let e = list_by_terms n n L M v w same in (e, ap (file_of n) e)

-- What a call of the writer wrote, a call of the reader reads back into any buffer with room: n and the list, and what lies beyond it is untouched.
pub written_then_read : (n : ℕ) (L : List ℤ) (k : ℕ) (b a : List ℕ) (answer : Result Listed FileRefusal) (before after : List ℤ)
    → WriteDone n L (Ok k) b a → ReadDone max_variables (take k a) answer before after → length L ≤ length before
    → (answer ≡ Ok (record { n = n; lines = line_count L })) × (after ≡ L ++ drop (length L) before)
written_then_read = write_then_read

-- What a call of the reader read, a call of the writer writes again as the same bytes.
pub read_then_written : (most : ℕ) (bytes : List ℕ) (z : Listed) (before after : List ℤ) (answer : Result ℕ FileRefusal) (b a : List ℕ)
    → AreBytes bytes → ReadDone most bytes (Ok z) before after → WriteDone z.n (take (line_size * z.lines) after) answer b a → length bytes ≤ length b
    → (answer ≡ Ok (length bytes)) × (a ≡ bytes ++ drop (length bytes) b)
read_then_written = read_then_write

-- The same of what the exported functions return, where the refusal that they return is 0.
pub returned_file_is_read_back : (n : ℕ) (L : List ℤ) (w : FileWritten) (b a : List ℕ) (r : FileRead) (before after : List ℤ)
    → WriteReturns n L w b a → w.refusal ≡ 0 → ReadReturns (take w.bytes a) r before after → length L ≤ length before
    → (r ≡ record { refusal = 0; place = 0; n = n; lines = line_count L }) × (after ≡ L ++ drop (length L) before)
returned_file_is_read_back = returned_read_back

pub returned_list_is_written_again : (bytes : List ℕ) (r : FileRead) (before after : List ℤ) (w : FileWritten) (b a : List ℕ)
    → AreBytes bytes → ReadReturns bytes r before after → r.refusal ≡ 0 → WriteReturns r.n (take (line_size * r.lines) after) w b a → length bytes ≤ length b
    → (w ≡ record { refusal = 0; place = 0; bytes = length bytes }) × (a ≡ bytes ++ drop (length bytes) b)
returned_list_is_written_again = returned_written_again

-- The refusals of files, each at named bytes, in the specification's order: one table, one statement over it.
pub file_cases_law : AllRead file_cases
file_cases_law = all_read

-- A file is bytes: each is below 256.
pub a_file_is_bytes : (n : ℕ) (L : List ℤ) → AreBytes (file_of n L)
a_file_is_bytes n L = file_bytes n L

-- One variable with x ≤ 5 is, whole, these 36 bytes.
pub the_file_of_x_at_most_5 : file_of 1 (pos 1 ∷ pos 0 ∷ pos 0 ∷ pos 0 ∷ pos 5 ∷ pos 0 ∷ [])
    ≡ 4 ∷ 0 ∷ 1 ∷ 0 ∷ 1 ∷ 0 ∷ 0 ∷ 0
    ∷ 20 ∷ 0 ∷ 2 ∷ 0 ∷ 1 ∷ 0 ∷ 0 ∷ 0 ∷ 0 ∷ 0 ∷ 0 ∷ 0 ∷ 0 ∷ 0 ∷ 0 ∷ 0 ∷ 0 ∷ 0 ∷ 0 ∷ 0 ∷ 5 ∷ 0 ∷ 0 ∷ 0
    ∷ 0 ∷ 0 ∷ 3 ∷ 0 ∷ []
unfolding file_of line_records line_body line_numbers_lem bytes_of line_at
the_file_of_x_at_most_5 = refl

-- And of a message with identifier 0x18DA10F1 these 40.
pub the_file_with_an_identifier : file_of 1 (pos 1 ∷ pos 0 ∷ pos 0 ∷ pos 0 ∷ pos 5 ∷ pos 416_944_369 ∷ [])
    ≡ 4 ∷ 0 ∷ 1 ∷ 0 ∷ 1 ∷ 0 ∷ 0 ∷ 0
    ∷ 24 ∷ 0 ∷ 4 ∷ 0 ∷ 1 ∷ 0 ∷ 0 ∷ 0 ∷ 0 ∷ 0 ∷ 0 ∷ 0 ∷ 0 ∷ 0 ∷ 0 ∷ 0 ∷ 0 ∷ 0 ∷ 0 ∷ 0 ∷ 5 ∷ 0 ∷ 0 ∷ 0 ∷ 241 ∷ 16 ∷ 218 ∷ 24
    ∷ 0 ∷ 0 ∷ 3 ∷ 0 ∷ []
unfolding file_of line_records line_body line_numbers_lem bytes_of line_at
the_file_with_an_identifier = refl

-- ---- the program

-- It judges every input as if it had read it whole: what it prints depends on no more than the first `input_size` bytes.
pub reads_enough : (k : ℕ) → input_size ≤ k → (b T : List ℕ) → Reported (take k b) T ↔ Reported b T
reads_enough k h b T = front_enough k h b T

-- For the file of a valid list within its limits it prints what deciding that list gives.
pub decides_within_its_limits : (n : ℕ) (L : List ℤ) → ValidFor n L → line_count L ≤ most_lines → n ≤ most_variables → (T : List ℕ) → Reported (file_of n L) T ↔ DecidedText n L T
decides_within_its_limits n L v lines few = within_decided n L v lines few

-- For one of more variables it prints that it is refused as 1.
pub refuses_more_variables : (n : ℕ) (L : List ℤ) → ValidFor n L → line_count L ≤ most_lines → most_variables < n → (T : List ℕ) → Reported (file_of n L) T → T ≡ refused_text 1 0
refuses_more_variables n L v lines many T = beyond_refused n L v lines many
