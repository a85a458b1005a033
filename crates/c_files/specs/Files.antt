-- What the exported functions return for files: a struct for each answer, and what the buffers hold after; where no refusal is returned, what was
-- written is read back and what was read is written again.
use Rattle.std.specs.Prelude.{◌≡◌, refl, List, ◌++◌, ℕ, ◌*◌, ◌≤◌, ℤ, length, take, drop, Err, Ok, Result}
use Rattle.std.proofs.Common.{sym, ap, subst, ◌∙◌, arith}
use Rattle.lines.specs.Limits.{line_size, max_variables}
use Rattle.lines.specs.Line.{line_count}
use Rattle.lines.specs.Numbers.{number_some}
use Rattle.little_endian.specs.Bytes.{AreBytes}
use Rattle.file_records.specs.declared.FileRefusal.{FileRefusal}
use Rattle.file_records.specs.declared.FileRefusal.TheVariants.{Cut, UnknownKind, WrongLength, OutOfPlace, Trailing, NoRoom, NoIdentifier, List as OfList}
use Rattle.file_records.specs.Refusal.{file_number, file_place}
use Rattle.file_list.specs.declared.Listed.{Listed}
use Rattle.file_list.specs.Read.{read_answer, ReadDone}
use Rattle.file_list.specs.Read as reading
use Rattle.file_list.specs.Write.{write_answer, WriteDone}
use Rattle.file_list.specs.Write as writing
use Rattle.file_list.specs.Calls.{write_then_read, read_then_write}
use Rattle.c_files.specs.declared.FileRead.{FileRead}
use Rattle.c_files.specs.declared.FileWritten.{FileWritten}

abbrev pub file_read : Result Listed FileRefusal → FileRead
file_read (Ok z) = record { refusal = 0; place = 0; n = z.n; lines = z.lines }
file_read (Err r) = record { refusal = file_number r; place = file_place r; n = 0; lines = 0 }

abbrev pub file_written : Result ℕ FileRefusal → FileWritten
file_written (Ok k) = record { refusal = 0; place = 0; bytes = k }
file_written (Err r) = record { refusal = file_number r; place = file_place r; bytes = 0 }

-- b is what the buffer held before, a what it holds after
pub record ReadReturns (bytes : List ℕ) (returned : FileRead) (b a : List ℤ) : Type 0 where
  pub is : returned ≡ file_read (read_answer max_variables bytes (length b))
  pub leaves : reading.Leaves bytes (read_answer max_variables bytes (length b)) b a

pub record WriteReturns (n : ℕ) (L : List ℤ) (returned : FileWritten) (b a : List ℕ) : Type 0 where
  pub is : returned ≡ file_written (write_answer n L (length b))
  pub leaves : writing.Leaves n L (write_answer n L (length b)) b a

pub read_returns : {bytes : List ℕ} {answer : Result Listed FileRefusal} {b a : List ℤ} → ReadDone max_variables bytes answer b a → (returned : FileRead) → returned ≡ file_read answer → ReadReturns bytes returned b a
read_returns {bytes} {answer} {b} {a} d returned e =
    record { is = e ∙ ap file_read d.is; leaves = subst (λ (x : Result Listed FileRefusal). reading.Leaves bytes x b a) d.is d.leaves }

pub write_returns : {n : ℕ} {L : List ℤ} {answer : Result ℕ FileRefusal} {b a : List ℕ} → WriteDone n L answer b a → (returned : FileWritten) → returned ≡ file_written answer → WriteReturns n L returned b a
write_returns {n} {L} {answer} {b} {a} d returned e =
    record { is = e ∙ ap file_written d.is; leaves = subst (λ (x : Result ℕ FileRefusal). writing.Leaves n L x b a) d.is d.leaves }

-- ---- a returned refusal of 0 is none
refusal_some : (r : FileRefusal) → file_number r ≡ 0 → ⊥
refusal_some (Cut k) e = omega arith
refusal_some (UnknownKind k) e = omega arith
refusal_some (WrongLength k) e = omega arith
refusal_some (OutOfPlace k) e = omega arith
refusal_some (Trailing k) e = omega arith
refusal_some (NoRoom k) e = omega arith
refusal_some (NoIdentifier k) e = omega arith
refusal_some (OfList r) e = omega (arith, number_some r)

-- n and the number of lines, as returned
abbrev listed : FileRead → Listed
listed r = record { n = r.n; lines = r.lines }

read_done : {bytes : List ℕ} {returned : FileRead} {b a : List ℤ} → ReadReturns bytes returned b a → returned.refusal ≡ 0 → ReadDone max_variables bytes (Ok (listed returned)) b a
read_done {bytes} {returned} {b} {a} r e = go (read_answer max_variables bytes (length b)) refl r.is r.leaves
  where
    go : (x : Result Listed FileRefusal) → read_answer max_variables bytes (length b) ≡ x → returned ≡ file_read x → reading.Leaves bytes x b a → ReadDone max_variables bytes (Ok (listed returned)) b a
    go (Ok z) q i l = rw i (record { is = sym q; leaves = l })
    go (Err s) q i l = absurd (refusal_some s (sym (ap (λ (x : FileRead). x.refusal) i) ∙ e))

write_done : {n : ℕ} {L : List ℤ} {returned : FileWritten} {b a : List ℕ} → WriteReturns n L returned b a → returned.refusal ≡ 0 → WriteDone n L (Ok returned.bytes) b a
write_done {n} {L} {returned} {b} {a} w e = go (write_answer n L (length b)) refl w.is w.leaves
  where
    go : (x : Result ℕ FileRefusal) → write_answer n L (length b) ≡ x → returned ≡ file_written x → writing.Leaves n L x b a → WriteDone n L (Ok returned.bytes) b a
    go (Ok k) q i l = rw i (record { is = sym q; leaves = l })
    go (Err s) q i l = absurd (refusal_some s (sym (ap (λ (x : FileWritten). x.refusal) i) ∙ e))

-- ---- one call after the other
pub returned_read_back : (n : ℕ) (L : List ℤ) (w : FileWritten) (b a : List ℕ) (r : FileRead) (before after : List ℤ)
    → WriteReturns n L w b a → w.refusal ≡ 0 → ReadReturns (take w.bytes a) r before after → length L ≤ length before
    → (r ≡ record { refusal = 0; place = 0; n = n; lines = line_count L }) × (after ≡ L ++ drop (length L) before)
returned_read_back n L w b a r before after d e g h =
    let k = write_then_read n L w.bytes b a _ before after (write_done d e) (record { is = refl; leaves = g.leaves }) h in
    (g.is ∙ ap file_read k.0, k.1)

pub returned_written_again : (bytes : List ℕ) (r : FileRead) (before after : List ℤ) (w : FileWritten) (b a : List ℕ)
    → AreBytes bytes → ReadReturns bytes r before after → r.refusal ≡ 0 → WriteReturns r.n (take (line_size * r.lines) after) w b a → length bytes ≤ length b
    → (w ≡ record { refusal = 0; place = 0; bytes = length bytes }) × (a ≡ bytes ++ drop (length bytes) b)
returned_written_again bytes r before after w b a bs d e g h =
    let k = read_then_write max_variables bytes (listed r) before after _ b a bs (read_done d e) (record { is = refl; leaves = g.leaves }) h in
    (g.is ∙ ap file_written k.0, k.1)
