-- One call after the other: what the writer wrote is read back, and what the reader read is written again as the same bytes.
use Rattle.lines.specs.declared.Refusal.{Refusal}
use Rattle.file_records.specs.declared.FileRefusal.{FileRefusal}
use Rattle.std.specs.Prelude.{◌≡◌, refl, Bool, cond, List, ◌++◌, ℕ, ◌*◌, ◌≤◌, ltb, ℤ, length, take, drop, Err, Ok, Result}
use Rattle.std.proofs.Common.{sym, ap, subst, ◌∙◌, arith, take_at}
use Rattle.std.proofs.Math.Bool.{true, false}
use borrow.Author.Tests.{le-ltb}
use Rattle.integers.specs.Laws.{never}
use Rattle.lines.specs.Limits.{line_size, max_variables}
use Rattle.lines.specs.Line.{line_count}
use Rattle.lines.specs.Refusal.{validity_of}
use Rattle.lines.specs.Valid.{valid_list}
use Rattle.little_endian.specs.Bytes.{AreBytes}
use Rattle.file_records.specs.declared.FileRefusal.TheVariants.{NoRoom}
use Rattle.file_list.specs.declared.Listed.{Listed}
use Rattle.file_list.specs.File.{file_of, file_list_lem, file_size_lem}
use Rattle.file_list.specs.Read as reading
use Rattle.file_list.specs.Read.{ReadDone}
use Rattle.file_list.specs.Write as writing
use Rattle.file_list.specs.Write.{write_answer, WriteDone}
use Rattle.file_list.specs.Bytes.{length_file}
use Rattle.file_list.specs.Layout.{length_file_list}
use Rattle.file_list.specs.Back.{read_written, list_in_file, written_read}

-- ---- what the writer's answer says of the list
module _ (n : ℕ) (L : List ℤ) (room : ℕ) where
  written_valid : (k : ℕ) → write_answer n L room ≡ Ok k → (validity_of n L ≡ Ok tt) × (k ≡ file_size_lem L)
  unfolding write_answer
  written_valid k = go (validity_of n L) (ltb room (file_size_lem L))
    where
      go : (v : Result Unit Refusal) (t : Bool) → writing.unless_refused v (cond t (Err (NoRoom 0)) (Ok (file_size_lem L))) ≡ Ok k → (v ≡ Ok tt) × (k ≡ file_size_lem L)
      go (Ok _) true e = never (cc)
      go (Ok _) false e = (refl, cc)
      go (Err r) t e = never (cc)

  valid_written : validity_of n L ≡ Ok tt → file_size_lem L ≤ room → write_answer n L room ≡ Ok (file_size_lem L)
  unfolding write_answer
  valid_written v h = rw (v, le-ltb room (file_size_lem L) h)

-- ---- written, then read: into any buffer with room
pub write_then_read : (n : ℕ) (L : List ℤ) (k : ℕ) (b a : List ℕ) (answer : Result Listed FileRefusal) (before after : List ℤ)
    → WriteDone n L (Ok k) b a → ReadDone max_variables (take k a) answer before after → length L ≤ length before
    → (answer ≡ Ok (record { n = n; lines = line_count L })) × (after ≡ L ++ drop (length L) before)
write_then_read n L k b a answer before after w r h =
    let g = written_valid n L (length b) k (sym w.is) in
    let v = g.0 in
    let file : take k a ≡ file_of n L = ap (take k) w.leaves ∙ take_at (file_of n L) (drop k b) k (length_file n L ∙ sym g.1) in
    let d : ReadDone max_variables (file_of n L) answer before after = rw file at r in
    let found : answer ≡ Ok (record { n = n; lines = line_count L }) = d.is ∙ written_read n L v max_variables (length before) (valid_list n L v).variables h in
    let left = subst (λ (x : Result Listed FileRefusal). reading.Leaves (file_of n L) x before after) found d.leaves in
    let whole : line_size * line_count L ≡ length L = omega (arith, (valid_list n L v).whole) in
    (found, left ∙ rw (list_in_file n L v, whole))

-- ---- read, then written
pub read_then_write : (most : ℕ) (bytes : List ℕ) (z : Listed) (before after : List ℤ) (answer : Result ℕ FileRefusal) (b a : List ℕ)
    → AreBytes bytes → ReadDone most bytes (Ok z) before after → WriteDone z.n (take (line_size * z.lines) after) answer b a → length bytes ≤ length b
    → (answer ≡ Ok (length bytes)) × (a ≡ bytes ++ drop (length bytes) b)
read_then_write most bytes z before after answer b a h r w l =
    let L = file_list_lem bytes z.lines in
    let p = read_written most bytes (length before) z h (sym r.is) in
    let list : take (line_size * z.lines) after ≡ L = ap (take (line_size * z.lines)) r.leaves ∙ take_at L _ _ (length_file_list bytes z.lines) in
    let d : WriteDone z.n L answer b a = rw list at w in
    let size : file_size_lem L ≡ length bytes = sym (length_file z.n L) ∙ ap length p.1 in
    let found : answer ≡ Ok (length bytes) = d.is ∙ valid_written z.n L (length b) p.0 (omega arith) ∙ ap Ok size in
    let left = subst (λ (x : Result ℕ FileRefusal). writing.Leaves z.n L x b a) found d.leaves in
    (found, left ∙ rw p.1)
