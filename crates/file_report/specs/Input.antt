-- The program judges every input as if it had read it whole: what is printed depends on no more bytes than its buffer takes.
use Rattle.std.specs.Prelude.{◌≡◌, ◌↔◌, List, ℕ, ◌+◌, ◌*◌, ◌≤◌, ℤ, length, take}
use Rattle.std.proofs.Common.{sym, subst, ◌∙◌, le_refl, take-take}
use Rattle.lines.specs.Limits.{line_size}
use Rattle.file_records.specs.declared.Kind.TheVariants.{Variables, Identified}
use Rattle.file_records.specs.Table.{record_size_lem}
use Rattle.file_list.specs.Back.{is_read}
use Rattle.file_list.specs.Front.{same_read, same_list}
use Rattle.file_report.specs.Report.{most_variables, most_lines, Decided, Reported, refused, decided}

-- the bytes of the most lines and of one line more, each the longest: then the first refusal, or the end and a byte after it, has been seen
abbrev pub input_size : ℕ
input_size = record_size_lem Variables + record_size_lem Identified * (most_lines + 1)

-- inputs with the same front of that many bytes, or more, are reported alike
pub same_front : (k : ℕ) → input_size ≤ k → (b d : List ℕ) → take k b ≡ take k d → {T : List ℕ} → Reported b T → Reported d T
same_front k h b d e (refused r i) = refused r (sym (same_read k b d e (line_size * most_lines) h most_variables) ∙ i)
same_front k h b d e {T} (decided z i w) =
    let l = same_list k b d e (line_size * most_lines) h z.lines (is_read most_variables b (line_size * most_lines) z i).has_room in
    decided z (sym (same_read k b d e (line_size * most_lines) h most_variables) ∙ i) (subst (λ (L : List ℤ). Decided z.n L T) l w)

pub front_enough : (k : ℕ) → input_size ≤ k → (b T : List ℕ) → Reported (take k b) T ↔ Reported b T
front_enough k h b T =
    let e : take k (take k b) ≡ take k b = take-take k k b (le_refl k) in
    (same_front k h (take k b) b e, same_front k h b (take k b) (sym e))

-- what is printed for a buffer that holds so many bytes is right for every input of which they are as much as the buffer takes
pub record InputReported (buffer : List ℕ) (count : ℕ) (T : List ℕ) : Type 0 where
  pub whole : (b : List ℕ) → take (length buffer) b ≡ take count buffer → Reported b T

pub held : (buffer : List ℕ) (count : ℕ) → input_size ≤ length buffer → (bytes : List ℕ) → bytes ≡ take count buffer → {T : List ℕ} {C : Type 0} → Reported bytes T × C → InputReported buffer count T × C
held buffer count h bytes e {T} w =
    (record { whole = λ b i. (front_enough (length buffer) h b T).0 (subst (λ (l : List ℕ). Reported l T) (e ∙ sym i) w.0) }, w.1)
