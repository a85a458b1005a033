-- The program's limits, over the files of valid lists: within them the list is decided, and one with more variables is refused as 1.
use Rattle.std.specs.Prelude.{◌≡◌, ◌↔◌, List, ℕ, ◌*◌, ◌<◌, ◌≤◌, ℤ, length, Err, Ok, Result}
use Rattle.std.proofs.Common.{sym, ap, subst, ◌∙◌, arith}
use borrow.Author.Tests.{lt-ltb}
use Rattle.integers.specs.Laws.{never}
use Rattle.lines.specs.declared.Refusal.TheVariants.{TooManyVariables}
use Rattle.lines.specs.Limits.{line_size}
use Rattle.lines.specs.Line.{line_count}
use Rattle.lines.specs.Refusal.{number_of, place_of, validity_of}
use Rattle.lines.specs.Valid.{valid_list}
use Rattle.lines.specs.Fits.{numbers_fit}
use Rattle.file_records.specs.declared.FileRefusal.{FileRefusal}
use Rattle.file_records.specs.declared.FileRefusal.TheVariants.{List as OfList}
use Rattle.file_records.specs.Refusal.{file_number, file_place}
use Rattle.file_records.proofs.Reading.{laid_scan}
use Rattle.file_list.specs.declared.Listed.{Listed}
use Rattle.file_list.specs.File.{file_of, file_list_lem}
use Rattle.file_list.specs.Read.{list_validity_lem, read_answer}
use Rattle.file_list.specs.Layout.{file_laid}
use Rattle.file_list.specs.Back.{list_in_file, written_read}
use Rattle.file_text.specs.Text.{refused_text}
use Rattle.file_report.specs.Report.{most_variables, most_lines, Decided, Reported, refused, decided}

module _ (n : ℕ) (L : List ℤ) (v : validity_of n L ≡ Ok tt) (lines : line_count L ≤ most_lines) where
  fits : length L ≤ line_size * most_lines
  fits = omega (arith, (valid_list n L v).whole)

  module _ (few : n ≤ most_variables) where
    is_read : read_answer most_variables (file_of n L) (line_size * most_lines) ≡ Ok (record { n = n; lines = line_count L })
    is_read = written_read n L v most_variables (line_size * most_lines) few fits

    read_decided : {T : List ℕ} → Reported (file_of n L) T → Decided n L T
    read_decided (refused r e) = let z : ◌≡◌ {A = Result Listed FileRefusal} (Ok (record { n = n; lines = line_count L })) (Err r) = sym is_read ∙ e in never (cc)
    read_decided {T} (decided z e d) =
        let i : z ≡ record { n = n; lines = line_count L } = same (sym e ∙ is_read) in
        subst (λ (M : List ℤ). Decided n M T) (list_in_file n L v) (subst (λ (y : Listed). Decided y.n (file_list_lem (file_of n L) y.lines) T) i d)
      where
        same : {x y : Listed} → ◌≡◌ {A = Result Listed FileRefusal} (Ok x) (Ok y) → x ≡ y
        same e = cc

    pub within_decided : (T : List ℕ) → Reported (file_of n L) T ↔ Decided n L T
    within_decided T = (read_decided, λ d. decided _ is_read (subst (λ (M : List ℤ). Decided n M T) (sym (list_in_file n L v)) d))

  module _ (many : most_variables < n) where
    is_refused : read_answer most_variables (file_of n L) (line_size * most_lines) ≡ Err (OfList TooManyVariables)
    unfolding read_answer list_validity_lem
    is_refused =
        let ok = valid_list n L v in
        let laid = file_laid n L (numbers_fit n L v) (omega (arith, ok.variables)) in
        rw (laid_scan (file_of n L) (line_size * most_lines) n (line_count L) laid (omega (arith, lines)), lt-ltb most_variables n many)

    pub beyond_refused : {T : List ℕ} → Reported (file_of n L) T → T ≡ refused_text (number_of TooManyVariables) (place_of TooManyVariables)
    beyond_refused (refused r e) = let i : r ≡ OfList TooManyVariables = same (sym e ∙ is_refused) in ap (λ (s : FileRefusal). refused_text (file_number s) (file_place s)) i
      where
        same : {x y : FileRefusal} → ◌≡◌ {A = Result Listed FileRefusal} (Err x) (Err y) → x ≡ y
        same e = cc
    beyond_refused (decided z e d) = let w : ◌≡◌ {A = Result Listed FileRefusal} (Ok z) (Err (OfList TooManyVariables)) = sym e ∙ is_refused in never (cc)
