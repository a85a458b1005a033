-- What the program prints for the bytes of a file: the text of a yes, of a no or of a refusal.
use Rattle.std.specs.Prelude.{◌≡◌, true, false, List, ℕ, ◌*◌, drop, Err, Ok}
use Rattle.io.specs.Counts.{IsPrefixLen}
use Rattle.lines.specs.Limits.{line_size}
use Rattle.lines.specs.Line.{lines_of}
use Rattle.theory_bounds.specs.Verdict.{verdict_of}
use Rattle.theory_bounds.specs.Answers.{model_of, bounds_of, groups_of}
use Rattle.theory_answers.specs.Refuted.{Due}
use Rattle.file_records.specs.declared.FileRefusal.{FileRefusal}
use Rattle.file_records.specs.Refusal.{file_number, file_place}
use Rattle.file_list.specs.declared.Listed.{Listed}
use Rattle.file_list.specs.File.{file_list_lem}
use Rattle.file_list.specs.Read.{read_answer}
use Rattle.file_text.specs.Text.{yes_text, no_text, refused_text}

-- the program's own limits
abbrev pub most_variables : ℕ
most_variables = 16

abbrev pub most_lines : ℕ
most_lines = 256

-- r bytes of text were put in front of a buffer: behind them stays what was there
pub record Behind (before after : List ℕ) (r : ℕ) : Type 0 where
  pub kept : drop r after ≡ drop r before
  pub inside : IsPrefixLen r after

-- a list decided: of a refutation of kind 1 or 2 only the walks are free
pub data Decided (n : ℕ) (L : List _) : List ℕ → Type 0 where
  yes : verdict_of n (lines_of L) ≡ true → Decided n L (yes_text n (model_of n (lines_of L)) (bounds_of n (lines_of L)) (groups_of n (lines_of L)))
  no : verdict_of n (lines_of L) ≡ false → (numbers : List ℕ) → Due n L numbers → Decided n L (no_text numbers)

-- a file read and its list decided, or refused
pub data Reported (b : List ℕ) : List ℕ → Type 0 where
  refused : (r : FileRefusal) → read_answer most_variables b (line_size * most_lines) ≡ Err r → Reported b (refused_text (file_number r) (file_place r))
  decided : (z : Listed) → read_answer most_variables b (line_size * most_lines) ≡ Ok z → {T : List ℕ} → Decided z.n (file_list_lem b z.lines) T → Reported b T
