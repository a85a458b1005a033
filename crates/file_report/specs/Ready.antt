-- What the parts of the report ask of their callers.
use Rattle.std.specs.Prelude.{◌≡◌, List, ℕ, ◌+◌, ◌≤◌, ℤ, length, Ok}
use Rattle.lines.specs.Refusal.{validity_of}
use Rattle.check_refutation.specs.Progress.{head_size}
use Rattle.check_soundness.specs.Head.{steps_in}
use Rattle.decide_buffers.specs.Room.{refutation_room_lem}
use Rattle.file_report.specs.Report.{most_variables}

-- the room for text that the program has
abbrev pub text_size : ℕ
text_size = 4_096

pub record RefutationReady (R text : List ℕ) : Type 0 where
  pub room : head_size + steps_in R ≤ length R
  pub few : length R ≤ refutation_room_lem most_variables
  pub size : text_size ≤ length text

pub record ListReady (n : ℕ) (L : List ℤ) (text : List ℕ) : Type 0 where
  pub valid : validity_of n L ≡ Ok tt
  pub few : n ≤ most_variables
  pub size : text_size ≤ length text
