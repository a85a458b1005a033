-- What showing a line answers and leaves in the lent buffers, for every input: its promise.
use Rattle.lines.specs.declared.Refusal.{Refusal}
use Rattle.std.specs.Prelude.{◌≡◌, Bool, cond, List, ◌++◌, ℕ, ℤ, length, drop, Err, Ok, Result}
use Rattle.lines.specs.declared.Line.{Line}
use Rattle.lines.specs.Line.{line_count, lines_of}
use Rattle.lines.specs.Refusal.{◌or_else◌, shown_validity_lem, validity_of}
use Rattle.check_soundness.specs.Head.{steps_in}
use Rattle.theory_bounds.specs.Verdict.{verdict_of}
use Rattle.theory_answers.specs.Refuted.{Due}
use Rattle.decide_identifiers.specs.Identifiers.{identifiers_of}
use Rattle.decide_buffers.specs.declared.Lengths.{Lengths}
use Rattle.decide_buffers.specs.Room.{Room, output_rooms, work_rooms, first_short}
use Rattle.decide.specs.Decided.{cleared}
use Rattle.shown_list.specs.Against.{against}
use Rattle.show_line.specs.declared.ShowAnswer.{ShowAnswer}
use Rattle.show_line.specs.declared.ShowAnswer.TheVariants.{Shown, NotShown}

-- ---- refusals
-- of what deciding is lent, the refutation and the identifiers, which are the fourth and the fifth, and the work area
abbrev pub show_rooms : List Room
show_rooms = drop 3 output_rooms ++ work_rooms

abbrev pub show_lengths : (refutation identifiers work : ℕ) → Lengths
show_lengths r i w = record { model = 0; bounds = 0; groups = 0; refutation = r; identifiers = i; work = w }

-- the list's; the line's, as if it stood behind the list; then 7, 8
unfoldable pub show_validity_lem : ℕ → List ℤ → Line → Lengths → Result Unit Refusal
show_validity_lem n L l s = validity_of n L or_else shown_validity_lem n (line_count L) l or_else first_short show_rooms n s

-- ---- the answer
-- a refusal goes first
abbrev pub unless_refused : Result Unit Refusal → ShowAnswer → Result ShowAnswer Refusal
unless_refused (Ok _) a = Ok a
unless_refused (Err r) a = Err r

-- by the verdict on the list against the line
abbrev pub judged_by : Bool → ShowAnswer
judged_by solvable = cond solvable NotShown Shown

unfoldable pub show_answer : ℕ → List ℤ → Line → Lengths → Result ShowAnswer Refusal
show_answer n L l s = unless_refused (show_validity_lem n L l s) (judged_by (verdict_of n (lines_of (against L l))))

-- ---- what the lent buffers hold
pub record ShowLent : Type 0 where
  pub refutation : List ℕ
  pub identifiers : List ℕ
  pub work : List ℤ

abbrev pub lengths_of : ShowLent → Lengths
lengths_of b = show_lengths (length b.refutation) (length b.identifiers) (length b.work)

abbrev pub answer_for : ℕ → List ℤ → Line → ShowLent → Result ShowAnswer Refusal
answer_for n L l b = show_answer n L l (lengths_of b)

-- a showing, of which only the walks are free
pub record OnShown (n : ℕ) (L : List ℤ) (l : Line) (b a : ShowLent) : Type 0 where
  pub numbers : List ℕ
  pub due : Due n (against L l) numbers
  pub refutation : a.refutation ≡ numbers ++ drop (length numbers) b.refutation
  pub identifiers : a.identifiers ≡ identifiers_of (against L l) numbers ++ drop (steps_in numbers) b.identifiers
  pub work : a.work ≡ cleared n b.work

-- nothing but zeros in the work area
pub record OnNotShown (n : ℕ) (b a : ShowLent) : Type 0 where
  pub refutation : a.refutation ≡ b.refutation
  pub identifiers : a.identifiers ≡ b.identifiers
  pub work : a.work ≡ cleared n b.work

-- b is what the buffers held before, a what they hold after
abbrev pub Leaves : ℕ → List ℤ → Line → Result ShowAnswer Refusal → ShowLent → ShowLent → Type 0
Leaves n L l (Ok Shown) b a = OnShown n L l b a
Leaves n L l (Ok NotShown) b a = OnNotShown n b a
Leaves n L l (Err r) b a = a ≡ b

pub record ShowsLine (n : ℕ) (L : List ℤ) (l : Line) (answer : Result ShowAnswer Refusal) (b a : ShowLent) : Type 0 where
  pub is : answer ≡ answer_for n L l b
  pub leaves : Leaves n L l answer b a
