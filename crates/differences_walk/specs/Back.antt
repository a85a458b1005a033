-- One row back: a line whose step makes the entry, its step's number and the variable where it begins.
use Rattle.std.specs.Prelude.{◌≡◌, List, ℕ, ◌+◌, ◌<◌, ◌≤◌, ℤ, pos, length, set}
use Rattle.lines.specs.Line.{number, line_at}
use Rattle.theory_differences.specs.Plain.{plain_step_lem}
use Rattle.theory_differences.specs.Numbers.{plain_number_lem}
use Rattle.decide_rows.specs.Next.{row_in}
use Rattle.differences_lines.specs.PlainList.{PlainList}
use Rattle.differences_walk.specs.Makes.{IsMade, FindReady}

pub record BackReady (n : ℕ) (L w : List ℤ) (before p slot place : ℕ) : Type 0 where
  pub plain : PlainList n L
  pub within : p < n
  pub find : FindReady L (row_in n w before) p (number w (before + n + p))
  pub rows : before + n + n ≤ slot
  pub slot_in : slot < length w
  pub place_in : place < length w

pub record SteppedBack (n : ℕ) (L w : List ℤ) (before p slot place : ℕ) (w' : List ℤ) (r : ℕ) : Type 0 where
  pub line : ℕ
  pub is : IsMade L (row_in n w before) p (number w (before + n + p)) line
  pub from : r ≡ (plain_step_lem (line_at L line)).from
  pub area : w' ≡ set (set w slot (pos (plain_number_lem L line))) place (pos r)

-- at other names of the places
module _ {n : ℕ} {L w : List ℤ} {before p walk points : ℕ} (j : ℕ) where
  pub back_ready_at : BackReady n L w before p (walk + j) (points + j) → {b x y : ℕ} → b ≡ before → x ≡ walk → y ≡ points → BackReady n L w b p (x + j) (y + j)
  back_ready_at r e f g = rw (e, f, g) r

  pub stepped_at : {b x y : ℕ} {w' : List ℤ} {r : ℕ} → SteppedBack n L w b p (x + j) (y + j) w' r → b ≡ before → x ≡ walk → y ≡ points → SteppedBack n L w before p (walk + j) (points + j) w' r
  stepped_at s e f g = rw (e, f, g) at s
