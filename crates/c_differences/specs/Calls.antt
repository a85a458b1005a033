-- What the exported function that decides a list of differences returns, by the numbers of `utvpi_decide`, and what it leaves in the buffers.
use Rattle.std.specs.Prelude.{◌≡◌, List, ℕ, ℤ}
use Rattle.decide_buffers.specs.Room.{Lent}
use Rattle.differences.specs.Decided.{differences_answer_for, DifferencesLeave}
use Rattle.c_deciding.specs.Calls.{decide_code_lem}

-- b is what the buffers held before, a what they hold after
pub record DifferencesReturn (n : ℕ) (L : List ℤ) (returned : ℤ) (b a : Lent) : Type 0 where
  pub is : returned ≡ decide_code_lem (differences_answer_for n L b)
  pub leaves : DifferencesLeave n L (differences_answer_for n L b) b a
