-- What deciding a list of differences answers and leaves in the lent buffers, for every input: the promise of `decide`, with the refusals of such a list and
-- the room of this engine's work area.
use Rattle.std.specs.Prelude.{◌≡◌, List, ℕ, ◌<◌, ℤ, Err, Result}
use Rattle.std.proofs.Math.Path.{refl}
use Rattle.std.proofs.Common.{sym, subst, ◌∙◌}
use Rattle.lines.specs.declared.Refusal.{Refusal}
use Rattle.lines.specs.Limits.{max_lines}
use Rattle.decide_buffers.specs.declared.Lengths.{Lengths}
use Rattle.decide_buffers.specs.Room.{Lent, lengths_of, differences_work_room_lem, most_place}
use Rattle.decide.specs.declared.Answer.{Answer}
use Rattle.decide.specs.Decided.{NotRefused, judged, judged_refused, LeavesIn}
use Rattle.decide.specs.Parts.{judged_valid}
use Rattle.decide.specs.Places.{Below, judged_below}
use Rattle.differences_lines.specs.Refused.{differences_validity_lem, DifferencesOk, differences_ok, placed_differences}

-- buffers are given by their lengths
unfoldable pub differences_answer : ℕ → List ℤ → Lengths → Result Answer Refusal
differences_answer n L s = judged (differences_validity_lem n L s) n L

-- by what is lent
abbrev pub differences_answer_for : ℕ → List ℤ → Lent → Result Answer Refusal
differences_answer_for n L b = differences_answer n L (lengths_of b)

abbrev pub plain_validity_for : ℕ → List ℤ → Lent → Result Unit Refusal
plain_validity_for n L b = differences_validity_lem n L (lengths_of b)

-- b is what the buffers held before, a what they hold after
abbrev pub DifferencesLeave : ℕ → List ℤ → Result Answer Refusal → Lent → Lent → Type 0
DifferencesLeave n L x b a = LeavesIn (differences_work_room_lem n) n L x b a

pub record DifferencesDecided (n : ℕ) (L : List ℤ) (answer : Result Answer Refusal) (b a : Lent) : Type 0 where
  pub is : answer ≡ differences_answer_for n L b
  pub leaves : DifferencesLeave n L answer b a

module _ (n : ℕ) (L : List ℤ) (b : Lent) where
  -- the answer by what is refused
  pub differences_judged : differences_answer_for n L b ≡ judged (plain_validity_for n L b) n L
  unfolding differences_answer
  differences_judged = refl

  pub refused : (r : Refusal) → plain_validity_for n L b ≡ Err r → DifferencesDecided n L (Err r) b b
  refused r e = record { is = judged_refused n L (plain_validity_for n L b) r e ∙ sym differences_judged; leaves = refl }

  -- what is answered is a valid list of differences, with room
  pub answered_ok : NotRefused (differences_answer_for n L b) → DifferencesOk n L (lengths_of b)
  answered_ok h = differences_ok n L (lengths_of b) (judged_valid n L (plain_validity_for n L b) (λ r e. h r (differences_judged ∙ e)))

-- the place of a refused answer is small
pub differences_below : (m : ℕ) → max_lines < m → most_place < m → (n : ℕ) (L : List ℤ) (b : Lent) → Below m (differences_answer_for n L b)
differences_below m h k n L b =
    subst (Below m) (sym (differences_judged n L b)) (judged_below m (plain_validity_for n L b) (placed_differences m h k n L (lengths_of b)) n L)
