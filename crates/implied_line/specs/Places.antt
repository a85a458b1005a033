-- The place of a refused answer on a line is small: below any bound that passes the limit of lines and the places of the outputs. And what is answered is
-- valid.
use Rattle.std.specs.Prelude.{◌≡◌, List, ℕ, ◌<◌, ltb, ℤ, pos, Err, Ok, Result}
use Rattle.std.proofs.Math.Path.{refl}
use Rattle.std.proofs.Common.{arith}
use Rattle.lines.specs.declared.Line.{Line}
use Rattle.lines.specs.declared.Refusal.{Refusal}
use Rattle.lines.specs.declared.Refusal.TheVariants.{ShortOutput, ShortWorkArea}
use Rattle.lines.specs.Limits.{max_lines, max_constant}
use Rattle.lines.specs.Line.{line_count}
use Rattle.lines.specs.Refusal.{place_of, ◌or_else◌, refuse_if, line_validity_lem, validity_of}
use Rattle.lines.specs.Valid.{valid_list}
use Rattle.lines.specs.Places.{Placed, valid, placed_or, placed_if, place_at, placed_line, placed_list}
use Rattle.decide_buffers.specs.declared.Lengths.{Lengths}
use Rattle.decide_buffers.specs.Room.{model_room_lem, work_room_lem, most_place, first_short, model_rooms, ModelLent, model_lengths_of}
use Rattle.implied_line.specs.declared.LineAnswer.{LineAnswer}
use Rattle.implied_line.specs.Answer.{question_validity_lem, judged, unless_refused, implied_answer, answer_for}

abbrev pub Below : ℕ → Result LineAnswer Refusal → Type 0
Below m (Ok a) = Unit {0}
Below m (Err r) = place_of r < m

abbrev pub NotRefused : Result LineAnswer Refusal → Type 0
NotRefused x = (r : Refusal) → x ≡ Err r → ⊥

module _ (m : ℕ) (few_lines : max_lines < m) (few-places : most_place < m) (n : ℕ) (L : List ℤ) (l : Line) where
  placed_question : (s : Lengths) → Placed m (question_validity_lem n L l s)
  unfolding question_validity_lem
  placed_question s = go (validity_of n L) refl (placed_list m n L few_lines)
    where
      rooms : Placed m (first_short model_rooms n s)
      rooms =
          placed_or m (refuse_if (ltb s.model (model_room_lem n)) (ShortOutput 1)) _ (placed_if m (ltb s.model (model_room_lem n)) (ShortOutput 1) (omega arith))
          (placed_or m (refuse_if (ltb s.work (work_room_lem n)) ShortWorkArea) (Ok tt) (placed_if m (ltb s.work (work_room_lem n)) ShortWorkArea (omega arith)) valid)

      -- the line's place is the number of lines, which is small where the list is valid
      go : (v : Result Unit Refusal) → validity_of n L ≡ v → Placed m v → Placed m (v or_else line_validity_lem n (line_count L) l or_else first_short model_rooms n s)
      go (Ok _) e p = placed_or m (line_validity_lem n (line_count L) l) _ (placed_line m n (pos max_constant) (line_count L) l (omega (arith, (valid_list n L e).count))) rooms
      go (Err r) e p = p

  pub answer_below : (b : ModelLent) → Below m (answer_for n L l b)
  unfolding implied_answer
  answer_below b = go (question_validity_lem n L l (model_lengths_of b)) (judged n L l) (placed_question (model_lengths_of b))
    where
      go : (v : Result Unit Refusal) (a : LineAnswer) → Placed m v → Below m (unless_refused v a)
      go (Ok _) a p = tt
      go (Err r) a p = place_at p

-- what is answered is valid
pub answered_valid : (n : ℕ) (L : List ℤ) (l : Line) (b : ModelLent) → NotRefused (answer_for n L l b) → question_validity_lem n L l (model_lengths_of b) ≡ Ok tt
unfolding implied_answer
answered_valid n L l b other = go (question_validity_lem n L l (model_lengths_of b)) other
  where
    go : (v : Result Unit Refusal) → NotRefused (unless_refused v (judged n L l)) → v ≡ Ok tt
    go (Ok _) h = refl
    go (Err r) h = absurd (h r refl)
