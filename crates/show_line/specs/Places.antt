-- The place of a refused answer is small: below any bound that passes the limit of lines and the places of the outputs. And what is answered is valid.
use Rattle.lines.specs.declared.Refusal.{Refusal}
use Rattle.std.specs.Prelude.{◌≡◌, refl, List, ℕ, ◌<◌, ltb, ℤ, Err, Ok, Result}
use Rattle.std.proofs.Common.{arith}
use Rattle.lines.specs.declared.Line.{Line}
use Rattle.lines.specs.declared.Refusal.TheVariants.{ShortOutput, ShortWorkArea}
use Rattle.lines.specs.Limits.{max_lines}
use Rattle.lines.specs.Line.{lines_of}
use Rattle.lines.specs.Refusal.{place_of, refuse_if}
use Rattle.lines.specs.Places.{Placed, valid, placed_or, placed_if, place_at}
use Rattle.theory_bounds.specs.Verdict.{verdict_of}
use Rattle.decide_buffers.specs.declared.Lengths.{Lengths}
use Rattle.decide_buffers.specs.Room.{refutation_room_lem, identifiers_room_lem, work_room_lem, most_place, first_short}
use Rattle.shown_list.specs.Against.{against}
use Rattle.check_shown.specs.Places.{placed_shown}
use Rattle.show_line.specs.declared.ShowAnswer.{ShowAnswer}
use Rattle.show_line.specs.Answer.{show_rooms, show_validity_lem, judged_by, unless_refused, show_answer, ShowLent, lengths_of, answer_for}

abbrev pub Below : ℕ → Result ShowAnswer Refusal → Type 0
Below m (Ok a) = Unit {0}
Below m (Err r) = place_of r < m

abbrev pub NotRefused : Result ShowAnswer Refusal → Type 0
NotRefused (Ok a) = Unit {0}
NotRefused (Err r) = ⊥

module _ (m : ℕ) (few_lines : max_lines < m) (few-places : most_place < m) (n : ℕ) (L : List ℤ) (l : Line) where
  placed_rooms : (s : Lengths) → Placed m (first_short show_rooms n s)
  placed_rooms s =
      placed_or m (refuse_if (ltb s.refutation (refutation_room_lem n)) (ShortOutput 4)) _ (placed_if m (ltb s.refutation (refutation_room_lem n)) (ShortOutput 4) (omega arith))
      (placed_or m (refuse_if (ltb s.identifiers (identifiers_room_lem n)) (ShortOutput 5)) _ (placed_if m (ltb s.identifiers (identifiers_room_lem n)) (ShortOutput 5) (omega arith))
      (placed_or m (refuse_if (ltb s.work (work_room_lem n)) ShortWorkArea) (Ok tt) (placed_if m (ltb s.work (work_room_lem n)) ShortWorkArea (omega arith)) valid))

  pub answer_below : (b : ShowLent) → Below m (answer_for n L l b)
  unfolding show_answer show_validity_lem
  answer_below b = go (show_validity_lem n L l (lengths_of b)) _ (placed_shown m few_lines n L l (first_short show_rooms n (lengths_of b)) (placed_rooms (lengths_of b)))
    where
      go : (v : Result Unit Refusal) (a : ShowAnswer) → Placed m v → Below m (unless_refused v a)
      go (Ok _) a p = tt
      go (Err r) a p = place_at p

-- what is answered is valid
pub answered_valid : (n : ℕ) (L : List ℤ) (l : Line) (b : ShowLent) → NotRefused (answer_for n L l b) → show_validity_lem n L l (lengths_of b) ≡ Ok tt
unfolding show_answer
answered_valid n L l b = go (show_validity_lem n L l (lengths_of b))
  where
    go : (v : Result Unit Refusal) → NotRefused (unless_refused v (judged_by (verdict_of n (lines_of (against L l))))) → v ≡ Ok tt
    go (Ok _) h = refl
    go (Err r) h = absurd h
