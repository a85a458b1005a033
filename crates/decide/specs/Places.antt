-- The place of a refused answer is small: below any bound that passes the limit of lines and the places of the outputs.
use Rattle.lines.specs.declared.Refusal.{Refusal}
use Rattle.std.proofs.Common.{sym, subst}
use Rattle.std.specs.Prelude.{Bool, true, false, cond, List, ℕ, ◌<◌, ℤ, Err, Ok, Result}
use Rattle.lines.specs.Limits.{max_lines}
use Rattle.lines.specs.Line.{lines_of}
use Rattle.lines.specs.Refusal.{place_of, validity_of}
use Rattle.lines.specs.Places.{Placed, placed_or, place_at, placed_list}
use Rattle.theory_bounds.specs.Verdict.{verdict_of}
use Rattle.decide_buffers.specs.Room.{Lent, lengths_of, most_place, rooms_validity, decide_validity_lem, placed_rooms}
use Rattle.decide.specs.declared.Answer.{Answer}
use Rattle.decide.specs.declared.Answer.TheVariants.{Yes, No}
use Rattle.decide.specs.Decided.{unless_refused, judged, decide_answer, answer_for, Decided}

abbrev pub Below : ℕ → Result Answer Refusal → Type 0
Below m (Ok Yes) = Unit {0}
Below m (Ok No) = Unit {0}
Below m (Err r) = place_of r < m

pub judged_below : (m : ℕ) (v : Result Unit Refusal) → Placed m v → (n : ℕ) (L : List ℤ) → Below m (judged v n L)
judged_below m v p n L = go v (verdict_of n (lines_of L)) p
  where
    go : (v : Result Unit Refusal) (t : Bool) → Placed m v → Below m (unless_refused v (cond t (Ok Yes) (Ok No)))
    go (Ok _) true p = tt
    go (Ok _) false p = tt
    go (Err r) t p = place_at p

pub answer_below : (m : ℕ) → max_lines < m → most_place < m → (n : ℕ) (L : List ℤ) (b : Lent) → Below m (answer_for n L b)
unfolding decide_answer decide_validity_lem
answer_below m h k n L b =
    judged_below m (decide_validity_lem n L (lengths_of b)) (placed_or m (validity_of n L) (rooms_validity n (lengths_of b)) (placed_list m n L h) (placed_rooms m k n (lengths_of b))) n L

pub decided_below : (m : ℕ) → max_lines < m → most_place < m → {n : ℕ} {L : List ℤ} {answer : Result Answer Refusal} {b a : Lent} → Decided n L answer b a → Below m answer
decided_below m h k {n} {L} {answer} {b} {a} d = subst (Below m) (sym d.is) (answer_below m h k n L b)
