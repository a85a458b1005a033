-- The place of a refused pair is small: below any bound that passes the limit of lines and 1, the place of y.
use Rattle.lines.specs.declared.Refusal.{Refusal}
use Rattle.std.specs.Prelude.{not, List, ℕ, ◌<◌, ltb, ℤ, length, Err, Ok, Option, Result}
use Rattle.std.proofs.Common.{arith}
use Rattle.lines.specs.declared.Refusal.TheVariants.{BadVariable, ShortWorkArea}
use Rattle.lines.specs.Limits.{max_lines}
use Rattle.lines.specs.Refusal.{place_of, refuse_if, validity_of}
use Rattle.lines.specs.Places.{Placed, placed_or, placed_if, place_at, placed_list}
use Rattle.decide_buffers.specs.Room.{work_room_lem}
use Rattle.implied_pair.specs.declared.Pair.{Pair}
use Rattle.implied_pair.specs.Pair.{pair_validity_lem, called, unless_refused, pair_call}

abbrev pub Below : ℕ → Result (Option Pair) Refusal → Type 0
Below m (Ok a) = Unit {0}
Below m (Err r) = place_of r < m

placed_pair : (m : ℕ) → max_lines < m → (n : ℕ) (L : List ℤ) (x y size : ℕ) → Placed m (pair_validity_lem n L x y size)
unfolding pair_validity_lem
placed_pair m h n L x y size =
    placed_or m (validity_of n L) _ (placed_list m n L h)
    (placed_or m (refuse_if (not (ltb x n)) (BadVariable 0)) _ (placed_if m (not (ltb x n)) (BadVariable 0) (omega arith))
    (placed_or m (refuse_if (not (ltb y n)) (BadVariable 1)) _ (placed_if m (not (ltb y n)) (BadVariable 1) (omega arith)) (placed_if m (ltb size (work_room_lem n)) ShortWorkArea (omega arith))))

pub pair_below : (m : ℕ) → max_lines < m → (n : ℕ) (L : List ℤ) (x y : ℕ) (w : List ℤ) → Below m (pair_call n L x y w).answer
unfolding pair_call
pair_below m h n L x y w = go (pair_validity_lem n L x y (length w)) _ _ (placed_pair m h n L x y (length w))
  where
    go : (v : Result Unit Refusal) (a : Option Pair) (cleared : List ℤ) → Placed m v → Below m (unless_refused v (called (Ok a) cleared) w).answer
    go (Ok _) a cleared p = tt
    go (Err r) a cleared p = place_at p
