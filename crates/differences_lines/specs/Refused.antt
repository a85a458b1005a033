-- What is refused of a list of differences and its lent buffers: the first that applies.
use Rattle.std.specs.Prelude.{◌≡◌, refl, true, false, not, List, ℕ, ◌<◌, ℤ, Err, Ok, Result}
use Rattle.std.proofs.Common.{arith}
use Rattle.std.proofs.lemmas.Bool.{not-false}
use Rattle.lines.specs.declared.Refusal.{Refusal}
use Rattle.lines.specs.declared.Refusal.TheVariants.{NotDifference}
use Rattle.lines.specs.Limits.{max_lines}
use Rattle.lines.specs.Refusal.{◌or_else◌, refuse_if, validity_of}
use Rattle.lines.specs.Valid.{or_valid, not_refused, valid_list, workable}
use Rattle.lines.specs.Places.{Placed, placed_or, placed_if, placed_list}
use Rattle.decide_buffers.specs.declared.Lengths.{Lengths}
use Rattle.decide_buffers.specs.Room.{lent_rooms_by, differences_work_room_lem, most_place, first_short, HaveRoom, none_short, short_none, placed_rooms_by}
use Rattle.theory_differences.specs.Plain.{all_differences, differences}
use Rattle.differences_lines.specs.Others.{first_other_lem, other_at_most}
use Rattle.differences_lines.specs.PlainList.{PlainList}

-- 60: a line is no difference
unfoldable pub others_validity : List ℤ → Result Unit Refusal
others_validity L = refuse_if (not (all_differences L)) (NotDifference (first_other_lem L))

abbrev pub plain_rooms_validity : ℕ → Lengths → Result Unit Refusal
plain_rooms_validity n s = first_short (lent_rooms_by differences_work_room_lem) n s

-- the list's; 60; then 7, 8
unfoldable pub differences_validity_lem : ℕ → List ℤ → Lengths → Result Unit Refusal
differences_validity_lem n L s = validity_of n L or_else others_validity L or_else plain_rooms_validity n s

-- ---- the ways through it
module _ (n : ℕ) (L : List ℤ) (s : Lengths) where
  pub list_refused : (r : Refusal) → validity_of n L ≡ Err r → Err r ≡ differences_validity_lem n L s
  unfolding differences_validity_lem
  list_refused r e = rw e

  module _ (v : validity_of n L ≡ Ok tt) where
    pub other_refused : (k : ℕ) → k ≡ first_other_lem L → all_differences L ≡ false → Err (NotDifference k) ≡ differences_validity_lem n L s
    unfolding differences_validity_lem others_validity
    other_refused k e f = rw (v, f, e)

    pub rooms_left : all_differences L ≡ true → plain_rooms_validity n s ≡ differences_validity_lem n L s
    unfolding differences_validity_lem others_validity
    rooms_left f = rw (v, f)

-- ---- nothing is refused
pub record DifferencesOk (n : ℕ) (L : List ℤ) (s : Lengths) : Type 0 where
  pub list : validity_of n L ≡ Ok tt
  pub all : all_differences L ≡ true
  pub rooms : HaveRoom (lent_rooms_by differences_work_room_lem) n s

pub differences_ok : (n : ℕ) (L : List ℤ) (s : Lengths) → differences_validity_lem n L s ≡ Ok tt → DifferencesOk n L s
unfolding differences_validity_lem others_validity
differences_ok n L s e =
    let p = or_valid (validity_of n L) _ e in
    let q = or_valid (refuse_if (not (all_differences L)) (NotDifference (first_other_lem L))) _ p.1 in
    record { list = p.0; all = not-false (all_differences L) (not_refused (not (all_differences L)) _ q.0); rooms = none_short (lent_rooms_by differences_work_room_lem) n s q.1 }

pub ok_differences : (n : ℕ) (L : List ℤ) (s : Lengths) → DifferencesOk n L s → differences_validity_lem n L s ≡ Ok tt
unfolding differences_validity_lem others_validity
ok_differences n L s o = rw (o.list, o.all) (short_none (lent_rooms_by differences_work_room_lem) n s o.rooms)

pub plain_list : {n : ℕ} {L : List ℤ} {s : Lengths} → DifferencesOk n L s → PlainList n L
plain_list {n} {L} o = record { works = workable n L o.list; all = differences L o.all }

-- ---- the places are small
pub placed_differences : (m : ℕ) → max_lines < m → most_place < m → (n : ℕ) (L : List ℤ) (s : Lengths) → Placed m (differences_validity_lem n L s)
unfolding differences_validity_lem others_validity
placed_differences m h k n L s = go (validity_of n L) refl (placed_list m n L h)
  where
    go : (v : Result Unit Refusal) → validity_of n L ≡ v → Placed m v → Placed m (v or_else refuse_if (not (all_differences L)) (NotDifference (first_other_lem L)) or_else plain_rooms_validity n s)
    go (Ok _) e p =
        placed_or m (refuse_if (not (all_differences L)) (NotDifference (first_other_lem L))) (plain_rooms_validity n s)
        (placed_if m (not (all_differences L)) (NotDifference (first_other_lem L)) (omega (arith, other_at_most L, (valid_list n L e).count)))
        (placed_rooms_by differences_work_room_lem m k n s)
    go (Err r) e p = p
