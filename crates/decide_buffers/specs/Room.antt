-- The lent buffers of deciding, in this one place: what is lent, the room that each needs, refusals 7 and 8, and zeros.
use Rattle.std.specs.Prelude.{◌≡◌, refl, List, [], ◌∷◌, ◌++◌, ℕ, zero, suc, ◌+◌, ◌*◌, ◌<◌, ◌≤◌, ltb, ℤ, length, set, take, drop, replicate, Ok, Result}
use Rattle.std.proofs.Common.{sym, ap, ◌∙◌, mul-le-mul_right, add-one, arith, ltb-false, le-ltb}
use Rattle.std.proofs.lemmas.List.{length-replicate}
use Rattle.integers.specs.Sequence.{grow}
use Rattle.lines.specs.Limits.{max_variables}
use Rattle.lines.specs.declared.Refusal.{Refusal}
use Rattle.lines.specs.declared.Refusal.TheVariants.{ShortOutput, ShortWorkArea}
use Rattle.lines.specs.Refusal.{place_of, ◌or_else◌, refuse_if, validity_of}
use Rattle.lines.specs.Valid.{or_valid, not_refused}
use Rattle.lines.specs.Places.{Placed, valid, placed_or, placed_if}
use Rattle.decide_buffers.specs.declared.Lengths.{Lengths}

-- ---- what is lent
pub record Lent : Type 0 where
  pub model : List ℤ
  pub bounds : List ℤ
  pub groups : List ℕ
  pub refutation : List ℕ
  pub identifiers : List ℕ
  pub work : List ℤ

-- how long each is
abbrev pub lengths_of : Lent → Lengths
lengths_of b = record { model = length b.model; bounds = length b.bounds; groups = length b.groups; refutation = length b.refutation; identifiers = length b.identifiers; work = length b.work }

-- where deciding is asked for no more than a model
pub record ModelLent : Type 0 where
  pub model : List ℤ
  pub work : List ℤ

abbrev pub model_lengths : (model work : ℕ) → Lengths
model_lengths model work = record { model = model; bounds = 0; groups = 0; refutation = 0; identifiers = 0; work = work }

abbrev pub model_lengths_of : ModelLent → Lengths
model_lengths_of b = model_lengths (length b.model) (length b.work)

-- ---- the room that each needs for n variables
abbrev pub model_room_lem : ℕ → ℕ
model_room_lem n = n

abbrev pub bounds_room_lem : ℕ → ℕ
bounds_room_lem n = 2 * n

abbrev pub groups_room_lem : ℕ → ℕ
groups_room_lem n = 2 * n

abbrev pub refutation_room_lem : ℕ → ℕ
refutation_room_lem n = 4 + 4 * n

abbrev pub identifiers_room_lem : ℕ → ℕ
identifiers_room_lem n = 4 + 4 * n

abbrev pub work_room_lem : ℕ → ℕ
work_room_lem n = 16 * n * n + 64 * n + 64

-- of the engine for differences: it has one point for each variable
abbrev pub differences_work_room_lem : ℕ → ℕ
differences_work_room_lem n = 2 * n * n + 16 * n + 16

-- ---- the table of rooms
-- the room of a buffer, how long it is, and the refusal where it is shorter than its room
pub record Room : Type 0 where
  pub room : ℕ → ℕ
  pub size : Lengths → ℕ
  pub refusal : Refusal

-- 7: the buffers for output with their places, in the order in which they are looked at
abbrev pub output_rooms : List Room
output_rooms =
    record { room = model_room_lem; size = λ s. s.model; refusal = ShortOutput 1 }
    ∷ record { room = bounds_room_lem; size = λ s. s.bounds; refusal = ShortOutput 2 }
    ∷ record { room = groups_room_lem; size = λ s. s.groups; refusal = ShortOutput 3 }
    ∷ record { room = refutation_room_lem; size = λ s. s.refutation; refusal = ShortOutput 4 }
    ∷ record { room = identifiers_room_lem; size = λ s. s.identifiers; refusal = ShortOutput 5 }
    ∷ []

-- 8: the work area, of the room that an engine needs there
abbrev pub work_rooms_by : (ℕ → ℕ) → List Room
work_rooms_by work = record { room = work; size = λ s. s.work; refusal = ShortWorkArea } ∷ []

abbrev pub work_rooms : List Room
work_rooms = work_rooms_by work_room_lem

-- 7, then 8
abbrev pub lent_rooms_by : (ℕ → ℕ) → List Room
lent_rooms_by work = output_rooms ++ work_rooms_by work

abbrev pub lent_rooms : List Room
lent_rooms = lent_rooms_by work_room_lem

-- of these the model, which is the first, and the work area
abbrev pub model_rooms : List Room
model_rooms = take 1 output_rooms ++ work_rooms

-- no place is greater
abbrev pub most_place : ℕ
most_place = 5

-- ---- the first that is short
abbrev pub first_short : List Room → ℕ → Lengths → Result Unit Refusal
first_short [] n s = Ok tt
first_short (r ∷ rs) n s = refuse_if (ltb (r.size s) (r.room n)) r.refusal or_else first_short rs n s

unfoldable pub rooms_validity : ℕ → Lengths → Result Unit Refusal
rooms_validity n s = first_short lent_rooms n s

-- the list's; then 7, 8
unfoldable pub decide_validity_lem : ℕ → List ℤ → Lengths → Result Unit Refusal
decide_validity_lem n L s = validity_of n L or_else rooms_validity n s

-- ---- none is short exactly if each has its room
abbrev pub HaveRoom : List Room → ℕ → Lengths → Type 0
HaveRoom [] n s = Unit {0}
HaveRoom (r ∷ rs) n s = (r.room n ≤ r.size s) × HaveRoom rs n s

pub none_short : (rs : List Room) (n : ℕ) (s : Lengths) → first_short rs n s ≡ Ok tt → HaveRoom rs n s
none_short [] n s e = tt
none_short (r ∷ rs) n s e =
    let p = or_valid (refuse_if (ltb (r.size s) (r.room n)) r.refusal) (first_short rs n s) e in
    (ltb-false (r.size s) (r.room n) (not_refused (ltb (r.size s) (r.room n)) r.refusal p.0), none_short rs n s p.1)

pub short_none : (rs : List Room) (n : ℕ) (s : Lengths) → HaveRoom rs n s → first_short rs n s ≡ Ok tt
short_none [] n s h = refl
short_none (r ∷ rs) n s h = rw (le-ltb (r.size s) (r.room n) h.0) (short_none rs n s h.1)

pub valid_room : (n : ℕ) (s : Lengths) → rooms_validity n s ≡ Ok tt → HaveRoom lent_rooms n s
unfolding rooms_validity
valid_room n s e = none_short lent_rooms n s e

pub room_valid : (n : ℕ) (s : Lengths) → HaveRoom lent_rooms n s → rooms_validity n s ≡ Ok tt
unfolding rooms_validity
room_valid n s h = short_none lent_rooms n s h

-- each by its name
module _ (work : ℕ → ℕ) {n : ℕ} {s : Lengths} (h : HaveRoom (lent_rooms_by work) n s) where
  pub model_room : model_room_lem n ≤ s.model
  model_room = h.0

  pub bounds_room : bounds_room_lem n ≤ s.bounds
  bounds_room = h.1.0

  pub groups_room : groups_room_lem n ≤ s.groups
  groups_room = h.1.1.0

  pub refutation_room : refutation_room_lem n ≤ s.refutation
  refutation_room = h.1.1.1.0

  pub identifiers_room : identifiers_room_lem n ≤ s.identifiers
  identifiers_room = h.1.1.1.1.0

  pub work_room : work n ≤ s.work
  work_room = h.1.1.1.1.1.0

-- ---- the places are small
abbrev PlacesBelow : ℕ → List Room → Type 0
PlacesBelow m [] = Unit {0}
PlacesBelow m (r ∷ rs) = (place_of r.refusal < m) × PlacesBelow m rs

placed_short : (m : ℕ) (rs : List Room) → PlacesBelow m rs → (n : ℕ) (s : Lengths) → Placed m (first_short rs n s)
placed_short m [] p n s = valid
placed_short m (r ∷ rs) p n s =
    placed_or m (refuse_if (ltb (r.size s) (r.room n)) r.refusal) (first_short rs n s) (placed_if m (ltb (r.size s) (r.room n)) r.refusal p.0) (placed_short m rs p.1 n s)

pub placed_rooms_by : (work : ℕ → ℕ) (m : ℕ) → most_place < m → (n : ℕ) (s : Lengths) → Placed m (first_short (lent_rooms_by work) n s)
placed_rooms_by work m h n s = placed_short m (lent_rooms_by work) (omega arith, (omega arith, (omega arith, (omega arith, (omega arith, (omega arith, tt)))))) n s

pub placed_rooms : (m : ℕ) → most_place < m → (n : ℕ) (s : Lengths) → Placed m (rooms_validity n s)
unfolding rooms_validity
placed_rooms m h n s = placed_rooms_by work_room_lem m h n s

-- ---- more variables need no less
work_more : (n k : ℕ) → n ≤ k → work_room_lem n ≤ work_room_lem k
work_more n k h =
    let a : n * n ≤ k * n = mul-le-mul_right n h in
    let b : n * k ≤ k * k = mul-le-mul_right k h in
    omega (arith, a, b)

pub fewer_room : (n k : ℕ) → n ≤ k → (s : Lengths) → HaveRoom lent_rooms k s → HaveRoom lent_rooms n s
fewer_room n k h s r = (
  omega (arith, h, model_room work_room_lem r),
  (omega (arith, h, bounds_room work_room_lem r), (omega (arith, h, groups_room work_room_lem r), (omega (arith, h, refutation_room work_room_lem r), (omega (arith, h, identifiers_room work_room_lem r), (omega (arith, work_more n k h, work_room work_room_lem r), tt))))),
)

-- no number of the sum comes near 64 bits
pub work_small : (n : ℕ) → n ≤ max_variables → work_room_lem n ≤ work_room_lem max_variables
work_small n h = work_more n max_variables h

pub differences_small : (n : ℕ) → n ≤ max_variables → differences_work_room_lem n ≤ work_room_lem max_variables
differences_small n h = omega (arith, work_small n h)

-- ---- zeros
pub fill_more : (i : ℕ) (v : ℤ) (w : List ℤ) → i < length w → set (replicate i v ++ drop i w) i v ≡ replicate (i + 1) v ++ drop (i + 1) w
fill_more i v w h = grow (replicate i v) i v v w (length-replicate i v) h ∙ ap (λ (x : List ℤ). x ++ drop (i + 1) w) (snoc i ∙ ap (λ (k : ℕ). replicate k v) (sym (add-one i)))
  where
    snoc : (i : ℕ) → replicate i v ++ v ∷ [] ≡ replicate (suc i) v
    snoc zero = refl
    snoc (suc i) = ap (λ (l : List ℤ). v ∷ l) (snoc i)
