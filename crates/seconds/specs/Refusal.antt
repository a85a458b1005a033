-- The number and the place that the specification gives each refusal of seconds.
use Rattle.std.specs.Prelude.{◌≡◌, refl, cond, List, [], ◌∷◌, ℕ, ◌<◌, eqb}
use Rattle.std.proofs.Common.{sym, ap₂, ◌∙◌, arith}
use Rattle.lines.specs.declared.Numbered.{Numbered}
use Rattle.lines.specs.Refusal.{numbered_at}
use Rattle.seconds.specs.declared.SecondsRefusal.{SecondsRefusal}
use Rattle.seconds.specs.declared.SecondsRefusal.TheVariants.{UnusableClock, CountOutside, NoRoom, NoRecorder, NoTable}

-- the place is the index of the recorder, the count or the event, and 0 where a refusal has none
abbrev pub seconds_number_and_place : SecondsRefusal → Numbered
seconds_number_and_place (UnusableClock k) = numbered_at 50 k
seconds_number_and_place (CountOutside k) = numbered_at 51 k
seconds_number_and_place NoRoom = numbered_at 52 0
seconds_number_and_place (NoRecorder k) = numbered_at 53 k
seconds_number_and_place NoTable = numbered_at 54 0

abbrev pub seconds_number : SecondsRefusal → ℕ
seconds_number r = (seconds_number_and_place r).number

abbrev pub seconds_place : SecondsRefusal → ℕ
seconds_place r = (seconds_number_and_place r).place

-- 0 stands for none
pub number_some : (r : SecondsRefusal) → 0 < seconds_number r
number_some (UnusableClock k) = omega arith
number_some (CountOutside k) = omega arith
number_some NoRoom = omega arith
number_some (NoRecorder k) = omega arith
number_some NoTable = omega arith

-- ---- a refusal is known by its number and its place
-- all but the last, at place k
abbrev all_at : ℕ → List SecondsRefusal
all_at k = UnusableClock k ∷ CountOutside k ∷ NoRoom ∷ NoRecorder k ∷ []

-- the first of some that has this number, or the last of all
abbrev with_number : ℕ → List SecondsRefusal → SecondsRefusal
with_number n [] = NoTable
with_number n (r ∷ rs) = cond (eqb (seconds_number r) n) r (with_number n rs)

abbrev refusal_of : ℕ → ℕ → SecondsRefusal
refusal_of n k = with_number n (all_at k)

known : (r : SecondsRefusal) → refusal_of (seconds_number r) (seconds_place r) ≡ r
known (UnusableClock k) = refl
known (CountOutside k) = refl
known NoRoom = refl
known (NoRecorder k) = refl
known NoTable = refl

pub one_refusal : (r s : SecondsRefusal) → seconds_number r ≡ seconds_number s → seconds_place r ≡ seconds_place s → r ≡ s
one_refusal r s e f = sym (known r) ∙ ap₂ refusal_of e f ∙ known s
