-- What the exported functions return for seconds: a struct for each answer, which tells it, and what the buffer holds after.
use Rattle.seconds.specs.declared.SecondsRefusal.{SecondsRefusal}
use Rattle.std.specs.Prelude.{◌≡◌, refl, List, ℕ, Float, ℤ, length, Err, Ok, Result}
use Rattle.std.proofs.Common.{ap, ◌∙◌, arith}
use Rattle.seconds.specs.Clock.{clock_of_lem}
use Rattle.seconds.specs.Refusal.{seconds_number, seconds_place, number_some, one_refusal}
use Rattle.seconds.specs.Promise.{form_answer, events_answer_lem, model_value, event_value, left_by, Writes}
use Rattle.c_seconds.specs.declared.SecondsWritten.{SecondsWritten}

abbrev pub seconds_written : Result Unit SecondsRefusal → SecondsWritten
seconds_written (Ok _) = record { refusal = 0; place = 0 }
seconds_written (Err r) = record { refusal = seconds_number r; place = seconds_place r }

-- of any answer due and any values: b is what the buffer held before, a what it holds after
pub record Returns (due : Result Unit SecondsRefusal) (count : ℕ) (value : ℕ → Float) (returned : SecondsWritten) (b a : List Float) : Type 0 where
  pub is : returned ≡ seconds_written due
  pub leaves : a ≡ left_by due count value b

abbrev pub ModelReturns : ℕ → Float → List ℤ → SecondsWritten → (b a : List Float) → Type 0
ModelReturns form rate counts returned b a = Returns (form_answer form rate counts (length b)) (length counts) (model_value (clock_of_lem form rate) counts) returned b a

abbrev pub EventsReturn : List ℕ → List Float → List ℕ → List ℤ → SecondsWritten → (b a : List Float) → Type 0
EventsReturn forms rates recorders counts returned b a =
    Returns (events_answer_lem forms rates recorders counts (length b)) (length counts) (event_value forms rates recorders counts) returned b a

pub returns_written : {due : Result Unit SecondsRefusal} {count : ℕ} {value : ℕ → Float} {x : Result Unit SecondsRefusal} {b a : List Float} → Writes due count value x b a
    → (returned : SecondsWritten) → returned ≡ seconds_written x → Returns due count value returned b a
returns_written {due} {count} {value} {x} {b} {a} w returned e =
    record { is = e ∙ ap seconds_written w.is; leaves = w.leaves ∙ ap (λ (y : Result Unit SecondsRefusal). left_by y count value b) w.is }

-- ---- no two answers are returned alike
pub written_apart : (x y : Result Unit SecondsRefusal) → seconds_written x ≡ seconds_written y → x ≡ y
written_apart (Ok _) (Ok _) e = refl
written_apart (Ok _) (Err s) e = let n : 0 ≡ seconds_number s = ap (λ (w : SecondsWritten). w.refusal) e in absurd (omega (arith, number_some s))
written_apart (Err r) (Ok _) e = let n : seconds_number r ≡ 0 = ap (λ (w : SecondsWritten). w.refusal) e in absurd (omega (arith, number_some r))
written_apart (Err r) (Err s) e = ap Err (one_refusal r s (ap (λ (w : SecondsWritten). w.refusal) e) (ap (λ (w : SecondsWritten). w.place) e))
