-- What writing seconds promises: the answer, by tests in their order, and what the buffer holds after it.
use Rattle.std.specs.Prelude.{◌≡◌, Bool, cond, ◌&&◌, List, ℕ, ◌≤◌, leb, ltb, eqb, Float, ℤ, pos, length, get_or, Err, Ok, Result}
use Rattle.std.specs.Float.{nan}
use Rattle.integers.specs.Fill.{filled}
use Rattle.integers.specs.Lowest.{first_failing_lem}
use Rattle.seconds.specs.declared.Clock.{Clock}
use Rattle.seconds.specs.declared.SecondsRefusal.{SecondsRefusal}
use Rattle.seconds.specs.declared.SecondsRefusal.TheVariants.{UnusableClock, CountOutside, NoRoom, NoRecorder, NoTable}
use Rattle.seconds.specs.Clock.{max_recorders, is_count, seconds_of_lem, usable_clock_lem, ticks_form, clock_of_lem, usable_form_lem}

-- ---- the tests, each by an index
abbrev pub count_at : List ℤ → ℕ → Bool
count_at counts k = is_count (get_or counts k (pos 0))

abbrev pub usable_at : List ℕ → List Float → ℕ → Bool
usable_at forms rates k = usable_form_lem (get_or forms k 0) (get_or rates k nan)

-- event k names one of as many recorders
abbrev pub named_at : ℕ → List ℕ → ℕ → Bool
named_at size recorders k = ltb (get_or recorders k 0) size

-- the lowest index that fails its test, or how many there are
abbrev pub first_outside_lem : List ℤ → ℕ
first_outside_lem counts = first_failing_lem (length counts) (count_at counts)

abbrev pub first_unusable_lem : List ℕ → List Float → ℕ
first_unusable_lem forms rates = first_failing_lem (length forms) (usable_at forms rates)

abbrev pub first_unnamed_lem : ℕ → List ℕ → ℕ
first_unnamed_lem size recorders = first_failing_lem (length recorders) (named_at size recorders)

-- not too many recorders, a number for each form, and a recorder for each count
abbrev pub is_table_lem : ℕ → ℕ → ℕ → ℕ → Bool
is_table_lem forms rates events counts = leb forms max_recorders && eqb forms rates && eqb events counts

-- ---- the answers: what fails is refused, else the next test follows
abbrev pub tested : Bool → SecondsRefusal → Result Unit SecondsRefusal → Result Unit SecondsRefusal
tested ok r next = cond ok next (Err r)

abbrev pub searched : ℕ → (ℕ → Bool) → (ℕ → SecondsRefusal) → Result Unit SecondsRefusal → Result Unit SecondsRefusal
searched n ok r next = tested (leb n (first_failing_lem n ok)) (r (first_failing_lem n ok)) next

-- 51, 50 and 53, each alone
abbrev pub counts_inside_lem : List ℤ → Result Unit SecondsRefusal
counts_inside_lem counts = searched (length counts) (count_at counts) CountOutside (Ok tt)

abbrev pub clocks_usable_lem : List ℕ → List Float → Result Unit SecondsRefusal
clocks_usable_lem forms rates = searched (length forms) (usable_at forms rates) UnusableClock (Ok tt)

abbrev pub recorders_named_lem : ℕ → List ℕ → Result Unit SecondsRefusal
recorders_named_lem size recorders = searched (length recorders) (named_at size recorders) NoRecorder (Ok tt)

-- 51, 52
abbrev pub counts_answer_lem : List ℤ → ℕ → Result Unit SecondsRefusal
counts_answer_lem counts room = searched (length counts) (count_at counts) CountOutside (tested (leb (length counts) room) NoRoom (Ok tt))

-- 50, 51, 52
abbrev pub model_answer : Clock → List ℤ → ℕ → Result Unit SecondsRefusal
model_answer clock counts room = tested (usable_clock_lem clock) (UnusableClock 0) (counts_answer_lem counts room)

abbrev pub form_answer : ℕ → Float → List ℤ → ℕ → Result Unit SecondsRefusal
form_answer form rate counts room = tested (leb form ticks_form) (UnusableClock 0) (model_answer (clock_of_lem form rate) counts room)

-- 53, 51, 52
abbrev pub named_answer : ℕ → List ℕ → List ℤ → ℕ → Result Unit SecondsRefusal
named_answer size recorders counts room = searched (length recorders) (named_at size recorders) NoRecorder (counts_answer_lem counts room)

-- 50, 53, 51, 52
abbrev pub clocks_answer : List ℕ → List Float → List ℕ → List ℤ → ℕ → Result Unit SecondsRefusal
clocks_answer forms rates recorders counts room = searched (length forms) (usable_at forms rates) UnusableClock (named_answer (length forms) recorders counts room)

-- 54, 50, 53, 51, 52
abbrev pub events_answer_lem : List ℕ → List Float → List ℕ → List ℤ → ℕ → Result Unit SecondsRefusal
events_answer_lem forms rates recorders counts room =
    tested (is_table_lem (length forms) (length rates) (length recorders) (length counts)) NoTable (clocks_answer forms rates recorders counts room)

-- ---- the seconds of count k: by the one clock, or by the clock of its own recorder
abbrev pub model_value : Clock → List ℤ → ℕ → Float
model_value clock counts k = seconds_of_lem clock (get_or counts k (pos 0))

abbrev pub clock_at : List ℕ → List Float → ℕ → Clock
clock_at forms rates r = clock_of_lem (get_or forms r 0) (get_or rates r nan)

abbrev pub event_value : List ℕ → List Float → List ℕ → List ℤ → ℕ → Float
event_value forms rates recorders counts k = seconds_of_lem (clock_at forms rates (get_or recorders k 0)) (get_or counts k (pos 0))

-- ---- the promise, of any answer due and any values: b is what the buffer held before, a what it holds after
abbrev pub left_by : Result Unit SecondsRefusal → ℕ → (ℕ → Float) → List Float → List Float
left_by (Ok _) count value b = filled value b count
left_by (Err r) count value b = b

pub record Writes (due : Result Unit SecondsRefusal) (count : ℕ) (value : ℕ → Float) (x : Result Unit SecondsRefusal) (b a : List Float) : Type 0 where
  pub is : x ≡ due
  pub leaves : a ≡ left_by x count value b

abbrev pub ModelWritten : Clock → List ℤ → Result Unit SecondsRefusal → (b a : List Float) → Type 0
ModelWritten clock counts x b a = Writes (model_answer clock counts (length b)) (length counts) (model_value clock counts) x b a

abbrev pub FormWritten : ℕ → Float → List ℤ → Result Unit SecondsRefusal → (b a : List Float) → Type 0
FormWritten form rate counts x b a = Writes (form_answer form rate counts (length b)) (length counts) (model_value (clock_of_lem form rate) counts) x b a

abbrev pub EventsWritten : List ℕ → List Float → List ℕ → List ℤ → Result Unit SecondsRefusal → (b a : List Float) → Type 0
EventsWritten forms rates recorders counts x b a =
    Writes (events_answer_lem forms rates recorders counts (length b)) (length counts) (event_value forms rates recorders counts) x b a

-- what an answer that is no refusal says of events
pub record EventsOk (forms : List ℕ) (rates : List Float) (recorders : List ℕ) (counts : List ℤ) (room : ℕ) : Type 0 where
  pub rated : length forms ≡ length rates
  pub each : length recorders ≡ length counts
  pub clocks : length forms ≤ first_unusable_lem forms rates
  pub named : length recorders ≤ first_unnamed_lem (length forms) recorders
  pub inside : length counts ≤ first_outside_lem counts
  pub fits : length counts ≤ room
