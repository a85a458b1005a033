-- Versions of writing seconds that go wrong in one thing, each a definition, and at named counts what breaks the promise. Beside them the versions that keep
-- it, so that those break it only by what they do otherwise. A float is written by its bits.
use Rattle.seconds.specs.declared.SecondsRefusal.{SecondsRefusal}
use Rattle.std.specs.Prelude.{◌≡◌, refl, List, [], ◌∷◌, ℕ, Float, ℤ, pos, length, get_or, Err, Result}
use Rattle.std.proofs.Common.{ap, arith}
use Rattle.std.specs.Float.{nan, inf, fin, binary64}
use Rattle.std.specs.Float.Ieee.{of_bits, of_int, mul, div}
use Rattle.integers.specs.Laws.{never}
use Rattle.seconds.specs.declared.Clock.{Clock}
use Rattle.seconds.specs.declared.Clock.TheVariants.{SecondsPerTick, TicksPerSecond}
use Rattle.seconds.specs.declared.SecondsRefusal.TheVariants.{UnusableClock, NoRecorder, NoTable}
use Rattle.seconds.specs.Clock.{seconds_of_lem, rate_of}
use Rattle.seconds.specs.Promise.{usable_at, named_at, is_table_lem, tested, searched, counts_answer_lem, model_answer, events_answer_lem, clock_at, left_by, ModelWritten, EventsWritten}

-- what a call gives back
pub record Done : Type 0 where
  pub answer : Result Unit SecondsRefusal
  pub after : List Float

-- the promises, of any version of the calls
abbrev pub KeepsModel : (Clock → List ℤ → List Float → Done) → Type 0
KeepsModel f = (c : Clock) (counts : List ℤ) (b : List Float) → ModelWritten c counts (f c counts b).answer b (f c counts b).after

abbrev pub KeepsEvents : (List ℕ → List Float → List ℕ → List ℤ → List Float → Done) → Type 0
KeepsEvents f =
    (forms : List ℕ) (rates : List Float) (recorders : List ℕ) (counts : List ℤ) (b : List Float)
    → EventsWritten forms rates recorders counts (f forms rates recorders counts b).answer b (f forms rates recorders counts b).after

-- ---- versions that keep them
-- a call with the right answer that writes the seconds of each count by some rule
abbrev model_by : (Clock → ℤ → Float) → Clock → List ℤ → List Float → Done
model_by rule c counts b =
    let x = model_answer c counts (length b) in record { answer = x; after = left_by x (length counts) (λ i. rule c (get_or counts i (pos 0))) b }

-- the same of events, where a rule says which recorder is an event's
abbrev events_by : (List ℕ → ℕ → ℕ) → List ℕ → List Float → List ℕ → List ℤ → List Float → Done
events_by whose forms rates recorders counts b =
    let x = events_answer_lem forms rates recorders counts (length b) in
    record { answer = x; after = left_by x (length counts) (λ i. seconds_of_lem (clock_at forms rates (whose recorders i)) (get_or counts i (pos 0))) b }

pub right_model_keeps : KeepsModel (model_by seconds_of_lem)
right_model_keeps c counts b = record { is = refl; leaves = refl }

pub right_events_keep : KeepsEvents (events_by (λ recorders i. get_or recorders i 0))
right_events_keep forms rates recorders counts b = record { is = refl; leaves = refl }

-- ---- the clocks: 0.1 seconds per tick, and 10 ticks per second
abbrev tenth : Float
tenth = of_bits binary64 0x3fb999999999999a

abbrev ten : Float
ten = of_bits binary64 0x4024000000000000

abbrev one : Float
one = of_bits binary64 0x3ff0000000000000

abbrev zero_seconds : Float
zero_seconds = of_bits binary64 0

-- the digits of a float, which tell floats apart
abbrev digits : Float → ℕ
digits nan = 0
digits (inf s) = 0
digits (fin s m e) = m

-- ---- ticks per second are multiplied
pub multiplied : Clock → List ℤ → List Float → Done
multiplied = model_by (λ c z. mul binary64 (of_int binary64 z) (rate_of c))

pub multiplied_breaks : KeepsModel multiplied → ⊥
unfolding multiplied of_bits of_int mul div
multiplied_breaks k = let e = ap (λ (a : List Float). digits (get_or a 0 nan)) (k (TicksPerSecond ten) (pos 3 ∷ []) (nan ∷ [])).leaves in omega (arith, e)

-- ---- the reciprocal is multiplied, which rounds twice
abbrev by_reciprocal : Clock → ℤ → Float
by_reciprocal (SecondsPerTick s) z = seconds_of_lem (SecondsPerTick s) z
by_reciprocal (TicksPerSecond t) z = mul binary64 (of_int binary64 z) (div binary64 one t)

pub reciprocal_multiplied : Clock → List ℤ → List Float → Done
reciprocal_multiplied = model_by by_reciprocal

pub reciprocal_multiplied_breaks : KeepsModel reciprocal_multiplied → ⊥
unfolding reciprocal_multiplied of_bits of_int mul div
reciprocal_multiplied_breaks k = let e = ap (λ (a : List Float). digits (get_or a 0 nan)) (k (TicksPerSecond ten) (pos 3 ∷ []) (nan ∷ [])).leaves in omega (arith, e)

-- ---- one recorder's clock for all: that of the first event
pub first_for_all : List ℕ → List Float → List ℕ → List ℤ → List Float → Done
first_for_all = events_by (λ recorders i. get_or recorders 0 0)

pub first_for_all_breaks : KeepsEvents first_for_all → ⊥
unfolding first_for_all of_bits of_int mul div
first_for_all_breaks k =
    let e = ap (λ (a : List Float). digits (get_or a 1 nan)) (k (0 ∷ 1 ∷ []) (tenth ∷ ten ∷ []) (0 ∷ 1 ∷ []) (pos 3 ∷ pos 3 ∷ []) (nan ∷ nan ∷ [])).leaves in
    omega (arith, e)

-- ---- 53 before 50
abbrev names_first : List ℕ → List Float → List ℕ → List ℤ → ℕ → Result Unit SecondsRefusal
names_first forms rates recorders counts room =
    tested (is_table_lem (length forms) (length rates) (length recorders) (length counts)) NoTable
    (searched (length recorders) (named_at (length forms) recorders) NoRecorder (searched (length forms) (usable_at forms rates) UnusableClock (counts_answer_lem counts room)))

pub refuses_names_first : List ℕ → List Float → List ℕ → List ℤ → List Float → Done
refuses_names_first forms rates recorders counts b = record { answer = names_first forms rates recorders counts (length b); after = b }

pub refuses_names_first_breaks : KeepsEvents refuses_names_first → ⊥
unfolding refuses_names_first of_bits
refuses_names_first_breaks k =
    let e : Err (NoRecorder 0) ≡ Err (UnusableClock 0) = (k (0 ∷ []) (zero_seconds ∷ []) (1 ∷ []) (pos 1 ∷ []) (nan ∷ [])).is in never (cc)
