-- What was demanded of models in seconds, in the words of docs/SPECIFICATION.md, each statement proved by citing the rest.
--
-- A reader has to believe the clock and the seconds of a count (`seconds_of_lem` and `usable` in seconds/specs/Clock.antt), the toolchain's floats (`mul`, `div`,
-- `round` and `le` in its lib.Ieee, which rounds to nearest, ties to even), the tables of refusals (`ModelRefuses` and `EventsRefuse` in
-- seconds/specs/Refused.antt), and the words of Demands.antt. The promises of the calls are `ModelWritten`, `FormWritten` and `EventsWritten`
-- (seconds/specs/Promise.antt); the exported functions return `ModelReturns` and `EventsReturn`.
use Rattle.std.specs.Prelude.{◌≡◌, refl, ◌↔◌, true, false, List, ℕ, ◌*◌, ◌<◌, Float, ℤ, pos, nat_abs, length, get_or, drop, Err, Ok, Result}
use Rattle.std.proofs.Common.{sym, ap, ap₂, ◌∙◌, arith}
use Rattle.std.specs.Float.{nan, binary64}
use Rattle.std.specs.Float.Ieee.{of_int, round, le, is_nan}
use Rattle.std.specs.Float.Ieee.Exact.{HasValue}
use Rattle.integers.specs.Integer.{◌⩽◌, Within}
use Rattle.integers.proofs.Halving.{within_is, abs_within}
use Rattle.lines.specs.Valid.{valid_list}
use Rattle.decide.specs.declared.Answer.TheVariants as decide
use Rattle.decide.specs.Parts.{model_in_lem}
use Rattle.seconds.specs.declared.Clock.{Clock}
use Rattle.seconds.specs.declared.SecondsRefusal.{SecondsRefusal}
use Rattle.seconds.specs.declared.SecondsRefusal.TheVariants.{CountOutside}
use Rattle.seconds.specs.Clock.{max_count, seconds_of_lem, usable_clock_lem, usable_form_lem, clock_of_lem}
use Rattle.seconds.specs.Promise.{model_answer, form_answer, events_answer_lem, clock_at, Writes, ModelWritten, FormWritten, EventsWritten}
use Rattle.seconds.specs.Rounded.{over, under, negative, count_exact, seconds_rounded}
use Rattle.seconds.specs.Ordered.{order_kept, never_nan}
use Rattle.seconds.specs.Outcomes.{filled_at, filled_beyond, model_ordered, events_ordered}
use Rattle.seconds.specs.Refused.{ModelRefuses, EventsRefuse, model_refused, form_answer_law, events_refused}
use Rattle.c_seconds.specs.declared.SecondsWritten.{SecondsWritten}
use Rattle.c_seconds.specs.Seconds.{seconds_written, ModelReturns, EventsReturn, written_apart}
use Rattle.demands.specs.Calls.{Engine, CallOf, call_valid, call_written}
use Rattle.demands.specs.Shown.{value_small}

-- ---- the seconds of a count

-- A count as a float is the count, exactly: `HasValue` has its sign and its size.
pub counts_are_exact : (z : ℤ) → Within max_count z → HasValue (of_int binary64 z) (negative z) (nat_abs z) 1
counts_are_exact z w = count_exact z (within_is max_count z w)

-- The seconds are correctly rounded, by either form of a clock: with a tick of `over c` / `under c` seconds, exactly, they are the exact seconds of the count
-- rounded once.
pub correctly_rounded : (c : Clock) (z : ℤ) → usable_clock_lem c ≡ true → Within max_count z → seconds_of_lem c z ≡ round binary64 (negative z) (nat_abs z * over c) (under c)
correctly_rounded c z u w = seconds_rounded c z u (within_is max_count z w)

-- Order is kept: of two counts of one clock, the smaller never has the larger seconds, and none is a NaN.
pub seconds_keep_order : (c : Clock) (y z : ℤ) → usable_clock_lem c ≡ true → Within max_count y → Within max_count z → y ⩽ z → le (seconds_of_lem c y) (seconds_of_lem c z) ≡ true
seconds_keep_order c y z u v w = order_kept c y z u (within_is max_count y v) (within_is max_count z w)

pub seconds_are_numbers : (c : Clock) (z : ℤ) → usable_clock_lem c ≡ true → Within max_count z → is_nan (seconds_of_lem c z) ≡ false
seconds_are_numbers c z u w = never_nan c z u (within_is max_count z w)

-- ---- the refusals: each is given exactly if its condition holds and none that goes before does

-- One clock: 50, then 51 at the lowest index, then 52; a clock that is given as a form is refused the same way where its form is none.
pub model_refused_exactly_if : (c : Clock) (counts : List ℤ) (x : Result Unit SecondsRefusal) (b a : List Float) → ModelWritten c counts x b a
    → (r : SecondsRefusal) → (x ≡ Err r) ↔ ModelRefuses (usable_clock_lem c) counts (length b) r
model_refused_exactly_if c counts x b a d r =
    let f = model_refused (usable_clock_lem c) counts (length b) r in ((λ e. f.0 (sym d.is ∙ e)), (λ h. d.is ∙ f.1 h))

pub form_refused_exactly_if : (form : ℕ) (rate : Float) (counts : List ℤ) (x : Result Unit SecondsRefusal) (b a : List Float) → FormWritten form rate counts x b a
    → (r : SecondsRefusal) → (x ≡ Err r) ↔ ModelRefuses (usable_form_lem form rate) counts (length b) r
form_refused_exactly_if form rate counts x b a d r =
    let f = model_refused (usable_form_lem form rate) counts (length b) r in
    let is = d.is ∙ form_answer_law form rate counts (length b) in
    ((λ e. f.0 (sym is ∙ e)), (λ h. is ∙ f.1 h))

-- A table: 54, then 50 at the lowest recorder, then 53 at the lowest event, then 51 at the lowest index, then 52.
pub events_refused_exactly_if : (forms : List ℕ) (rates : List Float) (recorders : List ℕ) (counts : List ℤ) (x : Result Unit SecondsRefusal) (b a : List Float)
    → EventsWritten forms rates recorders counts x b a → (r : SecondsRefusal) → (x ≡ Err r) ↔ EventsRefuse forms rates recorders counts (length b) r
events_refused_exactly_if forms rates recorders counts x b a d r =
    let f = events_refused forms rates recorders counts (length b) r in ((λ e. f.0 (sym d.is ∙ e)), (λ h. d.is ∙ f.1 h))

-- A refusal leaves the buffer as it was, in every call. That the calls end is part of every promise.
pub refused_seconds_change_nothing : (due : Result Unit SecondsRefusal) (count : ℕ) (value : ℕ → Float) (r : SecondsRefusal) (b a : List Float) → Writes due count value (Err r) b a → a ≡ b
refused_seconds_change_nothing due count value r b a d = d.leaves

-- ---- else the seconds are written

-- Each float is the seconds of its count by the clock of its recorder, and what lies beyond them is untouched.
pub record AllSeconds (clock : ℕ → Clock) (counts : List ℤ) (b a : List Float) : Type 0 where
  pub each : (i : ℕ) → i < length counts → get_or a i nan ≡ seconds_of_lem (clock i) (get_or counts i (pos 0))
  pub beyond : drop (length counts) a ≡ drop (length counts) b

all_seconds : (due : Result Unit SecondsRefusal) (clock : ℕ → Clock) (counts : List ℤ) (b a : List Float)
    → Writes due (length counts) (λ i. seconds_of_lem (clock i) (get_or counts i (pos 0))) (Ok tt) b a → AllSeconds clock counts b a
all_seconds due clock counts b a d =
    let value : ℕ → Float = λ i. seconds_of_lem (clock i) (get_or counts i (pos 0)) in
    record {
      each = λ i h. ap (λ (s : List Float). get_or s i nan) d.leaves ∙ filled_at value b (length counts) i h;
      beyond = ap (drop (length counts)) d.leaves ∙ filled_beyond value b (length counts);
    }

pub model_written : (c : Clock) (counts : List ℤ) (b a : List Float) → ModelWritten c counts (Ok tt) b a → AllSeconds (λ i. c) counts b a
model_written c counts b a d = all_seconds (model_answer c counts (length b)) (λ i. c) counts b a d

pub form_written : (form : ℕ) (rate : Float) (counts : List ℤ) (b a : List Float) → FormWritten form rate counts (Ok tt) b a → AllSeconds (λ i. clock_of_lem form rate) counts b a
form_written form rate counts b a d = all_seconds (form_answer form rate counts (length b)) (λ i. clock_of_lem form rate) counts b a d

pub events_written : (forms : List ℕ) (rates : List Float) (recorders : List ℕ) (counts : List ℤ) (b a : List Float) → EventsWritten forms rates recorders counts (Ok tt) b a
    → AllSeconds (λ i. clock_at forms rates (get_or recorders i 0)) counts b a
events_written forms rates recorders counts b a d =
    all_seconds (events_answer_lem forms rates recorders counts (length b)) (λ i. clock_at forms rates (get_or recorders i 0)) counts b a d

-- Of two events of one recorder, the one with the smaller count never has the larger seconds.
pub events_keep_order : (forms : List ℕ) (rates : List Float) (recorders : List ℕ) (counts : List ℤ) (b a : List Float) → EventsWritten forms rates recorders counts (Ok tt) b a
    → (i j : ℕ) → i < length counts → j < length counts → get_or recorders i 0 ≡ get_or recorders j 0 → get_or counts i (pos 0) ⩽ get_or counts j (pos 0)
    → le (get_or a i nan) (get_or a j nan) ≡ true
events_keep_order forms rates recorders counts b a d i j h k same less =
    let w = events_written forms rates recorders counts b a d in
    ap₂ le (w.each i h) (w.each j k) ∙ events_ordered forms rates recorders counts (length b) (sym d.is) i j h k same less

pub model_keeps_order : (c : Clock) (counts : List ℤ) (b a : List Float) → ModelWritten c counts (Ok tt) b a
    → (i j : ℕ) → i < length counts → j < length counts → get_or counts i (pos 0) ⩽ get_or counts j (pos 0) → le (get_or a i nan) (get_or a j nan) ≡ true
model_keeps_order c counts b a d i j h k less =
    let w = model_written c counts b a d in
    ap₂ le (w.each i h) (w.each j k) ∙ model_ordered c counts (length b) (sym d.is) i j h k less

-- ---- a model that deciding wrote, by either engine

module _ {e : Engine} (n : ℕ) (L : List ℤ) (c : CallOf e n L) (yes : c.answer ≡ Ok decide.Yes) where
  -- Each value of a model that deciding wrote is a count, so that it is never refused for one.
  pub decided_counts_are_small : (k : ℕ) → k < length (model_in_lem n c.after) → Within max_count (get_or (model_in_lem n c.after) k (pos 0))
  decided_counts_are_small k h =
      let v = call_valid c in
      let few = (valid_list n L v).variables in
      let small = value_small n L _ _ _ v (call_written c yes) k h in
      abs_within max_count (get_or (model_in_lem n c.after) k (pos 0)) (omega (arith, small, few))

  pub decided_count_is_never_refused : (forms : List ℕ) (rates : List Float) (recorders : List ℕ) (x : Result Unit SecondsRefusal) (b a : List Float) → EventsWritten forms rates recorders (model_in_lem n c.after) x b a
      → (k : ℕ) → x ≡ Err (CountOutside k) → ⊥
  decided_count_is_never_refused forms rates recorders x b a d k q =
      let w = ((events_refused_exactly_if forms rates recorders (model_in_lem n c.after) x b a d (CountOutside k)).0 q).3 in
      w.bad (decided_counts_are_small k w.below)

  -- Of two events of one recorder in it, the one with the smaller value never has the larger seconds: no rounding puts an effect before its cause.
  pub decided_order_is_kept : (forms : List ℕ) (rates : List Float) (recorders : List ℕ) (b a : List Float) → EventsWritten forms rates recorders (model_in_lem n c.after) (Ok tt) b a
      → (i j : ℕ) → i < n → j < n → get_or recorders i 0 ≡ get_or recorders j 0 → get_or (model_in_lem n c.after) i (pos 0) ⩽ get_or (model_in_lem n c.after) j (pos 0)
      → le (get_or a i nan) (get_or a j nan) ≡ true
  decided_order_is_kept forms rates recorders b a d i j h k same less =
      let size = (call_written c yes).model_length in
      events_keep_order forms rates recorders (model_in_lem n c.after) b a d i j (omega (arith, size)) (omega (arith, size)) same less

-- ---- the exported functions

-- What they return is a refusal's number and place, or 0 and 0, and what they leave is what the call with that answer leaves.
pub returned_model_seconds : (form : ℕ) (rate : Float) (counts : List ℤ) (r : SecondsWritten) (b a : List Float) → ModelReturns form rate counts r b a
    → (x : Result Unit SecondsRefusal) × (r ≡ seconds_written x) × FormWritten form rate counts x b a
returned_model_seconds form rate counts r b a d = (form_answer form rate counts (length b), d.is, record { is = refl; leaves = d.leaves })

pub returned_events_seconds : (forms : List ℕ) (rates : List Float) (recorders : List ℕ) (counts : List ℤ) (r : SecondsWritten) (b a : List Float)
    → EventsReturn forms rates recorders counts r b a → (x : Result Unit SecondsRefusal) × (r ≡ seconds_written x) × EventsWritten forms rates recorders counts x b a
returned_events_seconds forms rates recorders counts r b a d = (events_answer_lem forms rates recorders counts (length b), d.is, record { is = refl; leaves = d.leaves })

-- No two answers are returned alike.
pub seconds_returned_apart : (x y : Result Unit SecondsRefusal) → seconds_written x ≡ seconds_written y → x ≡ y
seconds_returned_apart x y = written_apart x y
