-- What was written where nothing is refused: each float, what lies beyond, and that the order of counts is kept.
use Rattle.std.specs.Prelude.{◌≡◌, true, List, ℕ, zero, suc, ◌<◌, leb, Float, ℤ, pos, length, get_or, drop, Ok}
use Rattle.std.proofs.Common.{sym, subst, ◌∙◌, drop_at}
use Rattle.std.specs.Float.{nan}
use Rattle.std.specs.Float.Ieee.{le}
use Rattle.std.proofs.Math.ListN.{get_or-append}
use Rattle.integers.specs.Integer.{◌⩽◌}
use Rattle.integers.specs.Laws.{and_true}
use Rattle.integers.specs.Sequence.{tabulate, length_tabulate, get_d_tabulate}
use Rattle.integers.specs.Fill.{filled}
use Rattle.seconds.specs.declared.Clock.{Clock}
use Rattle.seconds.specs.declared.SecondsRefusal.TheVariants.{UnusableClock}
use Rattle.seconds.specs.Clock.{is_count, seconds_of_lem, usable, usable_clock_lem, ticks_form, clock_of_lem, usable_form_lem}
use Rattle.seconds.specs.Promise.{count_at, usable_at, counts_answer_lem, model_answer, events_answer_lem, model_value, clock_at, event_value}
use Rattle.seconds.specs.Laws.{all_pass, test_says, counts_say, events_say, recorder_known}
use Rattle.seconds.specs.Ordered.{order_kept}

-- ---- a buffer that is filled from the front
pub filled_at : (value : ℕ → Float) (b : List Float) (n i : ℕ) → i < n → get_or (filled value b n) i nan ≡ value i
filled_at value b n i h =
    get_or-append (tabulate n value) (drop n b) nan i (subst (λ (k : ℕ). i < k) (sym (length_tabulate n value)) h) ∙ get_d_tabulate n i value nan h

pub filled_beyond : (value : ℕ → Float) (b : List Float) (n : ℕ) → drop n (filled value b n) ≡ drop n b
filled_beyond value b n = drop_at (tabulate n value) (drop n b) n (length_tabulate n value)

-- ---- one clock
module _ (clock : Clock) (counts : List ℤ) (room : ℕ) (done : model_answer clock counts room ≡ Ok tt) where
  pub model_usable : usable_clock_lem clock ≡ true
  model_usable = (test_says (usable_clock_lem clock) (UnusableClock 0) (counts_answer_lem counts room) done).0

  pub model_count : (i : ℕ) → i < length counts → is_count (get_or counts i (pos 0)) ≡ true
  model_count = all_pass (length counts) (count_at counts) (counts_say counts room (test_says (usable_clock_lem clock) (UnusableClock 0) (counts_answer_lem counts room) done).1).0

  pub model_ordered : (i j : ℕ) → i < length counts → j < length counts → get_or counts i (pos 0) ⩽ get_or counts j (pos 0) → le (model_value clock counts i) (model_value clock counts j) ≡ true
  model_ordered i j h k = order_kept clock (get_or counts i (pos 0)) (get_or counts j (pos 0)) model_usable (model_count i h) (model_count j k)

-- ---- a table of recorders
clock_usable : (form : ℕ) (rate : Float) → usable_form_lem form rate ≡ true → usable_clock_lem (clock_of_lem form rate) ≡ true
clock_usable form rate e = of form (and_true (leb form ticks_form) (usable rate) e).1
  where
    of : (form : ℕ) → usable rate ≡ true → usable_clock_lem (clock_of_lem form rate) ≡ true
    of zero h = h
    of (suc k) h = h

module _ (forms : List ℕ) (rates : List Float) (recorders : List ℕ) (counts : List ℤ) (room : ℕ) (done : events_answer_lem forms rates recorders counts room ≡ Ok tt) where
  pub event_named : (i : ℕ) → i < length counts → get_or recorders i 0 < length forms
  event_named i h = (recorder_known forms rates recorders counts room (events_say forms rates recorders counts room done) i h).0

  pub event_usable : (i : ℕ) → i < length counts → usable_clock_lem (clock_at forms rates (get_or recorders i 0)) ≡ true
  event_usable i h =
      let w = events_say forms rates recorders counts room done in
      let r = get_or recorders i 0 in
      clock_usable (get_or forms r 0) (get_or rates r nan) (all_pass (length forms) (usable_at forms rates) w.clocks r (event_named i h))

  pub event_count : (i : ℕ) → i < length counts → is_count (get_or counts i (pos 0)) ≡ true
  event_count = all_pass (length counts) (count_at counts) (events_say forms rates recorders counts room done).inside

  pub events_ordered : (i j : ℕ) → i < length counts → j < length counts → get_or recorders i 0 ≡ get_or recorders j 0 → get_or counts i (pos 0) ⩽ get_or counts j (pos 0)
      → le (event_value forms rates recorders counts i) (event_value forms rates recorders counts j) ≡ true
  events_ordered i j h k same less =
      subst (λ (r : ℕ). le (event_value forms rates recorders counts i) (seconds_of_lem (clock_at forms rates r) (get_or counts j (pos 0))) ≡ true) same
      (order_kept (clock_at forms rates (get_or recorders i 0)) (get_or counts i (pos 0)) (get_or counts j (pos 0)) (event_usable i h) (event_count i h) (event_count j k) less)
