-- The ways through a test and a search, each once for every call: what is answered, and what it says that nothing is refused.
use Rattle.std.specs.Prelude.{◌≡◌, refl, ◌⊎◌, Bool, true, false, cond, not, ◌&&◌, List, ℕ, zero, suc, ◌+◌, ◌<◌, ◌≤◌, leb, eqb, Float, ℤ, length, get_or, Err, Ok, Result}
use Rattle.std.proofs.Common.{sym, ap, ◌∙◌, inl, inr, arith, le-leb, leb-true, ltb-true, eqb-true}
use Rattle.std.proofs.lemmas.Bool.{lt-leb, not-false}
use Rattle.integers.specs.Fill.{filled}
use Rattle.integers.specs.Laws.{never, and_true}
use Rattle.integers.specs.Lowest.{Searched, searched_more, Passed, NonePassed, lowest_known, first_failing_lem}
use Rattle.seconds.specs.declared.Clock.{Clock}
use Rattle.seconds.specs.declared.Clock.TheVariants.{SecondsPerTick, TicksPerSecond}
use Rattle.seconds.specs.declared.SecondsRefusal.{SecondsRefusal}
use Rattle.seconds.specs.declared.SecondsRefusal.TheVariants.{UnusableClock, CountOutside, NoRoom, NoRecorder, NoTable}
use Rattle.seconds.specs.Clock.{max_recorders, ticks_form, clock_of_lem}
use Rattle.seconds.specs.Promise.{count_at, usable_at, named_at, first_outside_lem, is_table_lem, tested, searched, counts_answer_lem, model_answer, named_answer, clocks_answer, events_answer_lem, model_value, left_by, Writes, FormWritten, ModelWritten, EventsOk}

-- ---- a test
module _ (ok : Bool) (r : SecondsRefusal) (next : Result Unit SecondsRefusal) where
  pub test_passed : ok ≡ true → next ≡ tested ok r next
  test_passed h = ap (λ (t : Bool). cond t next (Err r)) (sym h)

  pub test_failed : ok ≡ false → Err r ≡ tested ok r next
  test_failed h = ap (λ (t : Bool). cond t next (Err r)) (sym h)

pub test_says : (ok : Bool) (r : SecondsRefusal) (next : Result Unit SecondsRefusal) → tested ok r next ≡ Ok tt → (ok ≡ true) × (next ≡ Ok tt)
test_says true r next e = (refl, e)
test_says false r next e = never (cc)

-- ---- a search
-- where it ends with n, all below n pass
pub all_pass : (n : ℕ) (ok : ℕ → Bool) → n ≤ first_failing_lem n ok → (i : ℕ) → i < n → ok i ≡ true
all_pass n ok h i l = go (lowest_known (λ k. not (ok k)) zero n)
  where
    go : Passed (λ k. not (ok k)) zero (zero + n) (first_failing_lem n ok) ⊎ NonePassed (λ k. not (ok k)) zero (zero + n) (first_failing_lem n ok) → ok i ≡ true
    go (inl s) = absurd (omega (arith, s.below))
    go (inr s) = not-false _ (s.fails i (omega arith) (omega arith))

module _ (n : ℕ) (ok : ℕ → Bool) (r : ℕ → SecondsRefusal) (next : Result Unit SecondsRefusal) where
  pub search_passed : (i : ℕ) → i ≡ first_failing_lem n ok → n ≤ i → next ≡ searched n ok r next
  search_passed i e h = let f : n ≤ first_failing_lem n ok = omega arith in test_passed (leb n (first_failing_lem n ok)) (r (first_failing_lem n ok)) next (le-leb n (first_failing_lem n ok) f)

  pub search_failed : (i : ℕ) → i ≡ first_failing_lem n ok → i < n → Err (r i) ≡ searched n ok r next
  search_failed i e h =
      let f : first_failing_lem n ok < n = omega arith in
      ap (λ (k : ℕ). Err (r k)) e ∙ test_failed (leb n (first_failing_lem n ok)) (r (first_failing_lem n ok)) next (lt-leb n (first_failing_lem n ok) f)

  pub search_says : searched n ok r next ≡ Ok tt → (n ≤ first_failing_lem n ok) × (next ≡ Ok tt)
  search_says e = let t = test_says (leb n (first_failing_lem n ok)) (r (first_failing_lem n ok)) next e in (leb-true n (first_failing_lem n ok) t.0, t.1)

-- none of the numbers up to i is found where none before it is, and it passes
pub search_more : (n : ℕ) (ok : ℕ → Bool) (i : ℕ) → i < n → ok i ≡ true → Searched (λ k. not (ok k)) n i → Searched (λ k. not (ok k)) n (i + 1)
search_more n ok i h e s = searched_more (λ k. not (ok k)) n i h (ap not e) s

-- ---- what it says that nothing is refused
pub counts_say : (counts : List ℤ) (room : ℕ) → counts_answer_lem counts room ≡ Ok tt → (length counts ≤ first_outside_lem counts) × (length counts ≤ room)
counts_say counts room e =
    let s = search_says (length counts) (count_at counts) CountOutside (tested (leb (length counts) room) NoRoom (Ok tt)) e in
    (s.0, leb-true (length counts) room (test_says (leb (length counts) room) NoRoom (Ok tt) s.1).0)

pub table_says : (forms rates events counts : ℕ) → is_table_lem forms rates events counts ≡ true → (forms ≤ max_recorders) × (forms ≡ rates) × (events ≡ counts)
table_says forms rates events counts e =
    let a = and_true (leb forms max_recorders && eqb forms rates) (eqb events counts) e in
    let b = and_true (leb forms max_recorders) (eqb forms rates) a.0 in
    (leb-true forms max_recorders b.0, eqb-true forms rates b.1, eqb-true events counts a.1)

pub events_say : (forms : List ℕ) (rates : List Float) (recorders : List ℕ) (counts : List ℤ) (room : ℕ) → events_answer_lem forms rates recorders counts room ≡ Ok tt
    → EventsOk forms rates recorders counts room
events_say forms rates recorders counts room e =
    let a = test_says (is_table_lem (length forms) (length rates) (length recorders) (length counts)) NoTable (clocks_answer forms rates recorders counts room) e in
    let t = table_says (length forms) (length rates) (length recorders) (length counts) a.0 in
    let b = search_says (length forms) (usable_at forms rates) UnusableClock (named_answer (length forms) recorders counts room) a.1 in
    let d = search_says (length recorders) (named_at (length forms) recorders) NoRecorder (counts_answer_lem counts room) b.1 in
    let g = counts_say counts room d.1 in
    record { rated = t.1; each = t.2; clocks = b.0; named = d.0; inside = g.0; fits = g.1 }

-- the recorder of each event is one of the table's
pub recorder_known : (forms : List ℕ) (rates : List Float) (recorders : List ℕ) (counts : List ℤ) (room : ℕ) → EventsOk forms rates recorders counts room → (i : ℕ) → i < length counts
    → (get_or recorders i 0 < length forms) × (get_or recorders i 0 < length rates)
recorder_known forms rates recorders counts room ok i h =
    let size = length forms in
    let l : i < length recorders = omega (arith, ok.each) in
    let known = ltb-true (get_or recorders i 0) size (all_pass (length recorders) (named_at size recorders) ok.named i l) in
    (known, omega (arith, ok.rated))

-- ---- the promise, of any values
module _ (due : Result Unit SecondsRefusal) (count : ℕ) (value : ℕ → Float) (b : List Float) where
  pub writes_none : (r : SecondsRefusal) → Err r ≡ due → Writes due count value (Err r) b b
  writes_none r e = record { is = e; leaves = refl }

  pub writes_all : (a : List Float) → Ok tt ≡ due → a ≡ filled value b count → Writes due count value (Ok tt) b a
  writes_all a e l = record { is = e; leaves = l }

-- ---- a clock by its form
pub form_seconds : (form : ℕ) (rate : Float) → form ≡ 0 → SecondsPerTick rate ≡ clock_of_lem form rate
form_seconds zero rate h = refl
form_seconds (suc form) rate h = absurd (omega arith)

pub form_ticks : (form : ℕ) (rate : Float) → (form ≡ 0 → ⊥) → TicksPerSecond rate ≡ clock_of_lem form rate
form_ticks zero rate h = absurd (h refl)
form_ticks (suc form) rate h = refl

pub form_written : (form : ℕ) (rate : Float) (clock : Clock) (counts : List ℤ) (x : Result Unit SecondsRefusal) (b a : List Float) → form ≤ ticks_form → clock ≡ clock_of_lem form rate
    → ModelWritten clock counts x b a → FormWritten form rate counts x b a
form_written form rate clock counts x b a h e w =
    record {
      is =
          w.is
          ∙ ap (λ (c : Clock). model_answer c counts (length b)) e
          ∙ test_passed (leb form ticks_form) (UnusableClock 0) (model_answer (clock_of_lem form rate) counts (length b)) (le-leb form ticks_form h);
      leaves = w.leaves ∙ ap (λ (c : Clock). left_by x (length counts) (model_value c counts) b) e;
    }
