-- When each refusal of seconds is given: exactly if its condition holds and none that goes before does.
use Rattle.std.specs.Prelude.{◌≡◌, refl, ◌↔◌, ◌⊎◌, Bool, true, false, not, ◌&&◌, List, ℕ, zero, suc, ◌+◌, ◌<◌, ◌≤◌, leb, eqb, Float, ℤ, pos, length, get_or, Err, Ok, Result}
use Rattle.std.proofs.Common.{sym, ap, subst, ◌∙◌, inl, inr, arith, le-leb, leb-false, le-ltb, ltb-false, eq-eqb}
use Rattle.std.proofs.lemmas.Bool.{false≢true, lt-leb, not-true, not-false}
use Rattle.std.proofs.Math.Decide.{dec_lt}
use Rattle.integers.specs.Integer.{Within}
use Rattle.integers.specs.Laws.{never, both_true}
use Rattle.integers.proofs.Halving.{is_within, within_is}
use Rattle.integers.specs.Lowest.{Passed, NonePassed, lowest_known, first_failing_lem}
use Rattle.seconds.specs.declared.SecondsRefusal.{SecondsRefusal}
use Rattle.seconds.specs.declared.SecondsRefusal.TheVariants.{UnusableClock, CountOutside, NoRoom, NoRecorder, NoTable}
use Rattle.seconds.specs.Clock.{max_count, max_recorders, is_count, usable, ticks_form, usable_form_lem}
use Rattle.seconds.specs.Promise.{count_at, usable_at, named_at, is_table_lem, tested, searched, counts_answer_lem, form_answer, named_answer, clocks_answer, events_answer_lem}
use Rattle.seconds.specs.Laws.{all_pass, test_passed, test_failed, search_passed, search_failed, table_says}

-- ---- the conditions
-- of the indices below n, k is the lowest that is bad; or none is
pub record LowestBad (n : ℕ) (Bad : ℕ → Type 0) (k : ℕ) : Type 0 where
  pub below : k < n
  pub bad : Bad k
  pub before : (q : ℕ) → q < k → Bad q → ⊥

abbrev pub NoneBad : ℕ → (ℕ → Type 0) → Type 0
NoneBad n Bad = (k : ℕ) → k < n → Bad k → ⊥

-- count k is not within its limit
abbrev pub OutsideAt : List ℤ → ℕ → Type 0
OutsideAt counts k = Within max_count (get_or counts k (pos 0)) → ⊥

-- the form of recorder k is none, or its number is one that no clock has
abbrev pub UnusableAt : List ℕ → List Float → ℕ → Type 0
UnusableAt forms rates k = usable_at forms rates k ≡ false

-- event k names none of as many recorders
abbrev pub UnnamedAt : ℕ → List ℕ → ℕ → Type 0
UnnamedAt size recorders k = size ≤ get_or recorders k 0

-- at most the most recorders, a number for each form, and a recorder for each count
abbrev pub IsTable : (forms rates events counts : ℕ) → Type 0
IsTable forms rates events counts = (forms ≤ max_recorders) × (forms ≡ rates) × (events ≡ counts)

-- ---- the tables: each refusal by its condition, and that none before it applies
-- one clock: 50, then 51, then 52
abbrev pub ModelRefuses : (usable : Bool) → List ℤ → (room : ℕ) → SecondsRefusal → Type 0
ModelRefuses u counts room (UnusableClock k) = (u ≡ false) × (k ≡ 0)
ModelRefuses u counts room (CountOutside k) = (u ≡ true) × LowestBad (length counts) (OutsideAt counts) k
ModelRefuses u counts room NoRoom = (u ≡ true) × NoneBad (length counts) (OutsideAt counts) × (room < length counts)
ModelRefuses u counts room (NoRecorder k) = ⊥
ModelRefuses u counts room NoTable = ⊥

-- a table: 54, then 50, then 53, then 51, then 52
module _ (forms : List ℕ) (rates : List Float) (recorders : List ℕ) (counts : List ℤ) (room : ℕ) where
  abbrev pub Table : Type 0
  Table = IsTable (length forms) (length rates) (length recorders) (length counts)

  abbrev pub AllUsable : Type 0
  AllUsable = NoneBad (length forms) (UnusableAt forms rates)

  abbrev pub AllNamed : Type 0
  AllNamed = NoneBad (length recorders) (UnnamedAt (length forms) recorders)

  abbrev pub EventsRefuse : SecondsRefusal → Type 0
  EventsRefuse NoTable = Table → ⊥
  EventsRefuse (UnusableClock k) = Table × LowestBad (length forms) (UnusableAt forms rates) k
  EventsRefuse (NoRecorder k) = Table × AllUsable × LowestBad (length recorders) (UnnamedAt (length forms) recorders) k
  EventsRefuse (CountOutside k) = Table × AllUsable × AllNamed × LowestBad (length counts) (OutsideAt counts) k
  EventsRefuse NoRoom = Table × AllUsable × AllNamed × NoneBad (length counts) (OutsideAt counts) × (room < length counts)

-- ---- a search by its condition: the test of an index fails exactly if it is bad
module _ (n : ℕ) (ok : ℕ → Bool) (Bad : ℕ → Type 0) (tells : (i : ℕ) → (ok i ≡ false) ↔ Bad i) (r : ℕ → SecondsRefusal) (next : Result Unit SecondsRefusal) where
  abbrev Known : Type 0
  Known = Passed (λ i. not (ok i)) zero (zero + n) (first_failing_lem n ok) ⊎ NonePassed (λ i. not (ok i)) zero (zero + n) (first_failing_lem n ok)

  fine : (i : ℕ) → ok i ≡ true → Bad i → ⊥
  fine i e b = false≢true (sym ((tells i).1 b) ∙ e)

  passes : (i : ℕ) → (Bad i → ⊥) → ok i ≡ true
  passes i h = go (ok i) refl
    where
      go : (t : Bool) → ok i ≡ t → t ≡ true
      go true e = refl
      go false e = absurd (h ((tells i).0 e))

  pub found_lowest : first_failing_lem n ok < n → LowestBad n Bad (first_failing_lem n ok)
  found_lowest l = go (lowest_known (λ i. not (ok i)) zero n)
    where
      go : Known → LowestBad n Bad (first_failing_lem n ok)
      go (inl s) = record { below = l; bad = (tells _).0 (not-true _ s.passes); before = λ q h. fine q (not-false _ (s.before q (omega arith) h)) }
      go (inr s) = absurd (omega (arith, s.at_end))

  pub none_found : n ≤ first_failing_lem n ok → NoneBad n Bad
  none_found h k l = fine k (all_pass n ok h k l)

  lowest_is : (k : ℕ) → LowestBad n Bad k → k ≡ first_failing_lem n ok
  lowest_is k b = go (lowest_known (λ i. not (ok i)) zero n)
    where
      go : Known → k ≡ first_failing_lem n ok
      go (inr s) = absurd (fine k (not-false _ (s.fails k (omega arith) (omega (arith, b.below)))) b.bad)
      go (inl s) = pick (dec_lt k (first_failing_lem n ok)) (dec_lt (first_failing_lem n ok) k)
        where
          pick : Dec (k < first_failing_lem n ok) → Dec (first_failing_lem n ok < k) → k ≡ first_failing_lem n ok
          pick (yes l) d = absurd (fine k (not-false _ (s.before k (omega arith) l)) b.bad)
          pick (no l) (yes m) = absurd (b.before (first_failing_lem n ok) m ((tells _).0 (not-true _ s.passes)))
          pick (no l) (no m) = omega arith

  pub lowest_refused : (k : ℕ) → LowestBad n Bad k → searched n ok r next ≡ Err (r k)
  lowest_refused k b = sym (search_failed n ok r next k (lowest_is k b) b.below)

  pub none_refused : NoneBad n Bad → searched n ok r next ≡ next
  none_refused h = go (lowest_known (λ i. not (ok i)) zero n)
    where
      go : Known → searched n ok r next ≡ next
      go (inl s) = let l : first_failing_lem n ok < n = omega (arith, s.below) in absurd (h (first_failing_lem n ok) l ((tells _).0 (not-true _ s.passes)))
      go (inr s) = sym (search_passed n ok r next (first_failing_lem n ok) refl (omega (arith, s.at_end)))

  -- a refusal is that of the lowest, or that of what follows
  pub search_refused : (P : SecondsRefusal → Type 0) → ((k : ℕ) → LowestBad n Bad k → P (r k)) → (NoneBad n Bad → (s : SecondsRefusal) → next ≡ Err s → P s)
      → (s : SecondsRefusal) → searched n ok r next ≡ Err s → P s
  search_refused P f g s e = go (dec_lt (first_failing_lem n ok) n)
    where
      go : Dec (first_failing_lem n ok < n) → P s
      go (yes l) =
          let q : r (first_failing_lem n ok) ≡ s = cc (search_failed n ok r next (first_failing_lem n ok) refl l) in
          subst P q (f (first_failing_lem n ok) (found_lowest l))
      go (no l) = let h : n ≤ first_failing_lem n ok = omega arith in g (none_found h) s (search_passed n ok r next (first_failing_lem n ok) refl h ∙ e)

-- ---- a test
pub test_refused : (ok : Bool) (r : SecondsRefusal) (next : Result Unit SecondsRefusal) (P : SecondsRefusal → Type 0) → (ok ≡ false → P r) → (ok ≡ true → (s : SecondsRefusal) → next ≡ Err s → P s)
    → (s : SecondsRefusal) → tested ok r next ≡ Err s → P s
test_refused true r next P f g s e = g refl s e
test_refused false r next P f g s e = let q : r ≡ s = cc in subst P q (f refl)

-- ---- what the tests tell
outside_tells : (counts : List ℤ) (k : ℕ) → (count_at counts k ≡ false) ↔ OutsideAt counts k
outside_tells counts k = ((λ e w. false≢true (sym e ∙ within_is max_count (get_or counts k (pos 0)) w)), (λ h. go (is_count (get_or counts k (pos 0))) refl h))
  where
    go : (t : Bool) → is_count (get_or counts k (pos 0)) ≡ t → OutsideAt counts k → t ≡ false
    go true e h = absurd (h (is_within max_count (get_or counts k (pos 0)) e))
    go false e h = refl

unusable_tells : (forms : List ℕ) (rates : List Float) (k : ℕ) → (usable_at forms rates k ≡ false) ↔ UnusableAt forms rates k
unusable_tells forms rates k = ((λ e. e), (λ e. e))

unnamed_tells : (size : ℕ) (recorders : List ℕ) (k : ℕ) → (named_at size recorders k ≡ false) ↔ UnnamedAt size recorders k
unnamed_tells size recorders k = (ltb-false (get_or recorders k 0) size, le-ltb (get_or recorders k 0) size)

-- ---- the counts
module _ (counts : List ℤ) (room : ℕ) where
  abbrev room_answer : Result Unit SecondsRefusal
  room_answer = tested (leb (length counts) room) NoRoom (Ok tt)

  counts_refused : (P : SecondsRefusal → Type 0) → ((k : ℕ) → LowestBad (length counts) (OutsideAt counts) k → P (CountOutside k))
      → (NoneBad (length counts) (OutsideAt counts) → room < length counts → P NoRoom)
      → (s : SecondsRefusal) → counts_answer_lem counts room ≡ Err s → P s
  counts_refused P f g =
      search_refused (length counts) (count_at counts) (OutsideAt counts) (outside_tells counts) CountOutside room_answer P f
      (λ all. test_refused (leb (length counts) room) NoRoom (Ok tt) P (λ e. g all (leb-false (length counts) room e)) (λ e s q. never (cc)))

  outside_refused : (k : ℕ) → LowestBad (length counts) (OutsideAt counts) k → counts_answer_lem counts room ≡ Err (CountOutside k)
  outside_refused = lowest_refused (length counts) (count_at counts) (OutsideAt counts) (outside_tells counts) CountOutside room_answer

  room_refused : NoneBad (length counts) (OutsideAt counts) → room < length counts → counts_answer_lem counts room ≡ Err NoRoom
  room_refused all h =
      none_refused (length counts) (count_at counts) (OutsideAt counts) (outside_tells counts) CountOutside room_answer all
      ∙ sym (test_failed (leb (length counts) room) NoRoom (Ok tt) (lt-leb (length counts) room h))

-- ---- one clock
module _ (u : Bool) (counts : List ℤ) (room : ℕ) where
  abbrev clock_answer : Result Unit SecondsRefusal
  clock_answer = tested u (UnusableClock 0) (counts_answer_lem counts room)

  past : u ≡ true → clock_answer ≡ counts_answer_lem counts room
  past e = sym (test_passed u (UnusableClock 0) (counts_answer_lem counts room) e)

  pub model_refused : (r : SecondsRefusal) → (clock_answer ≡ Err r) ↔ ModelRefuses u counts room r
  model_refused r = (fore r, back r)
    where
      fore : (r : SecondsRefusal) → clock_answer ≡ Err r → ModelRefuses u counts room r
      fore =
          test_refused u (UnusableClock 0) (counts_answer_lem counts room) (ModelRefuses u counts room) (λ e. (e, refl))
          (λ e. counts_refused counts room (ModelRefuses u counts room) (λ k b. (e, b)) (λ all h. (e, all, h)))

      back : (r : SecondsRefusal) → ModelRefuses u counts room r → clock_answer ≡ Err r
      back (UnusableClock k) h = sym (test_failed u (UnusableClock 0) (counts_answer_lem counts room) h.0) ∙ ap (λ (q : ℕ). Err (UnusableClock q)) (sym h.1)
      back (CountOutside k) h = past h.0 ∙ outside_refused counts room k h.1
      back NoRoom h = past h.0 ∙ room_refused counts room h.1 h.2
      back (NoRecorder k) h = absurd h
      back NoTable h = absurd h

-- another form is refused as a clock that can't be used
pub form_answer_law : (form : ℕ) (rate : Float) (counts : List ℤ) (room : ℕ) → form_answer form rate counts room ≡ tested (usable_form_lem form rate) (UnusableClock 0) (counts_answer_lem counts room)
form_answer_law zero rate counts room = refl
form_answer_law (suc form) rate counts room = go (leb (suc form) ticks_form)
  where
    go : (t : Bool) → tested t (UnusableClock 0) (tested (usable rate) (UnusableClock 0) (counts_answer_lem counts room)) ≡ tested (t && usable rate) (UnusableClock 0) (counts_answer_lem counts room)
    go true = refl
    go false = refl

-- ---- a table of recorders
module _ (forms : List ℕ) (rates : List Float) (recorders : List ℕ) (counts : List ℤ) (room : ℕ) where
  abbrev table : Bool
  table = is_table_lem (length forms) (length rates) (length recorders) (length counts)

  abbrev Refuses : SecondsRefusal → Type 0
  Refuses = EventsRefuse forms rates recorders counts room

  is_table : Table forms rates recorders counts room → table ≡ true
  is_table h =
      both_true (leb (length forms) max_recorders && eqb (length forms) (length rates)) (eqb (length recorders) (length counts))
      (both_true (leb (length forms) max_recorders) (eqb (length forms) (length rates)) (le-leb _ _ h.0) (eq-eqb _ _ h.1))
      (eq-eqb _ _ h.2)

  -- what is left of the answer where the tests before are passed
  to_clocks : Table forms rates recorders counts room → events_answer_lem forms rates recorders counts room ≡ clocks_answer forms rates recorders counts room
  to_clocks h = sym (test_passed table NoTable (clocks_answer forms rates recorders counts room) (is_table h))

  to_names : AllUsable forms rates recorders counts room → clocks_answer forms rates recorders counts room ≡ named_answer (length forms) recorders counts room
  to_names = none_refused (length forms) (usable_at forms rates) (UnusableAt forms rates) (unusable_tells forms rates) UnusableClock (named_answer (length forms) recorders counts room)

  to_counts : AllNamed forms rates recorders counts room → named_answer (length forms) recorders counts room ≡ counts_answer_lem counts room
  to_counts = none_refused (length recorders) (named_at (length forms) recorders) (UnnamedAt (length forms) recorders) (unnamed_tells (length forms) recorders) NoRecorder (counts_answer_lem counts room)

  pub events_refused : (r : SecondsRefusal) → (events_answer_lem forms rates recorders counts room ≡ Err r) ↔ EventsRefuse forms rates recorders counts room r
  events_refused r = (fore r, back r)
    where
      fore : (r : SecondsRefusal) → events_answer_lem forms rates recorders counts room ≡ Err r → EventsRefuse forms rates recorders counts room r
      fore =
          test_refused table NoTable (clocks_answer forms rates recorders counts room) Refuses (λ e h. false≢true (sym e ∙ is_table h))
          (λ e. let t = table_says (length forms) (length rates) (length recorders) (length counts) e in
          search_refused (length forms) (usable_at forms rates) (UnusableAt forms rates) (unusable_tells forms rates) UnusableClock (named_answer (length forms) recorders counts room) Refuses (λ k b. (t, b))
          (λ clocks. search_refused (length recorders) (named_at (length forms) recorders) (UnnamedAt (length forms) recorders) (unnamed_tells (length forms) recorders) NoRecorder (counts_answer_lem counts room) Refuses (λ k b. (t, clocks, b))
          (λ names. counts_refused counts room Refuses (λ k b. (t, clocks, names, b)) (λ all h. (t, clocks, names, all, h)))))

      back : (r : SecondsRefusal) → EventsRefuse forms rates recorders counts room r → events_answer_lem forms rates recorders counts room ≡ Err r
      back NoTable h = sym (test_failed table NoTable (clocks_answer forms rates recorders counts room) (go table refl))
        where
          go : (t : Bool) → table ≡ t → t ≡ false
          go true e = absurd (h (table_says (length forms) (length rates) (length recorders) (length counts) e))
          go false e = refl
      back (UnusableClock k) h =
          to_clocks h.0 ∙ lowest_refused (length forms) (usable_at forms rates) (UnusableAt forms rates) (unusable_tells forms rates) UnusableClock (named_answer (length forms) recorders counts room) k h.1
      back (NoRecorder k) h =
          to_clocks h.0
          ∙ to_names h.1
          ∙ lowest_refused (length recorders) (named_at (length forms) recorders) (UnnamedAt (length forms) recorders) (unnamed_tells (length forms) recorders) NoRecorder (counts_answer_lem counts room) k h.2
      back (CountOutside k) h = to_clocks h.0 ∙ to_names h.1 ∙ to_counts h.2 ∙ outside_refused counts room k h.3
      back NoRoom h = to_clocks h.0 ∙ to_names h.1 ∙ to_counts h.2 ∙ room_refused counts room h.3 h.4
