-- The columns that a step may change an entry of, in order, with their sums along the step: as lists, and as the code's loop collects them.
use Rattle.std.specs.Prelude.{◌≡◌, Bool, true, false, List, [], ◌∷◌, ◌++◌, map, ℕ, zero, suc, ◌+◌, ◌<◌, ◌≤◌, ℤ, pos, length, set, get_or, take, drop}
use Rattle.std.proofs.Math.Path.{refl, ap}
use Rattle.std.proofs.Common.{sym, ap₂, ◌∙◌, add-one, arith, length-append, get_or-append-add, take_at}
use Rattle.std.proofs.Math.Bool.{cond}
use Rattle.std.proofs.lemmas.List.{map-append, length-map}
use Rattle.std.proofs.Math.Decide.{dec_lt}
use Rattle.std.proofs.Math.ListN.{get_or-append}
use Rattle.integers.specs.Sequence.{grow}
use Rattle.lines.specs.Line.{number}
use Rattle.steps.specs.declared.Step.{Step}
use Rattle.theory_bounds.specs.Tight.{Table}
use Rattle.decide_rows.specs.Stored.{stored}
use Rattle.theory_inserting.specs.Where.{end_as_near}
use Rattle.session_step.specs.Done.{along}

-- ---- definitions
-- the numbers below u that fail a test, in order
unfoldable pub failing : (ℕ → Bool) → ℕ → List ℕ
failing test zero = []
failing test (suc u) = cond (test u) (failing test u) (failing test u ++ u ∷ [])

-- the points below u that are farther from the step's end than along the step
abbrev pub columns_of : Table → Step → ℕ → List ℕ
columns_of D s u = failing (end_as_near D s) u

abbrev pub sum_at : Table → Step → ℕ → ℤ
sum_at D s u = stored (along D s u)

abbrev pub sums_of : Table → Step → ℕ → List ℤ
sums_of D s u = map (sum_at D s) (columns_of D s u)

-- ---- one more number
module _ (test : ℕ → Bool) (u : ℕ) where
  pub failing_passed : test u ≡ true → failing test (u + 1) ≡ failing test u
  unfolding failing
  failing_passed e = ap (failing test) (add-one u) ∙ ap (λ (b : Bool). cond b (failing test u) (failing test u ++ u ∷ [])) e

  pub failing_failed : test u ≡ false → failing test (u + 1) ≡ failing test u ++ u ∷ []
  unfolding failing
  failing_failed e = ap (failing test) (add-one u) ∙ ap (λ (b : Bool). cond b (failing test u) (failing test u ++ u ∷ [])) e

pub failing_length : (test : ℕ → Bool) (u : ℕ) → length (failing test u) ≤ u
unfolding failing
failing_length test zero = omega arith
failing_length test (suc u) = go (test u) (failing_length test u)
  where
    go : (b : Bool) → length (failing test u) ≤ u → length (cond b (failing test u) (failing test u ++ u ∷ [])) ≤ suc u
    go true few = omega arith
    go false few = rw (length-append (failing test u) (u ∷ [])) (omega arith)

pub failing_below : (test : ℕ → Bool) (u k : ℕ) → k < length (failing test u) → get_or (failing test u) k 0 < u
unfolding failing
failing_below test zero k h = absurd (omega arith)
failing_below test (suc u) k h = go (test u) (λ l. failing_below test u k l) h
  where
    before : List ℕ
    before = failing test u

    last : Dec (k < length before) → (k < length before → get_or before k 0 < u) → k < length (before ++ u ∷ []) → get_or (before ++ u ∷ []) k 0 < suc u
    last (yes l) below h = rw (get_or-append before (u ∷ []) 0 k l) (omega (arith, below l))
    last (no l) below h =
        let e : k ≡ length before + 0 = omega (arith, l, h, length-append before (u ∷ [])) in
        rw (ap (λ (i : ℕ). get_or (before ++ u ∷ []) i 0) e ∙ get_or-append-add before (u ∷ []) 0 0) (omega arith)

    go : (b : Bool) → (k < length before → get_or before k 0 < u) → k < length (cond b before (before ++ u ∷ []))
        → get_or (cond b before (before ++ u ∷ [])) k 0 < suc u
    go true below h = omega (arith, below h)
    go false below h = last (dec_lt k (length before)) below h

pub number_map : (f : ℕ → ℤ) (l : List ℕ) (k : ℕ) → k < length l → number (map f l) k ≡ f (get_or l k 0)
number_map f [] k h = absurd (omega arith)
number_map f (x ∷ l) zero h = refl
number_map f (x ∷ l) (suc k) h = number_map f l k (omega arith)

-- ---- the loop, after the points 0 to u - 1: so many were found, and stand in front of what was there
pub record Collected (D : Table) (s : Step) (columns₀ : List ℕ) (sums₀ : List ℤ) (u : ℕ) (columns : List ℕ) (sums : List ℤ) (found : ℕ) : Type 0 where
  pub found_is : length (columns_of D s u) ≡ found
  pub columns_are : columns ≡ columns_of D s u ++ drop found columns₀
  pub sums_are : sums ≡ sums_of D s u ++ drop found sums₀

module _ {D : Table} {s : Step} {columns₀ : List ℕ} {sums₀ : List ℤ} where
  pub collected_none : Collected D s columns₀ sums₀ 0 columns₀ sums₀ 0
  unfolding failing
  collected_none = record { found_is = refl; columns_are = refl; sums_are = refl }

  module _ {u : ℕ} {columns : List ℕ} {sums : List ℤ} {found : ℕ} (c : Collected D s columns₀ sums₀ u columns sums found) where
    pub found_few : found ≤ u
    found_few = rw c.found_is at (failing_length (end_as_near D s) u)

    pub sums_length : length (sums_of D s u) ≡ found
    sums_length = length-map (columns_of D s u) (sum_at D s) ∙ c.found_is

    -- what was found
    pub columns_found : take found columns ≡ columns_of D s u
    columns_found = ap (take found) c.columns_are ∙ take_at (columns_of D s u) (drop found columns₀) found c.found_is

    pub sums_found : take found sums ≡ sums_of D s u
    sums_found = ap (take found) c.sums_are ∙ take_at (sums_of D s u) (drop found sums₀) found sums_length

    pub collected_same : end_as_near D s u ≡ true → Collected D s columns₀ sums₀ (u + 1) columns sums found
    collected_same e =
        let same = failing_passed (end_as_near D s) u e in
        record {
          found_is = ap length same ∙ c.found_is;
          columns_are = c.columns_are ∙ ap (λ (l : List ℕ). l ++ drop found columns₀) (sym same);
          sums_are = c.sums_are ∙ ap (λ (l : List ℕ). map (sum_at D s) l ++ drop found sums₀) (sym same);
        }

    pub collected_more : end_as_near D s u ≡ false → found < length columns₀ → found < length sums₀ → (z : ℤ) → z ≡ sum_at D s u
        → Collected D s columns₀ sums₀ (u + 1) (set columns found u) (set sums found z) (found + 1)
    collected_more e hc hs z q =
        let more = failing_failed (end_as_near D s) u e in
        record {
          found_is = ap length more ∙ length-append (columns_of D s u) (u ∷ []) ∙ ap (λ (k : ℕ). k + 1) c.found_is;
          columns_are =
              ap (λ (l : List ℕ). set l found u) c.columns_are
              ∙ grow (columns_of D s u) found u 0 columns₀ c.found_is hc
              ∙ ap (λ (l : List ℕ). l ++ drop (found + 1) columns₀) (sym more);
          sums_are =
              ap₂ (λ (l : List ℤ) (y : ℤ). set l found y) c.sums_are q
              ∙ grow (sums_of D s u) found (sum_at D s u) (pos 0) sums₀ sums_length hs
              ∙ ap (λ (l : List ℤ). l ++ drop (found + 1) sums₀) (sym (ap (map (sum_at D s)) more ∙ map-append (sum_at D s) (columns_of D s u) (u ∷ [])));
        }
