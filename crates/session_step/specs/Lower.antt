-- The code's loop over a row: its entries in the columns that were collected are lowered, one after the other.
use Rattle.std.specs.Prelude.{◌≡◌, Bool, true, false, cond, ℤ, pos, length, set, get_or, drop}
use Rattle.std.proofs.Math.Path.{refl, ap}
use Rattle.std.proofs.Common.{sym, ap₂, ◌∙◌, add-one, arith, drop_of_length-le, get_or-append-add, get_or-drop, drop-cons}
use mathlib.Core.List.{List, [], ◌∷◌, ◌++◌, map, append-nil}
use Prim.Native.Nat.{ℕ, zero, suc, ◌+◌, ◌<◌, ◌≤◌}
use Rattle.std.proofs.lemmas.List.{set-get_or}
use Rattle.integers.specs.Sequence.{tabulate, length_tabulate}
use Rattle.integers.specs.Integer.{Within}
use Rattle.lines.specs.Line.{number}
use Rattle.steps.specs.declared.Step.{Step}
use Rattle.steps.specs.Step.{max_weight}
use Rattle.theory_walks.specs.Distance.{Distance, min_d, ◌⊕◌, ◌⊞◌}
use Rattle.decide_rows.specs.Stored.{stored}
use Rattle.decide_rows.specs.Read.{distance_of, Short, short_more}
use Rattle.decide_stored_table.specs.Sum.{max_tight, read_back, sum_short}
use Rattle.integers.specs.Fill.{filled, filled_more}
use Rattle.theory_inserting.specs.Where.{is_at_most}
use Rattle.session_step.specs.Read.{small_of}
use Rattle.session_step.specs.Columns.{failing, failing_passed, failing_failed}

-- ---- a list that is filled from the front, each value from the number that it takes the place of
pub filled_next : (f : ℕ → ℤ) (d : List ℤ) (i : ℕ) → number (filled f d i) i ≡ number d i
filled_next f d i =
    let e : i ≡ length (tabulate i f) + 0 = omega (arith, length_tabulate i f) in
    let z : i + 0 ≡ i = omega arith in
    ap (number (filled f d i)) e ∙ get_or-append-add (tabulate i f) (drop i d) 0 (pos 0) ∙ get_or-drop i d 0 (pos 0) ∙ ap (number d) z

pub filled_all : (f : ℕ → ℤ) (d : List ℤ) → filled f d (length d) ≡ tabulate (length d) f
filled_all f d = ap (λ (x : List ℤ). tabulate (length d) f ++ x) (drop_of_length-le d {i = length d} (omega arith)) ∙ append-nil (tabulate (length d) f)

-- ---- a row
-- an entry, or the sum of two others where that is less
abbrev pub lower_to : ℤ → ℤ → ℤ → ℤ
lower_to e s r = stored (min_d (distance_of e) (distance_of s ⊞ distance_of r))

-- the entries in the given columns, each lowered to its sum and the rest, one after the other
unfoldable pub lower_all : ℤ → List ℕ → List ℤ → List ℤ → List ℤ
lower_all rest [] sums row = row
lower_all rest (u ∷ columns) [] row = row
lower_all rest (u ∷ columns) (x ∷ sums) row = lower_all rest columns sums (set row u (lower_to (number row u) x rest))

-- columns of the row, each with a sum
pub record ColumnsIn (row : List ℤ) (columns : List ℕ) (sums : List ℤ) : Type 0 where
  pub long : length columns ≤ length sums
  pub inside : (k : ℕ) → k < length columns → get_or columns k 0 < length row
  pub short : (k : ℕ) → k < length columns → Short max_tight (distance_of (number sums k))

-- the code's two calls: the sum is read back, and the smaller of the two is taken
pub lower_is : (e s r m v : ℤ) → Short max_tight (distance_of s) → Short max_tight (distance_of r) → m ≡ stored (distance_of s ⊞ distance_of r)
    → v ≡ stored (min_d (distance_of e) (distance_of m)) → v ≡ lower_to e s r
lower_is e s r m v hs hr em ev =
    ev ∙ ap (λ (d : Distance). stored (min_d (distance_of e) d)) (ap distance_of em ∙ read_back _ (short_more (omega arith) (sum_short _ _ max_tight max_tight hs hr)))

-- ---- the loop: what is still to be lowered from column k on
pub lower_next : (rest : ℤ) (columns : List ℕ) (sums : List ℤ) (row : List ℤ) (k : ℕ) → k < length columns → k < length sums
    → lower_all rest (drop k columns) (drop k sums) row
    ≡ lower_all rest (drop (k + 1) columns) (drop (k + 1) sums) (set row (get_or columns k 0) (lower_to (number row (get_or columns k 0)) (number sums k) rest))
unfolding lower_all
lower_next rest columns sums row k h l =
    let u = get_or columns k 0 in
    ap₂ (λ (us : List ℕ) (xs : List ℤ). lower_all rest us xs row) (drop-cons columns k 0 h) (drop-cons sums k (pos 0) l)
    ∙ ap (λ (j : ℕ). lower_all rest (drop j columns) (drop j sums) (set row u (lower_to (number row u) (number sums k) rest))) (sym (add-one k))

pub lower_end : (rest : ℤ) (columns : List ℕ) (sums : List ℤ) (row : List ℤ) (k : ℕ) → length columns ≤ k
    → lower_all rest (drop k columns) (drop k sums) row ≡ row
unfolding lower_all
lower_end rest columns sums row k h = ap (λ (us : List ℕ). lower_all rest us (drop k sums) row) (drop_of_length-le columns h)

-- ---- a row lowered in the columns that fail a test: f has the row's own entries where the test holds, and the lowered ones where it fails. The columns
-- are gone through in order, so after those below u the row has the values of f below u and is as it was from there on.
module _ (rest : ℤ) (g : ℕ → ℤ) where
  lower_last : (us : List ℕ) (u : ℕ) (row : List ℤ)
      → lower_all rest (us ++ u ∷ []) (map g (us ++ u ∷ [])) row
      ≡ set (lower_all rest us (map g us) row) u (lower_to (number (lower_all rest us (map g us) row) u) (g u) rest)
  unfolding lower_all
  lower_last [] u row = refl
  lower_last (x ∷ us) u row = lower_last us u (set row x (lower_to (number row x) (g x) rest))

  module _ (test : ℕ → Bool) (row : List ℤ) (f : ℕ → ℤ) (same : (u : ℕ) → u < length row → test u ≡ true → f u ≡ number row u)
      (less : (u : ℕ) → u < length row → test u ≡ false → f u ≡ lower_to (number row u) (g u) rest) where
    abbrev after : ℕ → List ℤ
    after u = lower_all rest (failing test u) (map g (failing test u)) row

    -- column u is passed over where f has the row's own entry, or lowered
    lower_step : (u : ℕ) → u < length row → after u ≡ filled f row u → after (u + 1) ≡ filled f row (u + 1)
    lower_step u h before = go (test u) refl
      where
        entry : number (after u) u ≡ number row u
        entry = ap (λ (l : List ℤ). number l u) before ∙ filled_next f row u

        go : (b : Bool) → test u ≡ b → after (u + 1) ≡ filled f row (u + 1)
        go true e =
            ap (λ (us : List ℕ). lower_all rest us (map g us) row) (failing_passed test u e)
            ∙ sym (set-get_or (after u) u (pos 0))
            ∙ ap (λ (l : List ℤ). set l u (number (after u) u)) before
            ∙ filled_more f row u (number (after u) u) h (entry ∙ sym (same u h e))
        go false e =
            ap (λ (us : List ℕ). lower_all rest us (map g us) row) (failing_failed test u e)
            ∙ lower_last (failing test u) u row
            ∙ ap (λ (l : List ℤ). set l u (lower_to (number (after u) u) (g u) rest)) before
            ∙ filled_more f row u (lower_to (number (after u) u) (g u) rest) h (ap (λ (z : ℤ). lower_to z (g u) rest) entry ∙ sym (less u h e))

    lower_first : (u : ℕ) → u ≤ length row → after u ≡ filled f row u
    unfolding lower_all failing
    lower_first zero h = refl
    lower_first (suc u) h = ap after (sym (add-one u)) ∙ lower_step u h (lower_first u (omega arith)) ∙ ap (filled f row) (add-one u)

    pub lower_all_law : lower_all rest (failing test (length row)) (map g (failing test (length row))) row ≡ tabulate (length row) f
    lower_all_law = lower_first (length row) (omega arith) ∙ filled_all f row

-- ---- a row of a table: its own entries of the step's two ends say whether it is lowered
-- whether the row's entry of the step's start is at most the way along the step
abbrev pub stays_row : List ℤ → Step → Bool
stays_row row s = is_at_most (small_of (number row s.from)) (small_of (number row s.to) ⊕ s.weight)

abbrev pub row_after : List ℤ → List ℕ → List ℤ → Step → List ℤ
row_after row columns sums s = cond (stays_row row s) row (lower_all (stored (small_of (number row s.to))) columns sums row)

pub record StepRowReady (row : List ℤ) (columns : List ℕ) (sums : List ℤ) (s : Step) : Type 0 where
  pub from_lt : s.from < length row
  pub to_lt : s.to < length row
  pub small : Within max_weight s.weight
  pub columns_ok : ColumnsIn row columns sums

-- the two ways through the code
module _ (row : List ℤ) (columns : List ℕ) (sums : List ℤ) (s : Step) where
  pub row_stays : stays_row row s ≡ true → row ≡ row_after row columns sums s
  row_stays e = rw e refl

  pub row_lowered : stays_row row s ≡ false → (z : ℤ) → z ≡ stored (small_of (number row s.to)) → (x : List ℤ) → x ≡ lower_all z columns sums row
      → x ≡ row_after row columns sums s
  row_lowered e z q x f = f ∙ ap (λ (y : ℤ). lower_all y columns sums row) q ∙ rw e refl
