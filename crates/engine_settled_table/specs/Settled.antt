-- Whether a table is settled: no step lowers an entry, and the diagonal is 0.
use Rattle.std.specs.Prelude.{◌≡◌, Bool, true, false, List, ℕ, ◌+◌, ◌*◌, ◌≤◌, ◌<◌, ℤ, pos, neg_ℤ, ◌+ℤ◌, ◌-ℤ◌}
use Rattle.std.proofs.Common.{sym, subst, inl, inr, arith, SFits}
use Rattle.std.proofs.Math.Decide.{ℕ_discrete}
use Rattle.std.specs.Int.{w64}
use Rattle.integers.specs.Integer.{◌⩽◌, ◌⋖◌}
use Rattle.integers.proofs.Linear.{ints, zs}
use Rattle.integers.specs.Laws.{never}
use Rattle.lines.specs.Limits.{max_variables}
use Rattle.lines.specs.Line.{number}
use Rattle.steps.specs.declared.Step.{Step}
use Rattle.engine_packed_steps.specs.Steps.{step_in_lem, steps_in}
use Rattle.engine_reduced_table.specs.Reduced.{far, cell, Entry, Asked, NegativePart}
use Rattle.engine_reduced_table.specs.Weight.{reduced_weight, OnReduced}

-- ---- the sum of what row s is above row u and a weight, over the first t columns
pub record Summed (pot size s u : ℕ) (r : ℤ) (w : List ℤ) (t : ℕ) (z : ℤ) : Type 0 where
  pub at_most : t ≤ size
  pub low : neg_ℤ (pos (t * far)) ⩽ z
  pub high : z ⩽ pos 0
  pub settled : z ≡ pos 0 → (j : ℕ) → j < t → number w (cell pot size s j) ⩽ number w (cell pot size u j) +ℤ r

pub record SumReady (count pot size s u : ℕ) (r : ℤ) (w : List ℤ) : Type 0 where
  pub ask : Asked count pot size s u w
  pub low : pos 0 ⩽ r
  pub high : r ⩽ pos far

pub record SettledIf (pot size s u : ℕ) (r : ℤ) (w : List ℤ) (b : Bool) : Type 0 where
  pub all : b ≡ true → (j : ℕ) → j < size → number w (cell pot size s j) ⩽ number w (cell pot size u j) +ℤ r

pub summed_start : (pot size s u : ℕ) (r : ℤ) (w : List ℤ) → Summed pot size s u r w 0 (pos 0)
summed_start pot size s u r w = record { at_most = omega arith; low = simp ints (omega arith); high = simp ints (omega arith); settled = λ _ j h. absurd (omega arith) }

module _ {count pot size s u : ℕ} {r : ℤ} {w : List ℤ} (q : SumReady count pot size s u r w) (t : ℕ) (h : t < size) where
  abbrev x : ℤ
  x = number w (cell pot size s t)

  abbrev y : ℤ
  y = number w (cell pot size u t)

  ex : Entry (steps_in count w) (number w (pot + s)) (number w (pot + t)) s t x
  ex = q.ask.reduced.entry s t q.ask.i_lt h

  ey : Entry (steps_in count w) (number w (pot + u)) (number w (pot + t)) u t y
  ey = q.ask.reduced.entry u t q.ask.k_lt h

  pub reach_fits : SFits w64 (y +ℤ r)
  reach_fits = fits y r ey.low ey.high q.low q.high
    where
      fits : (y r : ℤ) → pos 0 ⩽ y → y ⩽ pos far → pos 0 ⩽ r → r ⩽ pos far → SFits w64 (y +ℤ r)
      fits y r = simp ints (omega zs)

  pub above_fits : SFits w64 ((y +ℤ r) -ℤ x)
  above_fits = fits x y r ex.low ex.high ey.low ey.high q.low q.high
    where
      fits : (x y r : ℤ) → pos 0 ⩽ x → x ⩽ pos far → pos 0 ⩽ y → y ⩽ pos far → pos 0 ⩽ r → r ⩽ pos far → SFits w64 ((y +ℤ r) -ℤ x)
      fits x y r = simp ints (omega zs)

  module _ (z d : ℤ) (p : Summed pot size s u r w t z) (n : NegativePart ((y +ℤ r) -ℤ x) d) where
    part_low : neg_ℤ (pos far) ⩽ d
    part_low = go n
      where
        none : (d : ℤ) → d ≡ pos 0 → neg_ℤ (pos far) ⩽ d
        none d = simp ints (omega arith)

        some_part : (x y r d : ℤ) → d ≡ (y +ℤ r) -ℤ x → x ⩽ pos far → pos 0 ⩽ y → pos 0 ⩽ r → neg_ℤ (pos far) ⩽ d
        some_part x y r d = simp ints (omega arith)

        go : NegativePart ((y +ℤ r) -ℤ x) d → neg_ℤ (pos far) ⩽ d
        go (inl (e, g)) = none d e
        go (inr (e, l)) = some_part x y r d e ex.high ey.low q.low

    part_high : d ⩽ pos 0
    part_high = go n
      where
        none : (d : ℤ) → d ≡ pos 0 → d ⩽ pos 0
        none d = simp ints (omega arith)

        below : (d e : ℤ) → d ≡ e → e ⋖ pos 0 → d ⩽ pos 0
        below d e = simp ints (omega arith)

        go : NegativePart ((y +ℤ r) -ℤ x) d → d ⩽ pos 0
        go (inl (e, g)) = none d e
        go (inr (e, l)) = below d ((y +ℤ r) -ℤ x) e l

    sum_low : neg_ℤ (pos ((t + 1) * far)) ⩽ z +ℤ d
    sum_low = add (t * far) ((t + 1) * far) (omega arith) z d p.low part_low
      where
        add : (m k : ℕ) → k ≡ m + far → (z d : ℤ) → neg_ℤ (pos m) ⩽ z → neg_ℤ (pos far) ⩽ d → neg_ℤ (pos k) ⩽ z +ℤ d
        add m k = simp ints (omega arith)

    pub sum_fits : SFits w64 (z +ℤ d)
    sum_fits = fits ((t + 1) * far) (omega (arith, q.ask.reduced.points, h)) (z +ℤ d) sum_low (both z d p.high part_high)
      where
        both : (z d : ℤ) → z ⩽ pos 0 → d ⩽ pos 0 → z +ℤ d ⩽ pos 0
        both z d = simp ints (omega arith)

        fits : (k : ℕ) → k ≤ 2 * max_variables * far → (x : ℤ) → neg_ℤ (pos k) ⩽ x → x ⩽ pos 0 → SFits w64 x
        fits k = simp ints (omega zs)

    pub summed_more : Summed pot size s u r w (t + 1) (z +ℤ d)
    summed_more = record {
      at_most = omega (arith, h);
      low = sum_low;
      high = both z d p.high part_high;
      settled = λ e j l. each e j l (ℕ_discrete j t);
    }
      where
        both : (z d : ℤ) → z ⩽ pos 0 → d ⩽ pos 0 → z +ℤ d ⩽ pos 0
        both z d = simp ints (omega arith)

        left : (z d : ℤ) → z ⩽ pos 0 → d ⩽ pos 0 → z +ℤ d ≡ pos 0 → z ≡ pos 0
        left z d = simp ints (omega arith)

        right : (z d : ℤ) → z ⩽ pos 0 → d ⩽ pos 0 → z +ℤ d ≡ pos 0 → d ≡ pos 0
        right z d = simp ints (omega arith)

        now : d ≡ pos 0 → x ⩽ y +ℤ r
        now e = go n
          where
            above : (x y r : ℤ) → pos 0 ⩽ (y +ℤ r) -ℤ x → x ⩽ y +ℤ r
            above x y r = simp ints (omega arith)

            clash : (d m : ℤ) → d ≡ pos 0 → d ≡ m → m ⋖ pos 0 → ⊥
            clash d m = simp ints (omega arith)

            go : NegativePart ((y +ℤ r) -ℤ x) d → x ⩽ y +ℤ r
            go (inl (f, g)) = above x y r g
            go (inr (f, l)) = absurd (clash d ((y +ℤ r) -ℤ x) e f l)

        each : z +ℤ d ≡ pos 0 → (j : ℕ) → j < t + 1 → Dec (j ≡ t) → number w (cell pot size s j) ⩽ number w (cell pot size u j) +ℤ r
        each e j l (yes f) = subst (λ (k : ℕ). number w (cell pot size s k) ⩽ number w (cell pot size u k) +ℤ r) (sym f) (now (right z d p.high part_high e))
        each e j l (no f) = p.settled (left z d p.high part_high e) j (omega (arith, l, f))

-- ---- the whole table
pub record StepSettled (count pot size : ℕ) (w : List ℤ) (i : ℕ) : Type 0 where
  pub all : (t : ℕ) → t < size → number w (cell pot size (step_in_lem w i).from t)
      ⩽ number w (cell pot size (step_in_lem w i).to t) +ℤ reduced_weight pot w (step_in_lem w i)

-- of the first points, and the first steps
abbrev pub DiagonalTo : ℕ → ℕ → List ℤ → ℕ → Type 0
DiagonalTo pot size w k = (t : ℕ) → t < k → number w (cell pot size t t) ⩽ pos 0

abbrev pub StepsTo : ℕ → ℕ → ℕ → List ℤ → ℕ → Type 0
StepsTo count pot size w k = (i : ℕ) → i < k → StepSettled count pot size w i

pub record AllSettled (count pot size : ℕ) (w : List ℤ) : Type 0 where
  pub diagonal : DiagonalTo pot size w size
  pub steps : StepsTo count pot size w count

pub record StepIf (count pot size : ℕ) (w : List ℤ) (i : ℕ) (b : Bool) : Type 0 where
  pub yes : b ≡ true → StepSettled count pot size w i

pub record DiagonalIf (pot size : ℕ) (w : List ℤ) (b : Bool) : Type 0 where
  pub yes : b ≡ true → DiagonalTo pot size w size

pub record StepsIf (count pot size : ℕ) (w : List ℤ) (b : Bool) : Type 0 where
  pub yes : b ≡ true → StepsTo count pot size w count

pub record TableIf (count pot size : ℕ) (w : List ℤ) (b : Bool) : Type 0 where
  pub yes : b ≡ true → AllSettled count pot size w

pub step_no : (count pot size : ℕ) (w : List ℤ) (i : ℕ) → StepIf count pot size w i false
step_no count pot size w i = record { yes = λ e. never (cc) }

-- a step on reduced weights, and its rows
pub step_if : {count pot size i : ℕ} {w : List ℤ} (s : Step) → OnReduced count pot size w i s → (b : Bool) → SettledIf pot size s.from s.to s.weight w b → StepIf count pot size w i b
step_if {pot} {size} {w} s o b settled = record {
  yes = λ f. record { all = subst (λ (x : Step). (j : ℕ) → j < size → number w (cell pot size x.from j) ⩽ number w (cell pot size x.to j) +ℤ x.weight) o.is (settled.all f) };
}

-- ---- the two loops over the table
pub diagonal_more : (pot size : ℕ) (w : List ℤ) (k : ℕ) → DiagonalTo pot size w k → number w (cell pot size k k) ⩽ pos 0 → DiagonalTo pot size w (k + 1)
diagonal_more pot size w k f e t h = go (ℕ_discrete t k)
  where
    go : Dec (t ≡ k) → number w (cell pot size t t) ⩽ pos 0
    go (yes q) = subst (λ (j : ℕ). number w (cell pot size j j) ⩽ pos 0) (sym q) e
    go (no n) = f t (omega arith)

pub steps_more : (count pot size : ℕ) (w : List ℤ) (k : ℕ) → StepsTo count pot size w k → StepSettled count pot size w k → StepsTo count pot size w (k + 1)
steps_more count pot size w k f e i h = go (ℕ_discrete i k)
  where
    go : Dec (i ≡ k) → StepSettled count pot size w i
    go (yes q) = subst (λ (j : ℕ). StepSettled count pot size w j) (sym q) e
    go (no n) = f i (omega arith)
