-- What the pair means, without any algorithm: each of its four numbers is the greatest value of its sum over all solutions, or absent. The meaning fixes
-- the numbers, an absent one is told from every other, and with lines added each number stays or falls.
use Rattle.std.specs.Prelude.{◌≡◌, refl, ◌↔◌, true, List, ℕ, zero, suc, ◌<◌, ℤ, pos, neg_ℤ, nat_abs, ◌+ℤ◌, length, get_or, Ok}
use Rattle.std.proofs.Common.{sym, ap₂, ◌∙◌, inl, inr, arith, ext_get_or}
use Rattle.integers.specs.Integer.{◌⩽◌, ◌⋖◌, Within}
use Rattle.integers.proofs.Linear.{ints, zs}
use Rattle.lines.specs.declared.Line.{Line}
use Rattle.lines.specs.Limits.{absent_greatest}
use Rattle.lines.specs.Line.{lines_of, Solvable, Entails}
use Rattle.lines.specs.Refusal.{validity_of}
use Rattle.lines.specs.Valid.{valid_list, workable}
use Rattle.steps.specs.Point.{point, opposite, signed}
use Rattle.theory_walks.specs.Distance.{Distance, none, some}
use Rattle.theory_bounds.specs.Tight.{tight, halves}
use Rattle.theory_bounds.specs.Answers.{greatest_of}
use Rattle.theory_bounds.specs.Verdict.{distances, verdict_of}
use Rattle.theory_answers.specs.Semantics.{value_of, sum_of, IsGreatest, NoGreatest, GreatestWritten}
use Rattle.theory_answers.specs.Meaning.{none_sum, sum_written}
use Rattle.theory_answers.specs.Decided.{lines_ok}
use Rattle.theory_answers.specs.Unique.{no_both_greatest, one_greatest}
use Rattle.theory_answers.specs.Longer.{greatest_falls}
use Rattle.decide_rows.specs.Read.{Short, max_distance, short_more}
use Rattle.decide_rows.specs.Table.{best_short}
use Rattle.decide_stored_table.specs.Sum.{max_tight, min_short, sum_short, half_short}
use Rattle.implied_pair.specs.declared.Pair.{Pair}
use Rattle.implied_pair.specs.Pair.{pair_in_lem}

-- the number for a sum, by the signs of x and y: 0 is plus, 1 is minus
abbrev pub row_for : Pair → ℕ → List ℤ
row_for pair zero = pair.plus
row_for pair (suc s) = pair.minus

abbrev pub number_for : Pair → ℕ → ℕ → ℤ
number_for pair s u = get_or (row_for pair s) u (pos 0)

-- two rows of two numbers: x + y and x − y, −x + y and −x − y, each the greatest value over all solutions or the number for none
pub record IsPair (ls : List Line) (x y : ℕ) (pair : Pair) : Type 0 where
  pub row_length : (s : ℕ) → length (row_for pair s) ≡ 2
  pub greatest : (s u : ℕ) → s < 2 → u < 2 → GreatestWritten ls (sum_of s x u y) (number_for pair s u)

-- ---- the pair off the distances is it
module _ (n : ℕ) (L : List ℤ) (valid : validity_of n L ≡ Ok tt) (yes_verdict : verdict_of n (lines_of L) ≡ true) (x y : ℕ) (hx : x < n) (hy : y < n) where
  abbrev ls : List Line
  ls = lines_of L

  abbrev computed : Pair
  computed = pair_in_lem (distances n ls) x y

  number_is : (s u : ℕ) → s < 2 → u < 2 → number_for computed s u ≡ greatest_of (tight (distances n ls) (point x s) (opposite (point y u)))
  number_is zero zero hs hu = refl
  number_is zero (suc zero) hs hu = refl
  number_is zero (suc (suc u)) hs hu = absurd (omega arith)
  number_is (suc zero) zero hs hu = refl
  number_is (suc zero) (suc zero) hs hu = refl
  number_is (suc zero) (suc (suc u)) hs hu = absurd (omega arith)
  number_is (suc (suc s)) u hs hu = absurd (omega arith)

  pub computed_pair : IsPair (lines_of L) x y (pair_in_lem (distances n (lines_of L)) x y)
  computed_pair =
      record {
        row_length = two;
        greatest = λ s u hs hu. rw (number_is s u hs hu) (sum_written n ls (lines_ok n L (workable n L valid)) yes_verdict s x u y hs hx hu hy);
      }
    where
      two : (s : ℕ) → length (row_for computed s) ≡ 2
      two zero = refl
      two (suc s) = refl

  -- ---- a greatest value that is there is below the number for none
  tight_short : (p q : ℕ) → Short max_tight (tight (distances n ls) p q)
  unfolding tight halves
  tight_short p q =
      let l = valid_list n L valid in
      let entry : (i j : ℕ) → Short max_distance (distances n ls i j) = best_short n L l.variables l.lines in
      min_short _ _ max_tight (short_more (omega arith) (entry p q))
      (sum_short _ _ max_distance max_distance (half_short _ max_distance (entry p (opposite p))) (half_short _ max_distance (entry (opposite q) (opposite (opposite q)))))

  module _ (s u : ℕ) (hs : s < 2) (hu : u < 2) where
    pub sum_below : (w : ℤ) → IsGreatest (lines_of L) (sum_of s x u y) w → w ⋖ absent_greatest
    sum_below w i = go (tight (distances n ls) (point x s) (opposite (point y u))) refl (rw (number_is s u hs hu) at (computed_pair.greatest s u hs hu))
      where
        below : (z : ℤ) → Within max_tight z → z ⋖ absent_greatest
        below z h = simp ints (omega zs)

        go : (d : Distance) → tight (distances n ls) (point x s) (opposite (point y u)) ≡ d → GreatestWritten ls (sum_of s x u y) (greatest_of d) → w ⋖ absent_greatest
        go (some z) e k = rw (one_greatest ls (sum_of s x u y) w z (inl i) k) (below z (tight_short (point x s) (opposite (point y u)) z e))
        go none e k = absurd (no_both_greatest ls (sum_of s x u y) w i (none_sum n ls (lines_ok n L (workable n L valid)) yes_verdict s x u y hs hx hu hy e))

-- ---- whatever is the pair
module _ (n : ℕ) (L : List ℤ) (valid : validity_of n L ≡ Ok tt) (yes_verdict : verdict_of n (lines_of L) ≡ true) (x y : ℕ) (hx : x < n) (hy : y < n) where
  -- it is what is computed
  pub one_pair : (pair : Pair) → IsPair (lines_of L) x y pair → pair ≡ pair_in_lem (distances n (lines_of L)) x y
  one_pair pair p = ap₂ both (row 0 (omega arith)) (row 1 (omega arith))
    where
      both : List ℤ → List ℤ → Pair
      both v w = record { plus = v; minus = w }

      c : IsPair (lines_of L) x y (pair_in_lem (distances n (lines_of L)) x y)
      c = computed_pair n L valid yes_verdict x y hx hy

      row : (s : ℕ) → s < 2 → row_for pair s ≡ row_for (pair_in_lem (distances n (lines_of L)) x y) s
      row s hs =
          ext_get_or (pos 0) _ _ (p.row_length s ∙ sym (c.row_length s))
          (λ u h. let hu : u < 2 = omega (arith, p.row_length s) in one_greatest (lines_of L) (sum_of s x u y) _ _ (p.greatest s u hs hu) (c.greatest s u hs hu))

  -- a number is the one for none exactly if the values pass every bound
  pub absent_exactly : (pair : Pair) → IsPair (lines_of L) x y pair → (s u : ℕ) → s < 2 → u < 2 → (number_for pair s u ≡ absent_greatest) ↔ NoGreatest (lines_of L) (sum_of s x u y)
  absent_exactly pair p s u hs hu = go (number_for pair s u) (p.greatest s u hs hu)
    where
      apart : (v w : ℤ) → v ⋖ w → v ≡ w → ⊥
      apart v w = simp ints (omega arith)

      go : (v : ℤ) → GreatestWritten (lines_of L) (sum_of s x u y) v → (v ≡ absent_greatest) ↔ NoGreatest (lines_of L) (sum_of s x u y)
      go v (inl a) = (
        (λ e. absurd (apart v absent_greatest (sum_below n L valid yes_verdict x y hx hy s u hs hu v a) e)),
        (λ z. absurd (no_both_greatest (lines_of L) (sum_of s x u y) v a z)),
      )
      go v (inr a) = ((λ _. a.0), (λ _. a.1))

  -- of a list whose every solution solves M too, each number is no greater than that of M
  pub number_falls : (M : List ℤ) → Entails (lines_of L) (lines_of M) → (before after : Pair) → IsPair (lines_of M) x y before → IsPair (lines_of L) x y after
      → (s u : ℕ) → s < 2 → u < 2 → number_for after s u ⩽ number_for before s u
  number_falls M entails before after p q s u hs hu =
      greatest_falls (lines_of M) (lines_of L) entails (sum_of s x u y) _ _ (sum_below n L valid yes_verdict x y hx hy s u hs hu _) (p.greatest s u hs hu) (q.greatest s u hs hu)

-- ---- the same variable twice
module _ (ls : List Line) (x : ℕ) (pair : Pair) (p : IsPair ls x x pair) where
  -- x − x and −x + x are 0 in every solution
  pub itself : (s u : ℕ) → s < 2 → u < 2 → (s ≡ u → ⊥) → Solvable ls → number_for pair s u ≡ pos 0
  itself s u hs hu apart solvable = one_greatest ls (sum_of s x u x) _ _ (p.greatest s u hs hu) (inl (record { bounds = λ t _. low _ (cancel s u hs hu apart (t x)); taken_by = solvable.assignment; solves = solvable.solves; taken = cancel s u hs hu apart (solvable.assignment x) }))
    where
      low : (v : ℤ) → v ≡ pos 0 → v ⩽ pos 0
      low v = simp ints (omega arith)

      after : (v : ℤ) → v +ℤ neg_ℤ v ≡ pos 0
      after v = simp ints (omega arith)

      before : (v : ℤ) → neg_ℤ v +ℤ v ≡ pos 0
      before v = simp ints (omega arith)

      cancel : (s u : ℕ) → s < 2 → u < 2 → (s ≡ u → ⊥) → (v : ℤ) → signed s v +ℤ signed u v ≡ pos 0
      cancel zero zero hs hu d v = absurd (d refl)
      cancel zero (suc u) hs hu d v = after v
      cancel (suc s) zero hs hu d v = before v
      cancel (suc s) (suc u) hs hu d v = absurd (d (omega arith))

  -- x + x is twice the greatest value of x
  pub twice : (z : ℤ) → IsGreatest ls (value_of x) z → number_for pair 0 0 ≡ z +ℤ z
  twice z g = one_greatest ls (sum_of 0 x 0 x) _ _ (p.greatest 0 0 (omega arith) (omega arith)) (inl (record { bounds = λ t st. more _ _ (g.bounds t st); taken_by = g.taken_by; solves = g.solves; taken = ap₂ (λ (v w : ℤ). v +ℤ w) g.taken g.taken }))
    where
      more : (v z : ℤ) → v ⩽ z → v +ℤ v ⩽ z +ℤ z
      more v z = simp ints (omega arith)

  -- or absent with it
  pub twice_absent : NoGreatest ls (value_of x) → number_for pair 0 0 ≡ absent_greatest
  twice_absent g =
      one_greatest ls (sum_of 0 x 0 x) _ _ (p.greatest 0 0 (omega arith) (omega arith))
      (inr (record { beyond = λ z. let t = g.beyond (pos (nat_abs z)) in (t.0, t.1, more z (t.0 x) t.2) }, refl))
    where
      more : (z v : ℤ) → pos (nat_abs z) ⩽ v → z ⩽ v +ℤ v
      more z v = simp ints (omega arith)
