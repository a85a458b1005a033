-- A bound that is there lies strictly between the numbers that stand for absent ones, so that the number written is the absent one exactly if there is no bound.
use Rattle.std.specs.Prelude.{◌≡◌, ◌↔◌, true, List, ℕ, ◌+◌, ◌*◌, ◌<◌, ◌≤◌, ℤ, pos, neg_ℤ, get_or}
use Rattle.std.proofs.Math.Path.{refl, subst}
use Rattle.std.proofs.Common.{sym, inl, inr, arith}
use Rattle.integers.specs.Integer.{◌⩽◌, ◌⋖◌, half, Within}
use Rattle.integers.proofs.Linear.{ints}
use Rattle.integers.specs.Laws.{never}
use Rattle.lines.specs.declared.Line.{Line}
use Rattle.lines.specs.Limits.{max_variables}
use Rattle.lines.specs.Line.{lines_of}
use Rattle.lines.specs.Valid.{Workable}
use Rattle.steps.specs.Point.{point, opposite}
use Rattle.steps.specs.Step.{max_weight, steps_of}
use Rattle.theory_walks.specs.Distance.{Distance, none, some, half_d}
use Rattle.theory_walks.specs.Size.{best_within}
use Rattle.theory_bounds.specs.Tight.{halves}
use Rattle.theory_answers.specs.Semantics.{value_of, NoGreatest, IsGreatest, NoLeast, IsLeast, LeastWritten, GreatestWritten, Written}
use Rattle.lines.specs.Limits.{absent_least, absent_greatest}
use Rattle.theory_walks.specs.Graph.{weights_small}
use Rattle.theory_bounds.specs.Verdict.{distances, verdict_of}
use Rattle.theory_bounds.specs.Answers.{greatest_of, least_of}
use Rattle.theory_answers.specs.Meaning.{none_greatest, none_least, greatest_written, least_written}
use Rattle.theory_answers.specs.Decided.{lines_ok}
use Rattle.theory_answers.specs.Unique.{no_both_greatest, no_both_least, one_greatest, one_least, written_yes}

module _ (n : ℕ) (L : List ℤ) (valid : Workable n L) where
  abbrev lines : List Line
  lines = lines_of L

  half_within : (m : ℕ) (z : ℤ) → Within m z → Within m (half z)
  half_within m z w = record { low = low m z w.low; high = high m z w.low w.high }
    where
      low : (m : ℕ) (z : ℤ) → neg_ℤ (pos m) ⩽ z → neg_ℤ (pos m) ⩽ half z
      low m z = simp ints (omega arith)

      high : (m : ℕ) (z : ℤ) → neg_ℤ (pos m) ⩽ z → z ⩽ pos m → half z ⩽ pos m
      high m z = simp ints (omega arith)

  pub halves_within : (i : ℕ) (z : ℤ) → halves (distances n lines) i ≡ some z → Within (2 * n * max_weight) z
  unfolding halves
  halves_within i z = go (distances n lines i (opposite i)) refl
    where
      go : (d : Distance) → distances n lines i (opposite i) ≡ d → half_d d ≡ some z → Within (2 * n * max_weight) z
      go none e f = never (cc)
      go (some y) e f =
          let h : half y ≡ z = cc in
          subst (Within (2 * n * max_weight)) h (half_within _ y (best_within max_weight (steps_of lines) (weights_small n lines (lines_ok n L valid)) (2 * n) i (opposite i) y e))

  size : 2 * n * max_weight ≤ 2 * max_variables * max_weight
  size = omega (arith, valid.variables)

  module _ (yes_verdict : verdict_of n lines ≡ true) (x : ℕ) (h : x < n) (w : ℤ) where
    pub least_above : IsLeast lines x w → absent_least ⋖ w
    least_above i = go (halves (distances n lines) (point x 1)) refl (least_written n lines (lines_ok n L valid) yes_verdict x h)
      where
        above : (m : ℕ) (z : ℤ) → m ≤ 2 * max_variables * max_weight → z ⩽ pos m → absent_least ⋖ neg_ℤ z
        above m z = simp ints (omega arith)

        go : (d : Distance) → halves (distances n lines) (point x 1) ≡ d → LeastWritten lines x (least_of d) → absent_least ⋖ w
        go (some z) e k = rw (one_least lines x w (neg_ℤ z) (inl i) k) (above _ z size (halves_within (point x 1) z e).high)
        go none e k = absurd (no_both_least lines x w i (none_least n lines (lines_ok n L valid) yes_verdict x h e))

    pub greatest_below : IsGreatest lines (value_of x) w → w ⋖ absent_greatest
    greatest_below i = go (halves (distances n lines) (point x 0)) refl (greatest_written n lines (lines_ok n L valid) yes_verdict x h)
      where
        below : (m : ℕ) (z : ℤ) → m ≤ 2 * max_variables * max_weight → z ⩽ pos m → z ⋖ absent_greatest
        below m z = simp ints (omega arith)

        go : (d : Distance) → halves (distances n lines) (point x 0) ≡ d → GreatestWritten lines (value_of x) (greatest_of d) → w ⋖ absent_greatest
        go (some z) e k = rw (one_greatest lines (value_of x) w z (inl i) k) (below _ z size (halves_within (point x 0) z e).high)
        go none e k = absurd (no_both_greatest lines (value_of x) w i (none_greatest n lines (lines_ok n L valid) yes_verdict x h e))

  -- ---- the number written is the absent one exactly if there is no bound
  module _ (model bounds : List ℤ) (groups : List ℕ) (w : Written n lines model bounds groups) (x : ℕ) (h : x < n) where
    yes_verdict : verdict_of n lines ≡ true
    yes_verdict = written_yes n L valid model bounds groups w

    apart : (v w : ℤ) → v ⋖ w → v ≡ w → ⊥
    apart v w = simp ints (omega arith)

    pub least_absent : (get_or bounds (2 * x) (pos 0) ≡ absent_least) ↔ NoLeast lines x
    least_absent = go _ (w.least_is x h)
      where
        go : (v : ℤ) → LeastWritten lines x v → (v ≡ absent_least) ↔ NoLeast lines x
        go v (inl a) = ((λ e. absurd (apart absent_least v (least_above yes_verdict x h v a) (sym e))), (λ z. absurd (no_both_least lines x v a z)))
        go v (inr a) = ((λ _. a.0), (λ _. a.1))

    pub greatest_absent : (get_or bounds (2 * x + 1) (pos 0) ≡ absent_greatest) ↔ NoGreatest lines (value_of x)
    greatest_absent = go _ (w.greatest_is x h)
      where
        go : (v : ℤ) → GreatestWritten lines (value_of x) v → (v ≡ absent_greatest) ↔ NoGreatest lines (value_of x)
        go v (inl a) = ((λ e. absurd (apart v absent_greatest (greatest_below yes_verdict x h v a) e)), (λ z. absurd (no_both_greatest lines (value_of x) v a z)))
        go v (inr a) = ((λ _. a.0), (λ _. a.1))
