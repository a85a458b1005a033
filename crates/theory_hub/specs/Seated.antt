-- The solutions of a list with one hub are the assignments that leave each point what the weights leave it.
-- A weight in row k of the point p says what a step does: value(p) - value(target) is at most it. In the last row the target's value is -value(p), so that
-- half the weight limits value(p); in the others it is the hub's value or minus that, so that the weight limits value(p) with the hub's value. A step from
-- the hub to another variable has no row, but says the same as its mirror image, which has one.
use Rattle.std.specs.Prelude.{◌≡◌, refl, ◌⊎◌, false, List, ℕ, zero, suc, ◌*◌, ◌≤◌, ◌<◌, ℤ, neg_ℤ, ◌-ℤ◌}
use Rattle.std.proofs.Common.{sym, subst, inl, inr, ⊎_elim, arith}
use Rattle.integers.specs.Integer.{◌⩽◌}
use Rattle.integers.proofs.Linear.{ints}
use Rattle.lines.specs.declared.Line.{Line}
use Rattle.lines.specs.Line.{Assignment, Solves}
use Rattle.lines.specs.Valid.{AllOk}
use Rattle.steps.specs.declared.Step.{Step}
use Rattle.steps.specs.Point.{opposite, value, value_opposite}
use Rattle.steps.specs.Step.{steps_of, Says}
use Rattle.theory_walks.specs.Distance.{min_d, ◌⊕◌, Below, le_trans, up_at, up_inv, up_of_le}
use Rattle.theory_walks.specs.Row.{In}
use Rattle.theory_walks.specs.Mirror.{mirror}
use Rattle.theory_walks.specs.Graph.{ends_points, steps_mirrored, solution_says, says_solution}
use Rattle.theory_bounds.specs.Verdict.{has_false, no_false}
use Rattle.theory_hub.specs.Laws.{below_half, half_below, below_plus, plus_below, below_min, min_below_l, min_below_r, value_0, value_1, hub_or_other, opposite_other}
use Rattle.theory_hub.specs.Hub.{hub_points, target, own_row, weight_rows, Weights, Weighs, own, cap}

-- an assignment that leaves each point what the weights leave it
pub record Seated (n : ℕ) (W : Weights) (s : Assignment) : Type 0 where
  pub plus : Below (s 0) (own W 0)
  pub minus : Below (neg_ℤ (s 0)) (own W 1)
  pub other : (p : ℕ) → hub_points ≤ p → p < 2 * n → Below (value s p) (cap W (s 0) p)

-- ---- points
-- the two points of the hub
hub_opposite : (p q : ℕ) → p < hub_points → q < hub_points → (p ≡ q → ⊥) → q ≡ opposite p
unfolding opposite
hub_opposite zero zero l m d = absurd (d refl)
hub_opposite zero (suc zero) l m d = refl
hub_opposite (suc zero) zero l m d = refl
hub_opposite (suc zero) (suc zero) l m d = absurd (d refl)
hub_opposite (suc (suc p)) q l m d = absurd (omega arith)
hub_opposite zero (suc (suc q)) l m d = absurd (omega arith)
hub_opposite (suc zero) (suc (suc q)) l m d = absurd (omega arith)

-- ---- the rows of a point
-- what the weight in row k of p says of the values
abbrev Met : Weights → Assignment → ℕ → ℕ → Type 0
Met W s k p = Below (value s p -ℤ value s (target k p)) (W k p)

module _ (W : Weights) (s : Assignment) where
  -- the last row, as what it leaves p by itself
  met_own : (p : ℕ) → Met W s own_row p → Below (value s p) (own W p)
  met_own p h = below_half (value s p) (W 2 p) (subst (λ (x : ℤ). Below (value s p -ℤ x) (W 2 p)) (value_opposite s p) h)

  own_met : (p : ℕ) → Below (value s p) (own W p) → Met W s own_row p
  own_met p h = subst (λ (x : ℤ). Below (value s p -ℤ x) (W 2 p)) (sym (value_opposite s p)) (half_below (value s p) (W 2 p) h)

  -- all three, as what they leave p
  met_cap : (p : ℕ) → ((k : ℕ) → k < weight_rows → Met W s k p) → Below (value s p) (cap W (s 0) p)
  met_cap p h =
      below_min (value s p) (own W p) _ (met_own p (h 2 (omega arith)))
      (below_min (value s p) (W 0 p ⊕ s 0) (W 1 p ⊕ neg_ℤ (s 0))
      (below_plus (value s p) (s 0) (W 0 p) (subst (λ (x : ℤ). Below (value s p -ℤ x) (W 0 p)) (value_0 s) (h 0 (omega arith))))
      (below_plus (value s p) (neg_ℤ (s 0)) (W 1 p) (subst (λ (x : ℤ). Below (value s p -ℤ x) (W 1 p)) (value_1 s) (h 1 (omega arith)))))

  cap_met : (p : ℕ) → Below (value s p) (cap W (s 0) p) → (k : ℕ) → k < weight_rows → Met W s k p
  cap_met p h zero l =
      subst (λ (x : ℤ). Below (value s p -ℤ x) (W 0 p)) (sym (value_0 s))
      (plus_below (value s p) (s 0) (W 0 p) (min_below_l (value s p) (W 0 p ⊕ s 0) (W 1 p ⊕ neg_ℤ (s 0)) (min_below_r (value s p) (own W p) _ h)))
  cap_met p h (suc zero) l =
      subst (λ (x : ℤ). Below (value s p -ℤ x) (W 1 p)) (sym (value_1 s))
      (plus_below (value s p) (neg_ℤ (s 0)) (W 1 p) (min_below_r (value s p) (W 0 p ⊕ s 0) (W 1 p ⊕ neg_ℤ (s 0)) (min_below_r (value s p) (own W p) _ h)))
  cap_met p h (suc (suc zero)) l = own_met p (min_below_l (value s p) (own W p) (min_d (W 0 p ⊕ s 0) (W 1 p ⊕ neg_ℤ (s 0))) h)
  cap_met p h (suc (suc (suc k))) l = absurd (omega arith)

-- ---- solutions
module _ (n : ℕ) (ls : List Line) (ok : AllOk n ls) (some_variable : 1 ≤ n) (W : Weights) (weighs : Weighs n ls W) where
  -- a solution meets the step that a weight is taken from
  solution_met : (s : Assignment) → Solves ls s → (k p : ℕ) → k < weight_rows → p < 2 * n → Met W s k p
  solution_met s h k p l m z u =
      let d = up_inv u in
      let t = weighs.taken k p l m d.0 d.1 in
      le_trans (said t.0 t.2 t.3 t.4 (solution_says n ls ok s h t.0 t.1)) d.2
    where
      said : (t : Step) {w : ℤ} → t.from ≡ p → t.to ≡ target k p → t.weight ≡ w → Says s t → value s p -ℤ value s (target k p) ⩽ w
      said t e f g h =
          subst (λ (x : ℤ). value s p -ℤ value s (target k p) ⩽ x) g
          (subst (λ (q : ℕ). value s p -ℤ value s q ⩽ t.weight) f (subst (λ (q : ℕ). value s q -ℤ value s t.to ⩽ t.weight) e h))

  pub solution_seated : (s : Assignment) → Solves ls s → Seated n W s
  solution_seated s h =
      record {
        plus = subst (λ (x : ℤ). Below x (own W 0)) (value_0 s) (met_own W s 0 (solution_met s h 2 0 (omega arith) (omega arith)));
        minus = subst (λ (x : ℤ). Below x (own W 1)) (value_1 s) (met_own W s 1 (solution_met s h 2 1 (omega arith) (omega arith)));
        other = λ p _ m. met_cap W s p (λ k l. solution_met s h k p l m);
      }

  -- a step with a row whose weight is met is said
  met_says : (s : Assignment) (t : Step) → In t (steps_of ls) → (k : ℕ) → k < weight_rows → t.to ≡ target k t.from → Met W s k t.from → Says s t
  met_says s t i k l e h =
      subst (λ (q : ℕ). value s t.from -ℤ value s q ⩽ t.weight) (sym e) (h t.weight (up_of_le (weighs.least t i k l e) t.weight (up_at t.weight)))

  -- where its mirror image is said, a step is
  mirror_says : (s : Assignment) (t : Step) → Says s (mirror t) → Says s t
  mirror_says s t h =
      turn (value s t.from) (value s t.to) (value s (opposite t.from)) (value s (opposite t.to)) t.weight (value_opposite s t.from) (value_opposite s t.to) h
    where
      turn : (a b c d w : ℤ) → c ≡ neg_ℤ a → d ≡ neg_ℤ b → d -ℤ c ⩽ w → a -ℤ b ⩽ w
      turn a b c d w = simp ints (omega arith)

  pub seated_solution : has_false ls ≡ false → (s : Assignment) → Seated n W s → Solves ls s
  seated_solution clear s seat = says_solution n ls ok s says (no_false ls clear)
    where
      hub_met : (p : ℕ) → p < hub_points → Met W s own_row p
      hub_met zero l = own_met W s 0 (subst (λ (x : ℤ). Below x (own W 0)) (sym (value_0 s)) seat.plus)
      hub_met (suc zero) l = own_met W s 1 (subst (λ (x : ℤ). Below x (own W 1)) (sym (value_1 s)) seat.minus)
      hub_met (suc (suc p)) l = absurd (omega arith)

      other_met : (p : ℕ) → hub_points ≤ p → p < 2 * n → (k : ℕ) → k < weight_rows → Met W s k p
      other_met p l m = cap_met W s p (seat.other p l m)

      -- by where it begins and ends
      from_other : (t : Step) → In t (steps_of ls) → hub_points ≤ t.from → Says s t
      from_other t i l =
          ⊎_elim (λ low. absurd (omega (arith, low, l)))
          (λ r. met_says s t i r.0 r.1 r.2 (other_met t.from l (ends_points n ls ok t i).0 r.0 r.1))
          (weighs.placed t i)

      from_hub : (t : Step) → In t (steps_of ls) → t.from < hub_points → (t.to < hub_points) ⊎ (hub_points ≤ t.to) → Says s t
      from_hub t i l (inl m) = met_says s t i 2 (omega arith) (hub_opposite t.from t.to l m (weighs.proper t i)) (hub_met t.from l)
      from_hub t i l (inr m) = mirror_says s t (from_other (mirror t) (steps_mirrored n ls ok t i) (opposite_other t.to m))

      says : (t : Step) → In t (steps_of ls) → Says s t
      says t i = ⊎_elim (λ l. from_hub t i l (hub_or_other t.to)) (λ l. from_other t i l) (hub_or_other t.from)
