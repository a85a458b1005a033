-- A table whose entries no step from the front lowers, 0 on the diagonal, holds the distances: an entry turned back by
-- the numbers of its two points is one.
use Rattle.std.specs.Prelude.{◌≡◌, true, List, [], ◌∷◌, ℕ, ◌+◌, ◌<◌, ℤ, pos, ◌+ℤ◌, ◌-ℤ◌}
use Rattle.std.proofs.Common.{sym, ap, subst, arith}
use Rattle.integers.specs.Integer.{◌⩽◌}
use Rattle.integers.proofs.Linear.{ints}
use Rattle.lines.specs.Line.{number}
use Rattle.steps.specs.declared.Step.{Step}
use Rattle.steps.specs.Step.{max_weight}
use Rattle.steps.specs.Walk.{total}
use Rattle.theory_walks.specs.Row.{In, WithinPoints, best}
use Rattle.theory_walks.specs.Reach.{Walk, walk_rest}
use Rattle.theory_walks.specs.Least.{NoneNegative}
use Rattle.theory_walks.specs.Negative.{no_negative, no_negative_yes}
use Rattle.theory_walks.specs.Size.{WithinWeights}
use Rattle.decide_rows.specs.Stored.{stored}
use Rattle.engine_packed_steps.specs.Steps.{step_in_lem, steps_in, within_steps, light_steps, tabulate_all}
use Rattle.engine_reduced_table.specs.Reduced.{cell, Reduced}
use Rattle.engine_settled_table.specs.Settled.{AllSettled}
use Rattle.engine_settled_table.specs.Out.{out_of, OutReady}
use Rattle.engine_settled_table.specs.Least.{least_exact}

module _ {count pot size : ℕ} {w : List ℤ} (r : Reduced count pot size w) (clear : no_negative (steps_in count w) size ≡ true) (a : AllSettled count pot size w) where
  abbrev E : List Step
  E = steps_in count w

  abbrev q : ℕ → ℤ
  q i = number w (pot + i)

  abbrev T : ℕ → ℕ → ℤ
  T i j = number w (cell pot size i j)

  within : WithinPoints size E
  within = within_steps r.steps

  weights : WithinWeights max_weight E
  weights = light_steps count size w r.steps.ok

  nonneg : NoneNegative E size
  nonneg = no_negative_yes E size clear

  by_step : (s : Step) → In s E → (t : ℕ) → t < size → T s.from t ⩽ T s.to t +ℤ (((s.weight +ℤ s.weight) +ℤ q s.from) -ℤ q s.to)
  unfolding steps_in
  by_step = tabulate_all (λ s. (t : ℕ) → t < size → T s.from t ⩽ T s.to t +ℤ (((s.weight +ℤ s.weight) +ℤ q s.from) -ℤ q s.to)) count (step_in_lem w) (λ i h. (a.steps i h).all)

  by_walk : (i t : ℕ) → t < size → (ss : List Step) → Walk E i ss t → T i t +ℤ q t ⩽ (total ss +ℤ total ss) +ℤ q i
  by_walk i t h [] p = subst (λ (k : ℕ). T k t +ℤ q t ⩽ (pos 0 +ℤ pos 0) +ℤ q k) (sym p.path) (zero_diagonal (T t t) (q t) (a.diagonal t h))
    where
      zero_diagonal : (x b : ℤ) → x ⩽ pos 0 → x +ℤ b ⩽ (pos 0 +ℤ pos 0) +ℤ b
      zero_diagonal x b = simp ints (omega arith)
  by_walk i t h (s ∷ ss) p =
      subst (λ (k : ℕ). T k t +ℤ q t ⩽ ((s.weight +ℤ total ss) +ℤ (s.weight +ℤ total ss)) +ℤ q k) (sym p.path.0)
      (chain (T s.from t) (T s.to t) s.weight (total ss) (q s.from) (q s.to) (q t) (by_step s p.steps.0 t h) (by_walk s.to t h ss (walk_rest s ss p)))
    where
      chain : (x y v n a b c : ℤ) → x ⩽ y +ℤ (((v +ℤ v) +ℤ a) -ℤ b) → y +ℤ c ⩽ (n +ℤ n) +ℤ b → x +ℤ c ⩽ ((v +ℤ n) +ℤ (v +ℤ n)) +ℤ a
      chain x y v n a b c = simp ints (omega arith)

  -- an entry turned back is stored as the distance
  pub exact_entry : (i j : ℕ) → i < size → j < size → stored (out_of (number w (pot + i)) (number w (pot + j)) (number w (cell pot size i j))) ≡ stored (best (steps_in count w) size i j)
  exact_entry i j hi hj = ap stored (least_exact E size within weights r.points nonneg i j hi (q i) (q j) (r.small i hi) (r.small j hj) (T i j) (r.entry i j hi hj) (by_walk i j hj))

-- what turning back an entry asks
pub out_ready : {count pot size : ℕ} {w : List ℤ} → Reduced count pot size w → (i j : ℕ) → i < size → j < size → OutReady (number w (cell pot size i j)) (number w (pot + i)) (number w (pot + j))
out_ready r i j hi hj = record {
  low = (r.entry i j hi hj).low;
  high = (r.entry i j hi hj).high;
  own_small = r.small i hi;
  other_small = r.small j hj;
}
