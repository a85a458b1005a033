-- The model written value by value: what the values so far are, and the next.
use Rattle.std.specs.Prelude.{◌≡◌, List, [], ◌∷◌, ◌++◌, ℤ, pos, length, set, take, drop}
use Rattle.std.proofs.Common.{sym, ◌∙◌, arith, SFits, take_at}
use Rattle.std.proofs.Math.Path.{ap, ap₂}
use Prim.Native.Nat.{ℕ, zero, suc, ◌+◌, ◌*◌, ◌<◌, ◌≤◌}
use Rattle.std.proofs.Math.Decide.{ℕ_discrete}
use Rattle.std.specs.Int.{w32}
use Rattle.integers.specs.Integer.{Within}
use Rattle.integers.specs.Sequence.{tabulate, tabulate_add, length_tabulate, get_d_tabulate, grow}
use Rattle.lines.specs.Line.{Assignment, number, assignment_of}
use Rattle.steps.specs.Point.{point, value}
use Rattle.theory_walks.specs.Distance.{Distance, Below, up_inv, le_trans}
use Rattle.theory_bounds.specs.Points.{variable_of, variable_below, below_of_variable, value_cong, assign_same, assign_other}
use Rattle.theory_bounds.specs.Tight.{Table, halves, tight}
use Rattle.theory_bounds.specs.Near.{near}
use Rattle.theory_bounds.specs.Extend.{below, below_lt, limit, limit_cong, pick}
use Rattle.theory_bounds.specs.Untightened.{limit_untightened}
use Rattle.theory_bounds.specs.Model.{model}
use Rattle.theory_bounds.specs.Table.{ClosedTable, table_model, half_sound, model_solves}
use Rattle.decide_rows.specs.Read.{distance_of}
use Rattle.decide_stored_table.specs.Table.{table_of, ShortTable}
use Rattle.decide_model.specs.Limit.{max_model, limit_of, value_fits}

-- the value of the next variable, given those of the first ones: by the distances, and by the tightened ones
abbrev pub pick_of : Table → List ℤ → ℤ
pick_of D values = pick D (halves D) (assignment_of values) (below (length values)) (length values)

abbrev pub next_of : Table → List ℤ → ℤ
next_of D values = pick (tight D) (halves D) (assignment_of values) (below (length values)) (length values)

pub record ModelReady (n : ℕ) (t m : List ℤ) : Type 0 where
  pub table : ShortTable n t
  pub closed : ClosedTable n (table_of (2 * n) t)
  pub room : n ≤ length m
  pub small : (k : ℕ) → k < n → Within max_model (table_model n (table_of (2 * n) t) k)

-- ---- each value is picked, given those before
module _ (T : Table) (h : ℕ → Distance) where
  model_stays : (n x : ℕ) → x < n → model T h n x ≡ model T h (suc x) x
  unfolding model
  model_stays zero x l = absurd (omega arith)
  model_stays (suc n) x l = go (model_stays n x) (ℕ_discrete x n)
    where
      go : (x < n → model T h n x ≡ model T h (suc x) x) → Dec (x ≡ n) → model T h (suc n) x ≡ model T h (suc x) x
      go r (yes e) = ap (λ y. model T h (suc y) x) (sym e)
      go r (no e) = assign_other (model T h n) n _ x e ∙ r (omega arith)

  model_picks : (n k : ℕ) → k < n → model T h n k ≡ pick T h (model T h k) (below k) k
  unfolding model
  model_picks n k l = model_stays n k l ∙ assign_same (model T h k) k (pick T h (model T h k) (below k) k)

  pick_cong : (s t : Assignment) (k : ℕ) → ((x : ℕ) → x < k → s x ≡ t x) → pick T h s (below k) k ≡ pick T h t (below k) k
  unfolding pick
  pick_cong s t k f =
      ap₂ near (limit_cong T h s t (below k) (point k 0) (λ x i. f x (below_lt x k i))) (limit_cong T h s t (below k) (point k 1) (λ x i. f x (below_lt x k i)))

  next_is : (n k : ℕ) → k < n → (s : Assignment) → ((x : ℕ) → x < k → s x ≡ model T h n x) → pick T h s (below k) k ≡ model T h n k
  next_is n k l s f =
      pick_cong s (model T h k) k (λ x i. f x i ∙ model_stays n x (omega arith) ∙ sym (model_stays k x i)) ∙ sym (model_picks n k l)

-- the two ends that were read back
pub pick_back : (D : Table) (values : List ℤ) (u l : ℤ) → let k = length values in
    distance_of u ≡ limit_of D values k (point k 0) → distance_of l ≡ limit_of D values k (point k 1) → near (distance_of u) (distance_of l) ≡ pick_of D values
unfolding pick
pick_back D values u l e f = ap₂ near e f

-- where no value is above its half, the distances give the limits of the tightened table
pub pick_untightened : (D : Table) (values : List ℤ) → ((q : ℕ) → q < 2 * length values → Below (value (assignment_of values) q) (halves D q)) → pick_of D values ≡ next_of D values
unfolding pick
pick_untightened D values inside = ap₂ near (same (point (length values) 0)) (same (point (length values) 1))
  where
    same : (p : ℕ) → limit_of D values (length values) p ≡ limit (tight D) (halves D) (assignment_of values) (below (length values)) p
    same p = sym (limit_untightened D (assignment_of values) (below (length values)) (λ q i. inside q (below_of_variable (length values) q (below_lt (variable_of q) (length values) i))) p)

-- ---- the loop, after k values: of any table
module _ (n : ℕ) (D : Table) (m : List ℤ) (room : n ≤ length m) where
  abbrev values : ℕ → List ℤ
  values k = tabulate k (table_model n D)

  module _ (k : ℕ) (l : k < n) (w : List ℤ) (e : w ≡ values k ++ drop k m) where
    pub part_is : take k w ≡ values k
    part_is = ap (take k) e ∙ take_at (values k) (drop k m) k (length_tabulate k (table_model n D))

    pub part_length : length (take k w) ≡ k
    part_length = ap length part_is ∙ length_tabulate k (table_model n D)

    part_at : (x : ℕ) → x < k → number (take k w) x ≡ table_model n D x
    part_at x h = ap (λ (v : List ℤ). number v x) part_is ∙ get_d_tabulate k x (table_model n D) (pos 0) h

    pub part_small : ((x : ℕ) → x < n → Within max_model (table_model n D x)) → (x : ℕ) → x < length (take k w) → Within max_model (number (take k w) x)
    part_small small x h =
        let i : x < k = rw part_length at h in
        rw (part_at x i) (small x (omega arith))

    -- the model is a solution, so that no value is above its half
    pub part_below_halves : ClosedTable n D → (q : ℕ) → q < 2 * length (take k w) → Below (value (assignment_of (take k w)) q) (halves D q)
    part_below_halves closed q h z u =
        let i : q < 2 * k = rw part_length at h in
        let a = up_inv u in
        let e : value (assignment_of (take k w)) q ≡ value (table_model n D) q = value_cong (assignment_of (take k w)) (table_model n D) q (part_at (variable_of q) (variable_below k q i)) in
        rw e (le_trans (half_sound n D closed (table_model n D) (model_solves n D closed) q (omega arith) a.0 a.1) a.2)

    value_is : pick (tight D) (halves D) (assignment_of (take k w)) (below k) k ≡ table_model n D k
    unfolding table_model
    value_is = next_is (tight D) (halves D) n k l (assignment_of (take k w)) part_at

    pub next_value : next_of D (take k w) ≡ table_model n D k
    next_value = ap (λ (j : ℕ). pick (tight D) (halves D) (assignment_of (take k w)) (below j) j) part_length ∙ value_is

    -- the next value is small enough for its place
    pub next_fits : ((x : ℕ) → x < n → Within max_model (table_model n D x)) → (v : ℤ) → v ≡ next_of D (take k w) → SFits w32 v
    next_fits small v q = value_fits v (rw (q ∙ next_value) (small k l))

    pub written_more : (v : ℤ) → v ≡ next_of D (take k w) → set w k v ≡ values (k + 1) ++ drop (k + 1) m
    written_more v q =
        let a : v ≡ table_model n D k = q ∙ next_value in
        ap₂ (λ (x : List ℤ) (y : ℤ). set x k y) e a
        ∙ grow (values k) k (table_model n D k) (pos 0) m (length_tabulate k (table_model n D)) (omega (arith, room))
        ∙ ap (λ (x : List ℤ). x ++ drop (k + 1) m) (sym (tabulate_add k 1 (table_model n D) ∙ ap (λ (j : ℕ). values k ++ table_model n D j ∷ []) z))
      where
        z : k + 0 ≡ k
        z = omega arith
