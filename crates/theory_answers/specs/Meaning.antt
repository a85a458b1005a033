-- The computed answers have the meaning of the specification's section "Yes".
use Rattle.std.specs.Prelude.{◌≡◌, refl, ◌⊎◌, ◌↔◌, Bool, true, false, List, ℕ, zero, suc, ◌+◌, ◌*◌, ◌/◌, ◌%◌, ◌<◌, ℤ, pos, neg_ℤ, ◌+ℤ◌, ◌-ℤ◌, get_or}
use Rattle.std.proofs.Common.{sym, ap, ap₂, subst, ◌∙◌, inl, inr, arith}
use Rattle.std.specs.Int.Signed.{le_z}
use Rattle.integers.specs.Integer.{◌⩽◌}
use Rattle.integers.proofs.Linear.{ints}
use Rattle.integers.specs.Laws.{never, and_true, both_true}
use Rattle.integers.specs.Sequence.{length_tabulate, get_d_tabulate}
use Rattle.lines.specs.declared.Line.{Line}
use Rattle.lines.specs.Line.{Assignment, assignment_of, Solves}
use Rattle.lines.specs.Valid.{AllOk}
use Rattle.steps.specs.Point.{point, opposite, signed, value, value_opposite}
use Rattle.steps.proofs.PointLaws.{value_plus, value_minus}
use Rattle.theory_walks.specs.Distance.{Distance, none, some, ◌⊑◌, some_le, le_some}
use Rattle.theory_bounds.specs.Points.{variable_of, value_cong, variable_below, opposite_below}
use Rattle.theory_bounds.specs.Tight.{Table, halves, tight}
use Rattle.theory_bounds.specs.Table.{ClosedTable, Solution, table_model, model_solves, model_nearest, model_unique, consecutive, greatest, no_greatest, least, no_least, greatest_difference, no_greatest_difference, equal_points}
use Rattle.theory_answers.specs.Semantics.{value_of, sum_of, Agrees, IsModel, Together, IsGroup, group_variable, group_sign, LeastWritten, GreatestWritten, Written, NoGreatest, NoLeast}
use Rattle.theory_bounds.specs.Verdict.{distances, verdict_of}
use Rattle.theory_bounds.specs.Answers.{model_of, greatest_of, least_of, bound_at, bound_least, bound_greatest, bounds_of, not_above0, same_points_lem, group_point_lem, group_at_lem, group_variable_law, group_sign_law, groups_of}
use Rattle.integers.specs.Lowest.{Passed, NonePassed, lowest_known}
use Rattle.theory_answers.specs.Solved.{Verdicts, verdict_yes, to_table, of_table, closed_table}

not_above : (d : Distance) → (not_above0 d ≡ true) ↔ (d ⊑ some (pos 0))
not_above none = ((λ e. never (cc)), (λ h. absurd h.le))
not_above (some z) = ((λ e. some_le (to z e)), (λ h. back z (le_some h)))
  where
    to : (z : ℤ) → le_z z (pos 0) ≡ true → z ⩽ pos 0
    to z = simp ints (omega arith)

    back : (z : ℤ) → z ⩽ pos 0 → le_z z (pos 0) ≡ true
    back z = simp ints (omega arith)

-- what a point stands for: its variable with its sign
value_signed : (t : Assignment) (p : ℕ) → value t p ≡ signed (p % 2) (t (p / 2))
unfolding value
value_signed t p = refl

value_even : (t : Assignment) (x : ℕ) → value t (2 * x) ≡ t x
value_even t x = let q : 2 * x ≡ point x 0 = omega arith in ap (value t) q ∙ value_plus t x

module _ (n : ℕ) (ls : List Line) (ok : AllOk n ls) (yes_verdict : verdict_of n ls ≡ true) where
  abbrev D : Table
  D = distances n ls

  verdicts : Verdicts n ls
  verdicts = verdict_yes n ls yes_verdict

  pub closed : ClosedTable n D
  closed = closed_table n ls ok verdicts

  pub table_solves : (s : Assignment) → Solution n D s → Solves ls s
  table_solves s h = of_table n ls ok verdicts.clear s h

  -- only the values of the n variables count
  same_solution : (s t : Assignment) → Agrees n t s → Solution n D s → Solution n D t
  same_solution s t e h = record { holds = λ i j a b d q. rw (at i a, at j b) (h.holds i j a b d q) }
    where
      at : (i : ℕ) → i < 2 * n → value t i ≡ value s i
      at i a = value_cong t s i (e (variable_of i) (variable_below n i a))

  -- ---- the model
  pub model_value : (x : ℕ) → x < n → assignment_of (model_of n ls) x ≡ table_model n D x
  unfolding model_of
  model_value x h = get_d_tabulate n x (table_model n D) (pos 0) h

  pub model_is_model : IsModel n ls (assignment_of (model_of n ls))
  model_is_model =
      record {
        solves = table_solves _ (same_solution (table_model n D) _ model_value (model_solves n D closed));
        nearest = λ k h t st a. rw (model_value k h) (model_nearest n D closed t (to_table n ls ok t st) k h (λ x l. a x l ∙ model_value x (omega arith)));
      }

  -- no other assignment is the model
  pub only_model : (m : Assignment) → IsModel n ls m → (x : ℕ) → x < n → m x ≡ assignment_of (model_of n ls) x
  only_model m i x h =
      model_unique n D closed m (to_table n ls ok m i.solves) (λ k l s st a. i.nearest k l s (table_solves s st) a) x h ∙ sym (model_value x h)

  -- values between two possible values are possible, so there is no tie
  pub no_tie : (k : ℕ) → k < n → (s t : Assignment) → Solves ls s → Solves ls t → Agrees k t s → (v : ℤ) → s k ⩽ v → v ⩽ t k
      → (r : Assignment) × Solves ls r × Agrees k r s × (r k ≡ v)
  no_tie k h s t a b e v lo hi =
      let w = consecutive n D closed k h s t (to_table n ls ok s a) (to_table n ls ok t b) e v lo hi in
      (w.0, table_solves w.0 w.1, w.2, w.3)

  -- ---- bounds
  -- where no walk limits a variable there is no bound
  pub none_greatest : (x : ℕ) → x < n → halves D (point x 0) ≡ none → NoGreatest ls (value_of x)
  none_greatest x h e = record { beyond = λ z. let g = no_greatest n D closed x h e z in (g.0, table_solves g.0 g.1, g.2) }

  pub none_least : (x : ℕ) → x < n → halves D (point x 1) ≡ none → NoLeast ls x
  none_least x h e = record { beyond = λ z. let g = no_least n D closed x h e z in (g.0, table_solves g.0 g.1, g.2) }

  pub greatest_written : (x : ℕ) → x < n → GreatestWritten ls (value_of x) (greatest_of (halves D (point x 0)))
  greatest_written x h = go (halves D (point x 0)) refl
    where
      go : (d : Distance) → halves D (point x 0) ≡ d → GreatestWritten ls (value_of x) (greatest_of d)
      go (some z) e =
          let g = greatest n D closed x h z e in
          inl (record { bounds = λ t st. g.0 t (to_table n ls ok t st); taken_by = g.1.0; solves = table_solves g.1.0 g.1.1; taken = g.1.2 })
      go none e = inr (none_greatest x h e, refl)

  pub least_written : (x : ℕ) → x < n → LeastWritten ls x (least_of (halves D (point x 1)))
  least_written x h = go (halves D (point x 1)) refl
    where
      go : (d : Distance) → halves D (point x 1) ≡ d → LeastWritten ls x (least_of d)
      go (some z) e =
          let g = least n D closed x h z e in
          inl (record { bounds = λ t st. g.0 t (to_table n ls ok t st); taken_by = g.1.0; solves = table_solves g.1.0 g.1.1; taken = g.1.2 })
      go none e = inr (none_least x h e, refl)

  -- a sum of two points is the difference of the one and the opposite of the other
  opposed : (v w u : ℤ) → u ≡ neg_ℤ w → v -ℤ u ≡ v +ℤ w
  opposed v w u = simp ints (omega arith)

  value_point : (t : Assignment) (x s : ℕ) → s < 2 → value t (point x s) ≡ signed s (t x)
  value_point t x zero h = value_plus t x
  value_point t x (suc zero) h = value_minus t x
  value_point t x (suc (suc s)) h = absurd (omega arith)

  module _ (s x u y : ℕ) (hs : s < 2) (hx : x < n) (hu : u < 2) (hy : y < n) where
    abbrev p : ℕ
    p = point x s

    abbrev q : ℕ
    q = opposite (point y u)

    p_below : p < 2 * n
    p_below = omega arith

    q_below : q < 2 * n
    q_below = opposite_below n (point y u) (omega arith)

    sum_is : (t : Assignment) → value t p -ℤ value t q ≡ sum_of s x u y t
    sum_is t = opposed (value t p) (value t (point y u)) (value t q) (value_opposite t (point y u)) ∙ ap₂ (λ (v w : ℤ). v +ℤ w) (value_point t x s hs) (value_point t y u hu)

    -- where no walk limits a sum it has no greatest value; else that is the tightened distance
    pub none_sum : tight D (point x s) (opposite (point y u)) ≡ none → NoGreatest ls (sum_of s x u y)
    none_sum e = record { beyond = λ z. let g = no_greatest_difference n D closed p q p_below q_below e z in (g.0, table_solves g.0 g.1, subst (λ (v : ℤ). z ⩽ v) (sum_is g.0) g.2) }

    pub sum_written : GreatestWritten ls (sum_of s x u y) (greatest_of (tight D (point x s) (opposite (point y u))))
    sum_written = go (tight D p q) refl
      where
        go : (d : Distance) → tight D p q ≡ d → GreatestWritten ls (sum_of s x u y) (greatest_of d)
        go (some z) e =
            let g = greatest_difference n D closed p q p_below q_below z e in
            inl (record { bounds = λ t st. subst (λ (v : ℤ). v ⩽ z) (sum_is t) (g.0 t (to_table n ls ok t st)); taken_by = g.1.0; solves = table_solves g.1.0 g.1.1; taken = sym (sum_is g.1.0) ∙ g.1.2 })
        go none e = inr (none_sum e, refl)

  least_at : (x : ℕ) → x < n → get_or (bounds_of n ls) (2 * x) (pos 0) ≡ least_of (halves D (point x 1))
  unfolding bounds_of
  least_at x h = get_d_tabulate (2 * n) (2 * x) (bound_at D) (pos 0) (omega arith) ∙ bound_least D x

  greatest_at : (x : ℕ) → x < n → get_or (bounds_of n ls) (2 * x + 1) (pos 0) ≡ greatest_of (halves D (point x 0))
  unfolding bounds_of
  greatest_at x h = get_d_tabulate (2 * n) (2 * x + 1) (bound_at D) (pos 0) (omega arith) ∙ bound_greatest D x

  -- ---- groups
  -- the test of two points
  same_values : (p q : ℕ) → p < 2 * n → q < 2 * n → (same_points_lem D p q ≡ true) ↔ ((t : Assignment) → Solves ls t → value t p ≡ value t q)
  same_values p q i j =
      let g = equal_points n D closed p q i j in (
        (λ e.
            let w = and_true (not_above0 (tight D p q)) _ e in
            λ t st. g.1 ((not_above _).0 w.0, (not_above _).0 w.1) t (to_table n ls ok t st)),
        (λ f. let w = g.0 (λ t st. f t (table_solves t st)) in both_true _ _ ((not_above _).1 w.0) ((not_above _).1 w.1)),
      )

  -- of x and a point
  abbrev At : ℕ → ℕ → Type 0
  At x p = (t : Assignment) → Solves ls t → t x ≡ value t p

  at_point : (x p : ℕ) → x < n → p < 2 * n → (same_points_lem D (2 * x) p ≡ true) ↔ At x p
  at_point x p h l =
      let s = same_values (2 * x) p (omega arith) l in
      ((λ e t st. sym (value_even t x) ∙ s.0 e t st), (λ f. s.1 (λ t st. value_even t x ∙ f t st)))

  -- the lowest point of x: x has its value, and that of none before it
  record LowestPoint (x p : ℕ) : Type 0 where
    at : At x p
    before : (q : ℕ) → q < p → At x q → ⊥

  lowest_point : (x : ℕ) → x < n → LowestPoint x (group_point_lem D x)
  lowest_point x h = go (lowest_known (same_points_lem D (2 * x)) 0 (2 * x))
    where
      clash : {t : Bool} → t ≡ false → t ≡ true → ⊥
      clash e f = never (cc)

      go : Passed (same_points_lem D (2 * x)) 0 (0 + 2 * x) (group_point_lem D x) ⊎ NonePassed (same_points_lem D (2 * x)) 0 (0 + 2 * x) (group_point_lem D x) → LowestPoint x (group_point_lem D x)
      go (inl s) =
          record {
            at = (at_point x (group_point_lem D x) h (omega (arith, s.below))).0 s.passes;
            before = λ q l f. clash (s.before q (omega arith) l) ((at_point x q h (omega (arith, s.below))).1 f);
          }
      go (inr s) =
          let e : 2 * x ≡ group_point_lem D x = omega (arith, s.at_end) in
          record {
            at = λ t _. sym (value_even t x) ∙ ap (value t) e;
            before = λ q l f. clash (s.fails q (omega arith) (omega arith)) ((at_point x q h (omega arith)).1 f);
          }

  -- its variable and its sign are the group of x: every point of a lower variable stands before it, and so does the plus point before the minus point
  point_group : (x p : ℕ) → LowestPoint x p → IsGroup ls x (p / 2) (p % 2)
  point_group x p g =
      record {
        a_sign = omega arith;
        together = λ t st. g.at t st ∙ value_signed t p;
        lowest = lower;
        plus = λ f. sign_is (p % 2) refl f;
      }
    where
      lower : (q : ℕ) → q < p / 2 → (s : ℕ) → Together ls x q s → ⊥
      lower q l zero f = g.before (point q 0) (omega arith) (λ t st. f t st ∙ sym (value_plus t q))
      lower q l (suc s) f = g.before (point q 1) (omega arith) (λ t st. f t st ∙ sym (value_minus t q))

      sign_is : (s : ℕ) → p % 2 ≡ s → Together ls x (p / 2) 0 → s ≡ 0
      sign_is zero e f = refl
      sign_is (suc s) e f = absurd (g.before (point (p / 2) 0) (omega arith) (λ t st. f t st ∙ sym (value_plus t (p / 2))))

  variable_at : (x : ℕ) → x < n → group_variable (groups_of n ls) x ≡ group_point_lem D x / 2
  unfolding groups_of
  variable_at x h = get_d_tabulate (2 * n) (2 * x) (group_at_lem D) 0 (omega arith) ∙ group_variable_law D x

  sign_at : (x : ℕ) → x < n → group_sign (groups_of n ls) x ≡ group_point_lem D x % 2
  unfolding groups_of
  sign_at x h = get_d_tabulate (2 * n) (2 * x + 1) (group_at_lem D) 0 (omega arith) ∙ group_sign_law D x

  -- what is computed is what is to be written
  pub computed_written : Written n ls (model_of n ls) (bounds_of n ls) (groups_of n ls)
  unfolding model_of bounds_of groups_of
  computed_written =
      record {
        model_length = length_tabulate n _;
        model_is = model_is_model;
        bounds_length = length_tabulate (2 * n) _;
        least_is = λ x h. rw (least_at x h) (least_written x h);
        greatest_is = λ x h. rw (greatest_at x h) (greatest_written x h);
        groups_length = length_tabulate (2 * n) _;
        group_is = λ x h. rw (variable_at x h, sign_at x h) (point_group x (group_point_lem D x) (lowest_point x h));
      }
