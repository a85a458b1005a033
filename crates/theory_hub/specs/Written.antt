-- The answers of a list with one hub are what deciding writes: their meaning is that of the specification's section "Yes", which fixes them.
use Rattle.std.specs.Prelude.{◌≡◌, Bool, true, false, not, ◌&&◌, List, ℕ, zero, suc, ◌+◌, ◌*◌, ◌-◌, ◌/◌, ◌%◌, ◌≤◌, ◌<◌, eqb, ℤ, pos, neg_ℤ, nat_abs, ◌+ℤ◌, ◌-ℤ◌, get_or}
use Rattle.std.proofs.Math.Path.{refl, ap, ap₂}
use Rattle.std.proofs.Common.{sym, subst, ◌∙◌, inl, inr, ⊎_elim, eq-eqb, ne_eqb}
use Rattle.std.proofs.Math.Bool.{cond}
use native.Mathlib.Omega.{arith}
use Rattle.std.specs.Int.Signed.{le_z}
use Rattle.integers.specs.Integer.{◌⩽◌}
use Rattle.integers.proofs.Linear.{ints}
use Rattle.integers.specs.Laws.{never, and_true}
use Rattle.integers.specs.Sequence.{tabulate, length_tabulate, get_d_tabulate}
use Rattle.integers.specs.Table.{below_at}
use Rattle.lines.specs.declared.Line.{Line}
use Rattle.lines.specs.Line.{Assignment, assignment_of, lines_of, Solves}
use Rattle.lines.specs.Valid.{AllOk, Workable}
use Rattle.steps.specs.Point.{point, opposite, signed, value}
use Rattle.steps.proofs.PointLaws.{value_plus, value_minus}
use Rattle.theory_walks.specs.Distance.{Distance, none, some, Up, Below, ◌⊞◌, up_at, up_le, up_dec, up_plus, not_none, le_antisym}
use Rattle.theory_walks.specs.Negative.{not_below0}
use Rattle.theory_bounds.specs.Near.{Gap, near, near_high, near_low, near_least}
use Rattle.theory_bounds.specs.Points.{variable_of, variable_below, variable_plus, variable_minus, value_cong, opposite_minus}
use Rattle.theory_bounds.specs.Verdict.{has_false, verdict_of}
use Rattle.theory_bounds.specs.Answers.{model_of, bounds_of, groups_of, greatest_of, least_of, not_above0}
use Rattle.theory_answers.specs.Semantics.{Agrees, IsModel, value_of, Together, IsGroup, group_variable, group_sign, LeastWritten, GreatestWritten, Written}
use Rattle.theory_answers.specs.Decided.{lines_ok}
use Rattle.theory_answers.specs.Unique.{written_yes, written_model, written_bounds, written_groups}
use Rattle.theory_hub.specs.Hub.{hub_points, Weights, Weighs, cap, hub_limit_lem, others, hub_value, greatest_at_lem, loose, all_sound_lem, all_loose_lem, answerable, hub_model, hub_bound_lem, own_group}
use Rattle.theory_hub.specs.Laws.{gap_sum}
use Rattle.theory_hub.specs.Seated.{Seated, solution_seated, seated_solution}
use Rattle.theory_hub.specs.Limited.{hub_plus, hub_minus, greatest_limits}
use Rattle.theory_hub.specs.Placed.{place, place_hub, place_other, tighter, tighter_else, plain_seated, tight_seated, tight_at, Reached, attained}

-- only the values of the n variables count
seated_cong : (n : ℕ) (W : Weights) (s t : Assignment) → 1 ≤ n → Agrees n t s → Seated n W s → Seated n W t
seated_cong n W s t h e a =
    record {
      plus = rw (e 0 h) a.plus;
      minus = rw (e 0 h) a.minus;
      other = λ p i l. rw (e 0 h, value_cong t s p (e (variable_of p) (variable_below n p l))) (a.other p i l);
    }

-- a distance above 0
above_0 : (d : Distance) → not (not_above0 d) ≡ true → Below (pos 1) d
above_0 none e z u = not_none u
above_0 (some d) e z u = more d z (le_z d (pos 0)) refl e (up_le u)
  where
    one : (d z : ℤ) → le_z d (pos 0) ≡ false → d ⩽ z → pos 1 ⩽ z
    one d z = simp ints (omega arith)

    more : (d z : ℤ) (b : Bool) → le_z d (pos 0) ≡ b → not b ≡ true → d ⩽ z → pos 1 ⩽ z
    more d z true e f = never (cc)
    more d z false e f = one d z e

module _ (n : ℕ) (L : List ℤ) (valid : Workable n L) (some_variable : 1 ≤ n) (W : Weights) (weighs : Weighs n (lines_of L) W) (clear : has_false (lines_of L) ≡ false) (can : answerable n W ≡ true) where
  abbrev ls : List Line
  ls = lines_of L

  ok : AllOk n ls
  ok = lines_ok n L valid

  seated : (s : Assignment) → Solves ls s → Seated n W s
  seated = solution_seated n ls ok some_variable W weighs

  solves : (s : Assignment) → Seated n W s → Solves ls s
  solves = seated_solution n ls ok some_variable W weighs clear

  -- ---- what `answerable` asks
  abbrev A : Distance
  A = hub_limit_lem n W 0

  abbrev B : Distance
  B = hub_limit_lem n W 1

  abbrev v : ℤ
  v = hub_value n W

  all_parts : (all_sound_lem n W ≡ true) × ((not_below0 (A ⊞ B) && all_loose_lem n W v) ≡ true)
  unfolding answerable
  all_parts = and_true (all_sound_lem n W) (not_below0 (A ⊞ B) && all_loose_lem n W v) can

  hub_parts : (not_below0 (A ⊞ B) ≡ true) × (all_loose_lem n W v ≡ true)
  hub_parts = and_true (not_below0 (A ⊞ B)) (all_loose_lem n W v) all_parts.1

  all_sound : all_sound_lem n W ≡ true
  all_sound = all_parts.0

  hub_gap : Gap A B
  hub_gap = gap_sum hub_parts.0

  is_loose : (p : ℕ) → hub_points ≤ p → p < 2 * n → Below (pos 1) (cap W v p ⊞ cap W v (opposite p))
  unfolding all_loose_lem
  is_loose p h l =
      let e : hub_points + (p - hub_points) ≡ p = omega arith in
      above_0 (cap W v p ⊞ cap W v (opposite p))
      (subst (λ (q : ℕ). loose W v q ≡ true) e (below_at (others n) (λ k. loose W v (hub_points + k)) hub_parts.1 (p - hub_points) (omega arith)))

  v_plus : Below v A
  v_plus = near_high A B hub_gap

  v_minus : Below (neg_ℤ v) B
  v_minus = near_low A B

  -- ---- the model
  abbrev m : Assignment
  m = place v (cap W v)

  model_place : (x : ℕ) → hub_model n W x ≡ m x
  unfolding hub_model place
  model_place x = refl

  model_value : (x : ℕ) → x < n → assignment_of (tabulate n (hub_model n W)) x ≡ m x
  model_value x h = get_d_tabulate n x (hub_model n W) (pos 0) h ∙ model_place x

  m_seated : Seated n W m
  m_seated = plain_seated n W all_sound hub_gap v v_plus v_minus

  nearest_at : (k : ℕ) → k < n → (t : Assignment) → Seated n W t → Agrees k t m → nat_abs (m k) ≤ nat_abs (t k)
  nearest_at zero h t a e = rw (place_hub v (cap W v)) (near_least A B (t 0) (hub_plus n W t a) (hub_minus n W t a))
  nearest_at (suc k) h t a e =
      rw (place_other v (cap W v) (suc k) (omega arith))
      (near_least (cap W v (point (suc k) 0)) (cap W v (point (suc k) 1)) (t (suc k))
      (rw (same, value_plus t (suc k)) at (a.other (point (suc k) 0) (omega arith) (omega arith)))
      (rw (same, value_minus t (suc k)) at (a.other (point (suc k) 1) (omega arith) (omega arith))))
    where
      same : t 0 ≡ v
      same = e 0 (omega arith) ∙ place_hub v (cap W v)

  model_is_model : IsModel n ls (assignment_of (tabulate n (hub_model n W)))
  model_is_model =
      record {
        solves = solves _ (seated_cong n W m _ some_variable model_value m_seated);
        nearest = λ k h t st e. rw (model_value k h) (nearest_at k h t (seated t st) (λ x l. e x l ∙ model_value x (omega arith)));
      }

  -- ---- the bounds
  abbrev D : ℕ → Distance
  D = greatest_at_lem n W

  reached : (p : ℕ) → p < 2 * n → (a : ℤ) → Below a (D p) → Reached n W all_sound hub_gap p a
  reached = attained n W all_sound hub_gap

  limited : (p : ℕ) → p < 2 * n → (t : Assignment) → Solves ls t → Below (value t p) (D p)
  limited p l t st = greatest_limits n W t (seated t st) p l

  greatest_written : (x : ℕ) → x < n → GreatestWritten ls (value_of x) (greatest_of (D (point x 0)))
  greatest_written x h = go (D (point x 0)) (limited (point x 0) (omega arith)) (reached (point x 0) (omega arith))
    where
      go : (d : Distance) → ((t : Assignment) → Solves ls t → Below (value t (point x 0)) d) → ((a : ℤ) → Below a d → Reached n W all_sound hub_gap (point x 0) a) → GreatestWritten ls (value_of x) (greatest_of d)
      go (some z) f g =
          let r = g z (λ y u. up_le u) in
          let st = solves r.by r.seated in
          let most : (t : Assignment) → Solves ls t → t x ⩽ z = λ t st. rw (value_plus t x) at (f t st z (up_at z)) in
          inl (record { bounds = most; taken_by = r.by; solves = st; taken = le_antisym (most r.by st) (rw (value_plus r.by x) at r.reached) })
      go none f g = inr (record { beyond = λ z. let r = g z (λ y u. not_none u) in (r.by, solves r.by r.seated, rw (value_plus r.by x) at r.reached) }, refl)

  least_written : (x : ℕ) → x < n → LeastWritten ls x (least_of (D (point x 1)))
  least_written x h = go (D (point x 1)) (limited (point x 1) (omega arith)) (reached (point x 1) (omega arith))
    where
      low : (y z : ℤ) → neg_ℤ y ⩽ z → neg_ℤ z ⩽ y
      low y z = simp ints (omega arith)

      turned : (y z : ℤ) → neg_ℤ z ⩽ neg_ℤ y → y ⩽ z
      turned y z = simp ints (omega arith)

      same : (y z : ℤ) → neg_ℤ y ⩽ z → z ⩽ neg_ℤ y → y ≡ neg_ℤ z
      same y z = simp ints (omega arith)

      go : (d : Distance) → ((t : Assignment) → Solves ls t → Below (value t (point x 1)) d) → ((a : ℤ) → Below a d → Reached n W all_sound hub_gap (point x 1) a) → LeastWritten ls x (least_of d)
      go (some z) f g =
          let r = g z (λ y u. up_le u) in
          let st = solves r.by r.seated in
          let most : (t : Assignment) → Solves ls t → neg_ℤ (t x) ⩽ z = λ t st. rw (value_minus t x) at (f t st z (up_at z)) in
          inl (record { bounds = λ t st. low (t x) z (most t st); taken_by = r.by; solves = st; taken = same (r.by x) z (most r.by st) (rw (value_minus r.by x) at r.reached) })
      go none f g = inr (record { beyond = λ z. let r = g (neg_ℤ z) (λ y u. not_none u) in (r.by, solves r.by r.seated, turned (r.by x) z (rw (value_minus r.by x) at r.reached)) }, refl)

  bound_least : (x : ℕ) → x < n → get_or (tabulate (2 * n) (hub_bound_lem n W)) (2 * x) (pos 0) ≡ least_of (D (point x 1))
  unfolding hub_bound_lem
  bound_least x h =
      let a : 2 * x % 2 ≡ 0 = omega arith in
      let b : 2 * x / 2 ≡ x = omega arith in
      get_d_tabulate (2 * n) (2 * x) (hub_bound_lem n W) (pos 0) (omega arith) ∙ rw (eq-eqb _ _ a, b)

  bound_greatest : (x : ℕ) → x < n → get_or (tabulate (2 * n) (hub_bound_lem n W)) (2 * x + 1) (pos 0) ≡ greatest_of (D (point x 0))
  unfolding hub_bound_lem
  bound_greatest x h =
      let a : (2 * x + 1) % 2 ≡ 0 → ⊥ = λ e. omega arith in
      let b : (2 * x + 1) / 2 ≡ x = omega arith in
      get_d_tabulate (2 * n) (2 * x + 1) (hub_bound_lem n W) (pos 0) (omega arith) ∙ rw (ne_eqb _ _ a, b)

  -- ---- the groups: a variable but the hub has two values while all others keep theirs
  record TwoValues (x : ℕ) : Type 0 where
    by : Assignment
    holds : Seated n W by
    differs : m x ≡ by x → ⊥
    others_same : (q : ℕ) → (q ≡ x → ⊥) → by q ≡ m q

  module _ (x : ℕ) (h : 1 ≤ x) (l : x < n) where
    abbrev p : ℕ
    p = point x 0

    abbrev q : ℕ
    q = point x 1

    -- with the cap of a point of x at most z
    module _ (e : ℕ) (z : ℤ) (variable : variable_of e ≡ x) (room : Below (neg_ℤ z) (cap W v (opposite e))) where
      abbrev t : Assignment
      t = place v (tighter (cap W v) e z)

      other_value : (y : ℕ) → (y ≡ x → ⊥) → t y ≡ m y
      unfolding place
      other_value y d =
          ap₂ (λ (a b : Distance). cond (eqb y 0) v (near a b))
          (tighter_else (cap W v) e z (point y 0) (λ i. d (sym (variable_plus y) ∙ ap variable_of i ∙ variable)))
          (tighter_else (cap W v) e z (point y 1) (λ i. d (sym (variable_minus y) ∙ ap variable_of i ∙ variable)))

      two_values : (m x ≡ t x → ⊥) → TwoValues x
      two_values d = record { by = t; holds = tight_seated n W all_sound hub_gap v v_plus v_minus e z room; differs = d; others_same = other_value }

      at_most : hub_points ≤ e → e < 2 * n → value t e ⩽ z
      at_most = tight_at n W all_sound hub_gap v v_plus v_minus e z room

    abbrev y : ℤ
    y = m x

    -- one more, or else one less
    one_more : Below (y +ℤ pos 1) (cap W v p) → TwoValues x
    one_more b = two_values q z (variable_minus x) room (λ e. apart y (t q z (variable_minus x) room x) e (rw (value_minus (t q z (variable_minus x) room) x) at (at_most q z (variable_minus x) room (omega arith) (omega arith))))
      where
        z : ℤ
        z = neg_ℤ (y +ℤ pos 1)

        room : Below (neg_ℤ (neg_ℤ (y +ℤ pos 1))) (cap W v (opposite q))
        room = rw (opposite_minus x, back (y +ℤ pos 1)) b
          where
            back : (a : ℤ) → neg_ℤ (neg_ℤ a) ≡ a
            back a = simp ints (omega arith)

        apart : (y u : ℤ) → y ≡ u → neg_ℤ u ⩽ neg_ℤ (y +ℤ pos 1) → ⊥
        apart y u = simp ints (omega arith)

    one_less : Up (cap W v p) y → TwoValues x
    one_less u = two_values p (y -ℤ pos 1) (variable_plus x) room (λ e. apart y (t p (y -ℤ pos 1) (variable_plus x) room x) e (rw (value_plus (t p (y -ℤ pos 1) (variable_plus x) room) x) at (at_most p (y -ℤ pos 1) (variable_plus x) room (omega arith) (omega arith))))
      where
        less : (y b : ℤ) → pos 1 ⩽ y +ℤ b → neg_ℤ (y -ℤ pos 1) ⩽ b
        less y b = simp ints (omega arith)

        room : Below (neg_ℤ (y -ℤ pos 1)) (cap W v (opposite p))
        room b w = less y b (is_loose p (omega arith) (omega arith) (y +ℤ b) (up_plus u w))

        apart : (y u : ℤ) → y ≡ u → u ⩽ y -ℤ pos 1 → ⊥
        apart y u = simp ints (omega arith)

    both_values : TwoValues x
    both_values = ⊎_elim (λ u. one_less u) (λ b. one_more b) (up_dec (cap W v p) y)

    -- so it is together with no other variable
    alone : (r : ℕ) → r < x → (s : ℕ) → Together ls x r s → ⊥
    alone r i s f =
        let w = both_values in
        w.differs (f m (solves m m_seated) ∙ ap (signed s) (sym (w.others_same r (λ e. omega (arith, e, i)))) ∙ sym (f w.by (solves w.by w.holds)))

  own_is_group : (x : ℕ) → x < n → IsGroup ls x x 0
  own_is_group x l = record { a_sign = omega arith; together = λ t st. refl; lowest = λ r i s f. alone x (omega (arith, i)) l r i s f; plus = λ f. refl }

  variable_at : (x : ℕ) → x < n → group_variable (tabulate (2 * n) own_group) x ≡ x
  unfolding own_group
  variable_at x h =
      let a : 2 * x % 2 ≡ 0 = omega arith in
      let b : 2 * x / 2 ≡ x = omega arith in
      get_d_tabulate (2 * n) (2 * x) own_group 0 (omega arith) ∙ rw (eq-eqb _ _ a, b)

  sign_at : (x : ℕ) → x < n → group_sign (tabulate (2 * n) own_group) x ≡ 0
  unfolding own_group
  sign_at x h =
      let a : (2 * x + 1) % 2 ≡ 0 → ⊥ = λ e. omega arith in
      get_d_tabulate (2 * n) (2 * x + 1) own_group 0 (omega arith) ∙ rw (ne_eqb _ _ a)

  -- ---- all of it
  hub_written : Written n ls (tabulate n (hub_model n W)) (tabulate (2 * n) (hub_bound_lem n W)) (tabulate (2 * n) own_group)
  hub_written =
      record {
        model_length = length_tabulate n _;
        model_is = model_is_model;
        bounds_length = length_tabulate (2 * n) _;
        least_is = λ x h. rw (bound_least x h) (least_written x h);
        greatest_is = λ x h. rw (bound_greatest x h) (greatest_written x h);
        groups_length = length_tabulate (2 * n) _;
        group_is = λ x h. rw (variable_at x h, sign_at x h) (own_is_group x h);
      }

  pub hub_yes : verdict_of n ls ≡ true
  hub_yes = written_yes n L valid _ _ _ hub_written

  pub hub_model_law : tabulate n (hub_model n W) ≡ model_of n ls
  hub_model_law = written_model n L valid _ _ _ hub_written

  pub hub_bounds : tabulate (2 * n) (hub_bound_lem n W) ≡ bounds_of n ls
  hub_bounds = written_bounds n L valid _ _ _ hub_written

  pub hub_groups : tabulate (2 * n) own_group ≡ groups_of n ls
  hub_groups = written_groups n L valid _ _ _ hub_written
