-- One more step. Where E has no closed walk of negative sum, E with a step p → q of weight w has one exactly if w and the distance from q to p
-- sum below 0; and where it has none, its distances are the old ones or lead once through the step, whichever is less.
use Rattle.std.specs.Prelude.{◌≡◌, refl, Bool, true, false, List, [], ◌∷◌, ◌++◌, ℕ, ◌<◌, ℤ, pos, ◌+ℤ◌}
use Rattle.std.proofs.Common.{sym, inl, inr, ⊎_elim, arith}
use Rattle.integers.specs.Integer.{◌⩽◌, ◌⋖◌}
use Rattle.integers.proofs.Linear.{ints}
use Rattle.steps.specs.declared.Step.{Step}
use Rattle.steps.specs.Walk.{total, total_append}
use Rattle.theory_walks.specs.Distance.{Distance, none, some, min_d, ◌⊕◌, ◌⊞◌, Up, up, up_mono, up_at, up_some, up_le, up_inv, up_plus, up_plus_e, up_of_le, up_min_l, up_min_r, up_min_e, le_of_up, eq_of_up, not_none}
use Rattle.theory_walks.specs.Row.{In, WithinPoints, best}
use Rattle.theory_walks.specs.Reach.{Walk, walk_one, walk_rest, walk_append}
use Rattle.theory_walks.specs.Least.{NoneNegative, best_attained, best_range, best_least, best_self, best_triangle}
use Rattle.theory_walks.specs.Negative.{not_below0, no_negative, is_not_below, is_below, no_negative_true, no_negative_found}
use Rattle.theory_bounds.specs.Tight.{Table}
use Rattle.theory_walks.specs.Graph.{in_left, in_right}
use Rattle.theory_inserting.specs.Members.{in_either, walk_among}

-- the step s put into the table D: from i to its start, along it, and from its end to j
abbrev pub through : Table → Step → Table
through D s i j = D i s.from ⊕ s.weight ⊞ D s.to j

abbrev pub inserted : Table → Step → Table
inserted D s i j = min_d (D i j) (through D s i j)

-- along the step and back to its start: the least closed walk through it
abbrev pub closing : Table → Step → Distance
closing D s = D s.to s.from ⊕ s.weight

-- ---- one more weight
pub up_add : {a : Distance} {z : ℤ} (w : ℤ) → Up a z → Up (a ⊕ w) (z +ℤ w)
up_add w (up {d} {z} u) = up (add d z w u)
  where
    add : (d z w : ℤ) → d ⩽ z → d +ℤ w ⩽ z +ℤ w
    add d z w = simp ints (omega arith)

pub up_add_e : (a : Distance) (w z : ℤ) → Up (a ⊕ w) z → (x : ℤ) × Up a x × (x +ℤ w ⩽ z)
up_add_e none w z u = not_none u
up_add_e (some a) w z (up u) = (a, up_at a, u)

-- through the step, taken apart and put together
pub up_through : (D : Table) (s : Step) (i j : ℕ) {x y : ℤ} → Up (D i s.from) x → Up (D s.to j) y → Up (through D s i j) (x +ℤ s.weight +ℤ y)
up_through D s i j u v = up_plus (up_add s.weight u) v

pub up_through_e : (D : Table) (s : Step) (i j : ℕ) (z : ℤ) → Up (through D s i j) z
    → (x : ℤ) × (y : ℤ) × Up (D i s.from) x × Up (D s.to j) y × (x +ℤ s.weight +ℤ y ⩽ z)
up_through_e D s i j z u =
    let a = up_plus_e (D i s.from ⊕ s.weight) (D s.to j) z u in
    let b = up_add_e (D i s.from) s.weight a.0 a.2 in
    (b.0, a.1, b.1, a.3, sum b.0 s.weight a.0 a.1 z b.2 a.4)
  where
    sum : (x w v y z : ℤ) → x +ℤ w ⩽ v → v +ℤ y ⩽ z → x +ℤ w +ℤ y ⩽ z
    sum x w v y z = simp ints (omega arith)

-- a walk from i to j of a sum of at most z
pub record Leads (F : List Step) (i j : ℕ) (z : ℤ) : Type 0 where
  pub steps : List Step
  pub walk : Walk F i steps j
  pub less : total steps ⩽ z

module _ (E : List Step) (N : ℕ) (within : WithinPoints N E) (nonneg : NoneNegative E N) (s : Step) (from_lt : s.from < N) (to_lt : s.to < N) where
  abbrev D : Table
  D = best E N

  -- E and the step
  abbrev F : List Step
  F = E ++ s ∷ []

  -- ---- what is known of E
  self : (i : ℕ) → i < N → Up (D i i) (pos 0)
  self i h = up_some (best_self E N within nonneg i h)

  chain : (i j k : ℕ) {x y : ℤ} → Up (D i j) x → Up (D j k) y → Up (D i k) (x +ℤ y)
  chain i j k u v = up_of_le (best_triangle E N within nonneg i j k) _ (up_plus u v)

  low : (i : ℕ) (z : ℤ) → i < N → Up (D i i) z → pos 0 ⩽ z
  low i z h u = up_le (up_of_le (nonneg i h) z u)

  old_walk : (i j : ℕ) (z : ℤ) → Up (D i j) z → Leads F i j z
  old_walk i j z u =
      let a = up_inv u in
      let r = best_attained E N i j a.0 a.1 in
      record { steps = r.steps; walk = walk_among (λ t. in_left t E (s ∷ [])) r.steps r.walk; less = rw r.sum a.2 }

  new_in : In s F
  new_in = in_right s E (s ∷ []) (inl refl)

  pub within_more : WithinPoints N F
  within_more t i = ⊎_elim (λ j. within t j) (λ j. new t j) (in_either E (s ∷ []) t i)
    where
      new : (t : Step) → In t (s ∷ []) → (t.from < N) × (t.to < N)
      new t (inl e) = rw e (from_lt, to_lt)
      new t (inr i) = absurd i

  -- ---- every entry of the new table is the sum of a walk over E and the step, or more
  pub attained : (i j : ℕ) (z : ℤ) → Up (inserted D s i j) z → Leads F i j z
  attained i j z u = ⊎_elim (λ v. old_walk i j z v) (λ v. by_step (up_through_e D s i j z v)) (up_min_e (D i j) (through D s i j) z u)
    where
      sum : (a w b x y z t : ℤ) → a ⩽ x → b ⩽ y → x +ℤ w +ℤ y ⩽ z → t ≡ a +ℤ (w +ℤ b) → t ⩽ z
      sum a w b x y z t = simp ints (omega arith)

      by_step : (x : ℤ) × (y : ℤ) × Up (D i s.from) x × Up (D s.to j) y × (x +ℤ s.weight +ℤ y ⩽ z) → Leads F i j z
      by_step e =
          let a = old_walk i s.from e.0 e.2 in
          let b = old_walk s.to j e.1 e.3 in
          record {
            steps = a.steps ++ s ∷ b.steps;
            walk = walk_append s.from a.steps (s ∷ b.steps) a.walk (walk_append s.to (s ∷ []) b.steps (walk_one s new_in) b.walk);
            less = sum (total a.steps) s.weight (total b.steps) e.0 e.1 z (total (a.steps ++ s ∷ b.steps)) a.less b.less e.4 (total_append a.steps (s ∷ b.steps));
          }

  -- ---- a closed walk of negative sum through the step
  pub insert_negative : not_below0 (closing D s) ≡ false → no_negative F N ≡ false
  insert_negative t =
      let b = is_below (closing D s) t in
      let x = up_add_e (D s.to s.from) s.weight b.0 (up_some b.1) in
      let r = old_walk s.to s.from x.0 x.1 in
      no_negative_found F N within_more s.from (s ∷ r.steps) (walk_append s.to (s ∷ []) r.steps (walk_one s new_in) r.walk)
      (sum s.weight (total r.steps) x.0 b.0 r.less x.2 b.2)
    where
      sum : (w t x z : ℤ) → t ⩽ x → x +ℤ w ⩽ z → z ⋖ pos 0 → w +ℤ t ⋖ pos 0
      sum w t x z = simp ints (omega arith)

  module _ (closed : not_below0 (closing D s) ≡ true) where
    -- no walk back from the step's end to its start makes up for its weight
    round : (x : ℤ) → Up (D s.to s.from) x → pos 0 ⩽ x +ℤ s.weight
    round x u = up_le (up_of_le (is_not_below (closing D s) closed) _ (up_add s.weight u))

    -- ---- the new table is at most the sum of every walk over E and the step
    -- a step of E before what the table knows
    before_old : (t : Step) → In t E → (j : ℕ) (z : ℤ) → Up (inserted D s t.to j) z → Up (inserted D s t.from j) (t.weight +ℤ z)
    before_old t i j z u = ⊎_elim direct along (up_min_e (D t.to j) (through D s t.to j) z u)
      where
        alone : (w : ℤ) → w +ℤ pos 0 ⩽ w
        alone w = simp ints (omega arith)

        first : Up (D t.from t.to) t.weight
        first = up_of_le (best_least E N within nonneg t.from t.to (within t i).0 (t ∷ []) (walk_one t i)) _ (up (alone t.weight))

        direct : Up (D t.to j) z → Up (inserted D s t.from j) (t.weight +ℤ z)
        direct v = up_min_l _ (chain t.from t.to j first v)

        sum : (w x v y z : ℤ) → x +ℤ v +ℤ y ⩽ z → w +ℤ x +ℤ v +ℤ y ⩽ w +ℤ z
        sum w x v y z = simp ints (omega arith)

        along : Up (through D s t.to j) z → Up (inserted D s t.from j) (t.weight +ℤ z)
        along v =
            let e = up_through_e D s t.to j z v in
            up_min_r (D t.from j) (up_mono (up_through D s t.from j (chain t.from t.to s.from first e.2) e.3) (sum t.weight e.0 s.weight e.1 z e.4))

    -- the new step before what the table knows: through it twice is no less than once
    before_new : (j : ℕ) (z : ℤ) → Up (inserted D s s.to j) z → Up (inserted D s s.from j) (s.weight +ℤ z)
    before_new j z u = ⊎_elim (λ v. once z v) twice (up_min_e (D s.to j) (through D s s.to j) z u)
      where
        none_before : (w z : ℤ) → pos 0 +ℤ w +ℤ z ⩽ w +ℤ z
        none_before w z = simp ints (omega arith)

        once : (z : ℤ) → Up (D s.to j) z → Up (inserted D s s.from j) (s.weight +ℤ z)
        once z v = up_min_r (D s.from j) (up_mono (up_through D s s.from j (self s.from from_lt) v) (none_before s.weight z))

        sum : (x w y z : ℤ) → pos 0 ⩽ x +ℤ w → x +ℤ w +ℤ y ⩽ z → y ⩽ z
        sum x w y z = simp ints (omega arith)

        twice : Up (through D s s.to j) z → Up (inserted D s s.from j) (s.weight +ℤ z)
        twice v =
            let e = up_through_e D s s.to j z v in
            once z (up_mono e.3 (sum e.0 s.weight e.1 z (round e.0 e.2) e.4))

    pub least : (i j : ℕ) (ss : List Step) → i < N → Walk F i ss j → Up (inserted D s i j) (total ss)
    least i j [] h w = rw (sym w.path) (up_min_l _ (self i h))
    least i j (t ∷ ss) h w =
        let ends = within_more t w.steps.0 in
        let u = least t.to j ss ends.1 (walk_rest t ss w) in
        rw w.path.0 (⊎_elim (λ m. before_old t m j (total ss) u) (λ m. new m u) (in_either E (s ∷ []) t w.steps.0))
      where
        new : In t (s ∷ []) → Up (inserted D s t.to j) (total ss) → Up (inserted D s t.from j) (t.weight +ℤ total ss)
        new (inl e) u = rw e (before_new j (total ss) (rw e at u))
        new (inr m) u = absurd m

    -- ---- so no closed walk is negative
    new_low : (i : ℕ) (z : ℤ) → i < N → Up (inserted D s i i) z → pos 0 ⩽ z
    new_low i z h u = ⊎_elim (λ v. low i z h v) along (up_min_e (D i i) (through D s i i) z u)
      where
        sum : (x w y z : ℤ) → pos 0 ⩽ y +ℤ x +ℤ w → x +ℤ w +ℤ y ⩽ z → pos 0 ⩽ z
        sum x w y z = simp ints (omega arith)

        along : Up (through D s i i) z → pos 0 ⩽ z
        along v =
            let e = up_through_e D s i i z v in
            sum e.0 s.weight e.1 z (round (e.1 +ℤ e.0) (chain s.to i s.from e.3 e.2)) e.4

    -- a distance of E and the step is no less than the table's
    above : (i j : ℕ) (z : ℤ) → Up (best F N i j) z → Up (inserted D s i j) z
    above i j z u =
        let a = up_inv u in
        let r = best_attained F N i j a.0 a.1 in
        up_mono (least i j r.steps (best_range F N i j a.0 a.1).0 r.walk) (rw r.sum a.2)

    pub insert_nonneg : NoneNegative F N
    insert_nonneg i h = le_of_up _ _ (λ z u. up (new_low i z h (above i i z u)))

    -- the new table's entries begin at points below N
    starts : (i j : ℕ) (z : ℤ) → Up (inserted D s i j) z → i < N
    starts i j z u =
        ⊎_elim (λ v. at i j z v) (λ v. let e = up_through_e D s i j z v in at i s.from e.0 e.2) (up_min_e (D i j) (through D s i j) z u)
      where
        at : (i j : ℕ) (z : ℤ) → Up (D i j) z → i < N
        at i j z v = let a = up_inv v in (best_range E N i j a.0 a.1).0

    -- ---- and the table holds the distances of E and the step, at all numbers
    pub insert_best : (i j : ℕ) → best F N i j ≡ inserted D s i j
    insert_best i j = eq_of_up _ _ (λ z u. above i j z u) below
      where
        below : (z : ℤ) → Up (inserted D s i j) z → Up (best F N i j) z
        below z u =
            let r = attained i j z u in
            up_mono (up_of_le (best_least F N within_more insert_nonneg i j (starts i j z u) r.steps r.walk) _ (up_at (total r.steps))) r.less

  -- ---- the test
  pub insert_test : no_negative F N ≡ not_below0 (closing D s)
  insert_test = go (not_below0 (closing D s)) refl
    where
      go : (b : Bool) → not_below0 (closing D s) ≡ b → no_negative F N ≡ b
      go true t = no_negative_true F N (insert_nonneg t)
      go false t = insert_negative t
