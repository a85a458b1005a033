-- Halves read off the written bounds, and the tightened distances that they give: what the groups are found by; and the groups, two numbers at a time.
use Rattle.std.specs.Prelude.{◌≡◌, refl, Bool, true, false, cond, List, ◌++◌, ℕ, ◌+◌, ◌*◌, ◌/◌, ◌%◌, ◌<◌, ◌≤◌, eqb, ℤ, pos, neg_ℤ, ◌-ℤ◌, length, set}
use Rattle.std.proofs.Math.Path.{sym, ap}
use Rattle.std.proofs.Common.{ap₂, subst, ◌∙◌, ⊎_elim, arith, eq-eqb, ne_eqb, length-append, SFits}
use Rattle.std.proofs.Math.IntN.{neg_ℤ-neg_ℤ}
use Rattle.std.proofs.Math.ListN.{get_or-append}
use Rattle.std.specs.Int.Signed.{le_z}
use Rattle.std.specs.Int.{w64}
use Rattle.integers.specs.Integer.{eq_z, Within}
use Rattle.integers.proofs.Linear.{ints, zs}
use Rattle.integers.specs.Laws.{eq_eq_z, ne_eq_z}
use Rattle.integers.specs.Sequence.{tabulate, length_tabulate, get_d_tabulate}
use Rattle.integers.specs.Fill.{filled, filled_more}
use Rattle.lines.specs.Line.{number}
use Rattle.steps.specs.Point.{point, opposite}
use Rattle.theory_walks.specs.Distance.{Distance, none, some, min_d, ◌⊞◌}
use Rattle.theory_bounds.specs.Points.{variable_of, variable_below, which, opposite_plus, opposite_minus, minus_below, opposite_below}
use Rattle.theory_bounds.specs.Tight.{Table, halves, tight}
use Rattle.lines.specs.Limits.{absent_least}
use Rattle.theory_bounds.specs.Answers.{least_of, bound_at, bound_least, bound_greatest, group_point_lem, group_at_lem, group_variable_law, group_sign_law}
use Rattle.theory_bounds.specs.Agree.{groups_same}
use Rattle.decide_rows.specs.Stored.{stored}
use Rattle.decide_rows.specs.Read.{no_walk_lem, distance_of, Short, max_distance}
use Rattle.decide_stored_table.specs.Sum.{minus_is}
use Rattle.decide_stored_table.specs.Table.{table_of, by_rows, ShortTable, MirroredTable, halves_short, half_back, rows_back, rows_halves, rows_agree}

-- the half of the point p, from the bound of its variable: a plus point's is the greatest value, a minus point's the least negated
abbrev pub half_by : ℕ → ℤ → ℤ
half_by p bound = cond (eqb (p % 2) 0) bound (cond (eq_z bound absent_least) no_walk_lem (neg_ℤ bound))

-- a least value stands before the greatest: each at the opposite of the point that it bounds
abbrev pub half_in : List ℤ → ℕ → ℤ
half_in bounds p = half_by p (number bounds (opposite p))

-- a distance from p to q, tightened by the halves in the bounds
abbrev pub tight_in : List ℤ → Distance → ℕ → ℕ → Distance
tight_in bounds d p q = min_d d (distance_of (half_in bounds p) ⊞ distance_of (half_in bounds (opposite q)))

pub record HalfReady (bounds : List ℤ) (p : ℕ) : Type 0 where
  pub inside : opposite p < length bounds
  pub short : Short max_distance (distance_of (half_in bounds p))

pub record GroupsReady (n : ℕ) (t bounds : List ℤ) : Type 0 where
  pub table : ShortTable n t
  pub room : 2 * n ≤ length bounds
  pub written : (i : ℕ) → i < 2 * n → number bounds i ≡ bound_at (table_of (2 * n) t) i

-- ---- one half, as the code finds it
module _ (p : ℕ) (bound : ℤ) where
  pub half_plus : p % 2 ≡ 0 → bound ≡ half_by p bound
  half_plus e = sym (ap (λ (t : Bool). cond t bound (cond (eq_z bound absent_least) no_walk_lem (neg_ℤ bound))) (eq-eqb (p % 2) 0 e))

  minus_point : (p % 2 ≡ 0 → ⊥) → half_by p bound ≡ cond (eq_z bound absent_least) no_walk_lem (neg_ℤ bound)
  minus_point e = ap (λ (t : Bool). cond t bound (cond (eq_z bound absent_least) no_walk_lem (neg_ℤ bound))) (ne_eqb (p % 2) 0 e)

  pub half_absent : (p % 2 ≡ 0 → ⊥) → bound ≡ absent_least → no_walk_lem ≡ half_by p bound
  half_absent e q = sym (minus_point e ∙ ap (λ (t : Bool). cond t no_walk_lem (neg_ℤ bound)) (eq_eq_z bound absent_least q))

  pub half_minus : (p % 2 ≡ 0 → ⊥) → (bound ≡ absent_least → ⊥) → pos 0 -ℤ bound ≡ half_by p bound
  half_minus e q = minus_is bound ∙ sym (minus_point e ∙ ap (λ (t : Bool). cond t no_walk_lem (neg_ℤ bound)) (ne_eq_z bound absent_least q))

  -- only the number that stands for no least value has no opposite
  pub half_fits : SFits w64 bound → (bound ≡ absent_least → ⊥) → SFits w64 (pos 0 -ℤ bound)
  half_fits f q = go (le_z bound absent_least) refl
    where
      lowest : (z : ℤ) → SFits w64 z → le_z z absent_least ≡ true → z ≡ absent_least
      lowest z = simp ints (omega arith)

      fits : (z : ℤ) → SFits w64 z → le_z z absent_least ≡ false → SFits w64 (pos 0 -ℤ z)
      fits z = simp ints (omega arith)

      go : (t : Bool) → le_z bound absent_least ≡ t → SFits w64 (pos 0 -ℤ bound)
      go true e = absurd (q (lowest bound f e))
      go false e = fits bound f e

-- ---- the halves of the table
least_back : (d : Distance) → Short max_distance d → cond (eq_z (least_of d) absent_least) no_walk_lem (neg_ℤ (least_of d)) ≡ stored d
least_back none s = refl
least_back (some z) s = ap (λ (b : Bool). cond b no_walk_lem (neg_ℤ (neg_ℤ z))) (ne_eq_z (neg_ℤ z) absent_least (far z (s z refl))) ∙ neg_ℤ-neg_ℤ z
  where
    far : (z : ℤ) → Within max_distance z → neg_ℤ z ≡ absent_least → ⊥
    far z w = simp ints (omega zs)

module _ (n : ℕ) (t bounds : List ℤ) (ok : GroupsReady n t bounds) where
  abbrev D : Table
  D = table_of (2 * n) t

  -- a plus point's half, and a minus point's
  plus_half : (x : ℕ) → x < n → half_in bounds (point x 0) ≡ stored (halves D (point x 0))
  plus_half x h =
      let a : point x 0 % 2 ≡ 0 = omega arith in
      sym (half_plus (point x 0) (number bounds (opposite (point x 0))) a)
      ∙ ap (number bounds) (opposite_plus x) ∙ ok.written (point x 1) (minus_below n x h) ∙ bound_greatest D x

  minus_half : (x : ℕ) → x < n → half_in bounds (point x 1) ≡ stored (halves D (point x 1))
  minus_half x h =
      let a : point x 1 % 2 ≡ 0 → ⊥ = λ e. omega arith in
      let z : point x 0 ≡ 2 * x = omega arith in
      let e : number bounds (opposite (point x 1)) ≡ least_of (halves D (point x 1)) = ap (number bounds) (opposite_minus x ∙ z) ∙ ok.written (2 * x) (omega arith) ∙ bound_least D x in
      minus_point (point x 1) (number bounds (opposite (point x 1))) a
      ∙ ap (λ (b : ℤ). cond (eq_z b absent_least) no_walk_lem (neg_ℤ b)) e
      ∙ least_back (halves D (point x 1)) (halves_short n t ok.table (point x 1) (minus_below n x h))

  half_is : (p : ℕ) → p < 2 * n → half_in bounds p ≡ stored (halves D p)
  half_is p h =
      let l = variable_below n p h in
      ⊎_elim (λ e. at _ e (plus_half (variable_of p) l)) (λ e. at _ e (minus_half (variable_of p) l)) (which p)
    where
      at : (q : ℕ) → p ≡ q → half_in bounds q ≡ stored (halves D q) → half_in bounds p ≡ stored (halves D p)
      at q e i = subst (λ (r : ℕ). half_in bounds r ≡ stored (halves D r)) (sym e) i

  half_read : (p : ℕ) → p < 2 * n → distance_of (half_in bounds p) ≡ halves D p
  half_read p h = half_back n t ok.table p h (half_in bounds p) (half_is p h)

  pub half_ready : (p : ℕ) → p < 2 * n → HalfReady bounds p
  half_ready p h = record { inside = omega (arith, opposite_below n p h, ok.room); short = rw (half_read p h) (halves_short n t ok.table p h) }

  -- a distance that was read
  pub tight_read : (p q : ℕ) → p < 2 * n → q < 2 * n → (z : ℤ) → z ≡ stored (by_rows (2 * n) t p q) → stored (tight_in bounds (distance_of z) p q) ≡ stored (tight (by_rows (2 * n) t) p q)
  unfolding tight
  tight_read p q hp hq z e =
      ap stored (ap₂ min_d (rows_back (2 * n) t p q z e) (ap₂ (λ (a b : Distance). a ⊞ b) (half_by_rows p hp) (half_by_rows (opposite q) (opposite_below n q hq))))
    where
      half_by_rows : (p : ℕ) → p < 2 * n → distance_of (half_in bounds p) ≡ halves (by_rows (2 * n) t) p
      half_by_rows p h = half_read p h ∙ sym (rows_halves (2 * n) t p)

-- ---- the bounds as they are written
pub groups_ready : (n : ℕ) (t rest bounds : List ℤ) → ShortTable n t → bounds ≡ tabulate (2 * n) (bound_at (table_of (2 * n) t)) ++ rest → GroupsReady n t bounds
groups_ready n t rest bounds m e =
    let f = bound_at (table_of (2 * n) t) in
    let l : length (tabulate (2 * n) f) ≡ 2 * n = length_tabulate (2 * n) f in
    record {
      table = m;
      room = omega (arith, ap length e, length-append (tabulate (2 * n) f) rest, l);
      written = λ i h. ap (λ (b : List ℤ). number b i) e ∙ get_or-append (tabulate (2 * n) f) rest (pos 0) i (omega (arith, l)) ∙ get_d_tabulate (2 * n) i f (pos 0) h;
    }

-- ---- a mirrored table is read as it is
pub groups_are : (n : ℕ) (t : List ℤ) → MirroredTable n t → tabulate (2 * n) (group_at_lem (by_rows (2 * n) t)) ≡ tabulate (2 * n) (group_at_lem (table_of (2 * n) t))
groups_are n t m = groups_same n (by_rows (2 * n) t) (table_of (2 * n) t) (rows_agree n t m)

-- ---- two more numbers of the groups: the variable and the sign of the point of x
pub pair_filled : (D : Table) (d : List ℕ) (x p : ℕ) → 2 * x + 1 < length d → p ≡ group_point_lem D x
    → set (set (filled (group_at_lem D) d (2 * x)) (2 * x) (p / 2)) (2 * x + 1) (p % 2) ≡ filled (group_at_lem D) d (2 * (x + 1))
pair_filled D d x p h e =
    let z : 2 * x + 1 + 1 ≡ 2 * (x + 1) = omega arith in
    ap (λ (l : List ℕ). set l (2 * x + 1) (p % 2)) (filled_more (group_at_lem D) d (2 * x) (p / 2) (omega arith) (ap (λ (q : ℕ). q / 2) e ∙ sym (group_variable_law D x)))
    ∙ filled_more (group_at_lem D) d (2 * x + 1) (p % 2) h (ap (λ (q : ℕ). q % 2) e ∙ sym (group_sign_law D x))
    ∙ ap (filled (group_at_lem D) d) z
