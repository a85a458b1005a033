-- What deciding writes on a yes, as computed definitions over the tightened distances.
use Rattle.std.specs.Prelude.{◌≡◌, Bool, false, cond, ◌&&◌, List, ℕ, ◌+◌, ◌*◌, ◌/◌, ◌%◌, eqb, ℤ, pos, neg_ℤ}
use Rattle.std.proofs.Common.{arith, eq-eqb, ne_eqb}
use Rattle.std.specs.Int.Signed.{le_z}
use Rattle.integers.specs.Sequence.{tabulate}
use Rattle.integers.specs.Lowest.{lowest}
use Rattle.lines.specs.declared.Line.{Line}
use Rattle.steps.specs.Point.{point}
use Rattle.theory_walks.specs.Distance.{Distance, none, some}
use Rattle.theory_bounds.specs.Tight.{Table, halves, tight}
use Rattle.theory_bounds.specs.Table.{table_model}
use Rattle.lines.specs.Limits.{absent_least, absent_greatest}
use Rattle.theory_bounds.specs.Verdict.{distances}

unfoldable pub model_of : ℕ → List Line → List ℤ
model_of n ls = tabulate n (table_model n (distances n ls))

-- ---- bounds
abbrev pub greatest_of : Distance → ℤ
greatest_of (some z) = z
greatest_of none = absent_greatest

abbrev pub least_of : Distance → ℤ
least_of (some z) = neg_ℤ z
least_of none = absent_least

-- the i-th bound: a variable's least, then its greatest
abbrev pub bound_at : Table → ℕ → ℤ
bound_at D i = cond (eqb (i % 2) 0) (least_of (halves D (point (i / 2) 1))) (greatest_of (halves D (point (i / 2) 0)))

pub bound_least : (D : Table) (x : ℕ) → bound_at D (2 * x) ≡ least_of (halves D (point x 1))
bound_least D x =
    let a : 2 * x % 2 ≡ 0 = omega arith in
    let b : 2 * x / 2 ≡ x = omega arith in
    rw (eq-eqb _ _ a, b)

pub bound_greatest : (D : Table) (x : ℕ) → bound_at D (2 * x + 1) ≡ greatest_of (halves D (point x 0))
bound_greatest D x =
    let a : (2 * x + 1) % 2 ≡ 0 → ⊥ = λ e. omega arith in
    let b : (2 * x + 1) / 2 ≡ x = omega arith in
    rw (ne_eqb _ _ a, b)

unfoldable pub bounds_of : ℕ → List Line → List ℤ
bounds_of n ls = tabulate (2 * n) (bound_at (distances n ls))

-- ---- groups
abbrev pub not_above0 : Distance → Bool
not_above0 none = false
not_above0 (some z) = le_z z (pos 0)

-- no tightened distance between two points is above 0
abbrev pub same_points_lem : Table → ℕ → ℕ → Bool
same_points_lem D p q = not_above0 (tight D p q) && not_above0 (tight D q p)

-- The lowest point that has the value of x in every solution, x's plus point at the latest. A variable's plus point stands before its minus point, and
-- both stand before the points of higher variables: so the lowest point is the lowest variable, with plus where both signs hold.
abbrev pub group_point_lem : Table → ℕ → ℕ
group_point_lem D x = lowest (same_points_lem D (2 * x)) 0 (2 * x)

-- the i-th number of the groups: a variable's group variable, then its sign
abbrev pub group_at_lem : Table → ℕ → ℕ
group_at_lem D i = cond (eqb (i % 2) 0) (group_point_lem D (i / 2) / 2) (group_point_lem D (i / 2) % 2)

pub group_variable_law : (D : Table) (x : ℕ) → group_at_lem D (2 * x) ≡ group_point_lem D x / 2
group_variable_law D x =
    let a : 2 * x % 2 ≡ 0 = omega arith in
    let b : 2 * x / 2 ≡ x = omega arith in
    rw (eq-eqb _ _ a, b)

pub group_sign_law : (D : Table) (x : ℕ) → group_at_lem D (2 * x + 1) ≡ group_point_lem D x % 2
group_sign_law D x =
    let a : (2 * x + 1) % 2 ≡ 0 → ⊥ = λ e. omega arith in
    let b : (2 * x + 1) / 2 ≡ x = omega arith in
    rw (ne_eqb _ _ a, b)

unfoldable pub groups_of : ℕ → List Line → List ℕ
groups_of n ls = tabulate (2 * n) (group_at_lem (distances n ls))
