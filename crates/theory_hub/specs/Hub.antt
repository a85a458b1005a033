-- Lists with one hub: each line speaks of one variable, or of variable 0, the hub, and one other. What one line says of two variables then says all
-- that the list says of them, so that its answers need no table of distances: the values that the hub can have are found from the other variables one by
-- one, and what each of these can have follows from the hub's. The definitions: the least weights, what they leave the hub and each other point, and
-- the answers.
use Rattle.std.specs.Prelude.{◌≡◌, ◌⊎◌, Bool, not, cond, ◌&&◌, List, ℕ, zero, suc, ◌+◌, ◌*◌, ◌-◌, ◌/◌, ◌%◌, ◌<◌, eqb, ltb, ℤ, neg_ℤ}
use Rattle.integers.specs.Table.{all_below}
use Rattle.lines.specs.declared.Line.{Line}
use Rattle.steps.specs.declared.Step.{Step}
use Rattle.steps.specs.Point.{point, opposite}
use Rattle.steps.specs.Step.{steps_of}
use Rattle.theory_walks.specs.Distance.{Distance, some, ◌⊑◌, min_d, ◌⊕◌, ◌⊞◌, half_d}
use Rattle.theory_walks.specs.Negative.{not_below0}
use Rattle.theory_walks.specs.Row.{In}
use Rattle.theory_bounds.specs.Near.{near}
use Rattle.theory_bounds.specs.Answers.{greatest_of, least_of, not_above0}

-- ---- the least weights
-- the hub's two points are the first two
abbrev pub hub_points : ℕ
hub_points = 2

-- Where the steps from p lead that row k has the least weight of: to the hub's plus point, to its minus point, and in the last row to the opposite of p.
abbrev pub target : ℕ → ℕ → ℕ
target zero p = 0
target (suc zero) p = 1
target (suc (suc k)) p = opposite p

abbrev pub own_row : ℕ
own_row = 2

abbrev pub weight_rows : ℕ
weight_rows = 3

-- in row k for each point p
abbrev pub Weights : Type 0
Weights = ℕ → ℕ → Distance

-- each step has a row, or leads from the hub to another variable, so that its mirror image has one; a row has the least of its steps' weights
pub record Weighs (n : ℕ) (ls : List Line) (W : Weights) : Type 0 where
  pub proper : (t : Step) → In t (steps_of ls) → t.from ≡ t.to → ⊥
  pub placed : (t : Step) → In t (steps_of ls) → (t.from < hub_points) ⊎ ((k : ℕ) × (k < weight_rows) × (t.to ≡ target k t.from))
  pub least : (t : Step) → In t (steps_of ls) → (k : ℕ) → k < weight_rows → t.to ≡ target k t.from → W k t.from ⊑ some t.weight
  pub taken : (k p : ℕ) → k < weight_rows → p < 2 * n → (z : ℤ) → W k p ≡ some z → (t : Step) × In t (steps_of ls) × (t.from ≡ p) × (t.to ≡ target k p) × (t.weight ≡ z)

-- ---- what they leave
-- the greatest value of the point p by itself
abbrev pub own : Weights → ℕ → Distance
own W p = half_d (W own_row p)

-- the greatest value of the point p where the hub has the value v
abbrev pub cap : Weights → ℤ → ℕ → Distance
cap W v p = min_d (own W p) (min_d (W 0 p ⊕ v) (W 1 p ⊕ neg_ℤ v))

-- what the variable of the point p leaves the hub's point g: by p alone, and by both points of p
abbrev pub leaves : Weights → ℕ → ℕ → Distance
leaves W g p = min_d (own W p ⊞ W (opposite g) (opposite p)) (half_d (W (opposite g) p ⊞ W (opposite g) (opposite p)))

-- the greatest value of the hub's point g by itself and by the first k points of other variables
unfoldable pub limit_by_lem : Weights → ℕ → ℕ → Distance
limit_by_lem W g zero = own W g
limit_by_lem W g (suc k) = min_d (limit_by_lem W g k) (leaves W g (hub_points + k))

-- by all of them
abbrev pub others : ℕ → ℕ
others n = 2 * n - hub_points

abbrev pub hub_limit_lem : ℕ → Weights → ℕ → Distance
hub_limit_lem n W g = limit_by_lem W g (others n)

-- the value of the hub in the model
abbrev pub hub_value : ℕ → Weights → ℤ
hub_value n W = near (hub_limit_lem n W 0) (hub_limit_lem n W 1)

-- the greatest value of the point p of another variable where the hub's points have these greatest values
abbrev pub reach : Weights → Distance → Distance → ℕ → Distance
reach W a b p = min_d (own W p) (min_d (W 0 p ⊞ a) (min_d (W 1 p ⊞ b) (half_d (W 0 p ⊞ W 1 p))))

-- ---- where the answers are read off
-- the point p by itself, and with the hub at each value, has a greatest value that is not below its least
abbrev pub sound : Weights → ℕ → Bool
sound W p = not_below0 (own W p ⊞ own W (opposite p)) && not_below0 (W 0 p ⊞ W 1 (opposite p))

-- two values at least where the hub has the value v
abbrev pub loose : Weights → ℤ → ℕ → Bool
loose W v p = not (not_above0 (cap W v p ⊞ cap W v (opposite p)))

unfoldable pub all_sound_lem : ℕ → Weights → Bool
all_sound_lem n W = all_below (others n) (λ k. sound W (hub_points + k))

unfoldable pub all_loose_lem : ℕ → Weights → ℤ → Bool
all_loose_lem n W v = all_below (others n) (λ k. loose W v (hub_points + k))

-- the list can hold, and each variable but the hub can have another value than in the model while the rest keep theirs
unfoldable pub answerable : ℕ → Weights → Bool
answerable n W = all_sound_lem n W && (not_below0 (hub_limit_lem n W 0 ⊞ hub_limit_lem n W 1) && all_loose_lem n W (hub_value n W))

-- ---- the answers
unfoldable pub hub_model : ℕ → Weights → ℕ → ℤ
hub_model n W x = cond (eqb x 0) (hub_value n W) (near (cap W (hub_value n W) (point x 0)) (cap W (hub_value n W) (point x 1)))

unfoldable pub greatest_at_lem : ℕ → Weights → ℕ → Distance
greatest_at_lem n W p = cond (ltb p hub_points) (hub_limit_lem n W p) (reach W (hub_limit_lem n W 0) (hub_limit_lem n W 1) p)

-- the i-th bound: a variable's least, then its greatest
unfoldable pub hub_bound_lem : ℕ → Weights → ℕ → ℤ
hub_bound_lem n W i = cond (eqb (i % 2) 0) (least_of (greatest_at_lem n W (point (i / 2) 1))) (greatest_of (greatest_at_lem n W (point (i / 2) 0)))

-- the i-th number of the groups where each variable is its own: the variable, then plus
unfoldable pub own_group : ℕ → ℕ
own_group i = cond (eqb (i % 2) 0) (i / 2) 0
