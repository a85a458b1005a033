-- `decide_model::next_value` meets its contract.
use mathlib.Core.Path.{◌≡◌, ap, ◌∙◌}
use mathlib.Core.List.{List}
use Prim.Native.Nat.{ℕ, ◌+◌, ◌*◌, ◌<◌, ◌≤◌}
use native.Mathlib.Omega.{arith}
use lib.IntN.{ℤ}
use lib.ListN.{length}
use mir.Syntax.{w64}
use mir.Val.{to_z, of_z}
use Rattle.integers.proofs.Bits.{kept}
use Rattle.steps.specs.Point.{point}
use Rattle.theory_bounds.specs.Tight.{Table}
use Rattle.decide_rows.specs.Stored.{stored}
use Rattle.decide_rows.specs.Read.{distance_of, Short, short_more}
use Rattle.decide_stored_table.specs.Sum.{max_sum}
use Rattle.decide_stored_table.specs.Table.{by_rows, rows_short}
use Rattle.decide_model.specs.Limit.{limit_of, limit_ready, plus_point, limit_short, limit_back}
use Rattle.decide_model.specs.Written.{pick_back}
use Rattle.decide_model.proofs.next_value.Goals.{After-limit_at-low, Start}
use Rattle.decide_model.proofs.next_value.Goals as goal

module _ (s : Start) where
  abbrev n : ℕ
  n = s.args.n

  abbrev t : List ℤ
  t = s.args.table.now

  abbrev values : List ℤ
  values = s.args.values.now

  abbrev k : ℕ
  k = length values

  abbrev D : Table
  D = by_rows (2 * n) t

  few : k ≤ n
  few = omega (arith, s.requires.count)

  -- a limit that was read back
  module _ (p : ℕ) (h : p < 2 * k + 2) (z : ℤ) (e : z ≡ stored (limit_of D values k p)) where
    inside : p < 2 * n
    inside = omega (arith, h, s.requires.count)

    back : distance_of z ≡ limit_of D values k p
    back = limit_back n D (rows_short n t s.requires.table) values few s.requires.small p inside k (omega arith) z e

    back_short : Short max_sum (distance_of z)
    back_short = rw back (short_more (omega arith) (limit_short n D (rows_short n t s.requires.table) values few s.requires.small p inside k (omega arith)))

pub limit_at-up-requires : goal.limit_at-up-requires
limit_at-up-requires c = limit_ready (n c) (2 * k c) (t c) (values c) c.requires (omega arith) (omega arith)

pub limit_at-low-requires : goal.limit_at-low-requires
limit_at-low-requires c =
    limit_ready (n (goal.at.limit_at-low-requires c).Start) (2 * k (goal.at.limit_at-low-requires c).Start + 1) (t (goal.at.limit_at-low-requires c).Start) (values (goal.at.limit_at-low-requires c).Start) c.requires (omega arith) (omega arith)

-- after both limits
module _ (c : After-limit_at-low) where
  abbrev up : ℤ
  up = to_z w64 (of_z w64 c.limit_at-up.result)

  abbrev low : ℤ
  low = to_z w64 (of_z w64 c.limit_at-low.result)

  up_is : up ≡ stored (limit_of (D (goal.at.After-limit_at-low c).Start) (values (goal.at.After-limit_at-low c).Start) (k (goal.at.After-limit_at-low c).Start) (point (k (goal.at.After-limit_at-low c).Start) 0))
  up_is =
      kept w64 c.limit_at-up.result c.limit_at-up.type_inv ∙ c.limit_at-up.ensures
      ∙ ap (λ (p : ℕ). stored (limit_of (D (goal.at.After-limit_at-low c).Start) (values (goal.at.After-limit_at-low c).Start) (k (goal.at.After-limit_at-low c).Start) p)) (plus_point (k (goal.at.After-limit_at-low c).Start))

  low_is : low ≡ stored (limit_of (D (goal.at.After-limit_at-low c).Start) (values (goal.at.After-limit_at-low c).Start) (k (goal.at.After-limit_at-low c).Start) (point (k (goal.at.After-limit_at-low c).Start) 1))
  low_is = kept w64 c.limit_at-low.result c.limit_at-low.type_inv ∙ c.limit_at-low.ensures

pub nearest_value-requires : goal.nearest_value-requires
nearest_value-requires c = back_short (goal.at.nearest_value-requires c).Start (point (k (goal.at.nearest_value-requires c).Start) 1) (omega arith) (low c) (low_is c)

pub returns : goal.returns
returns c =
    kept w64 c.nearest_value.result c.nearest_value.type_inv
    ∙ c.nearest_value.ensures
    ∙ pick_back (D (goal.at.returns c).Start) (values (goal.at.returns c).Start) (up (goal.at.returns c).After-limit_at-low) (low (goal.at.returns c).After-limit_at-low) (back (goal.at.returns c).Start (point (k (goal.at.returns c).Start) 0) (omega arith) (up (goal.at.returns c).After-limit_at-low) (up_is (goal.at.returns c).After-limit_at-low)) (back (goal.at.returns c).Start (point (k (goal.at.returns c).Start) 1) (omega arith) (low (goal.at.returns c).After-limit_at-low) (low_is (goal.at.returns c).After-limit_at-low))
