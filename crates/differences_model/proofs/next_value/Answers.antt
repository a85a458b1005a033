-- `differences_model::next_value` meets its contract: the doubled table has no halves, so that its limits are those of the table.
use mathlib.Core.Path.{◌≡◌, sym, ap₂, ◌∙◌}
use mathlib.Core.Bool.{Bool, true, false}
use mathlib.Core.List.{List}
use native.Mathlib.Omega.{arith}
use lib.IntN.{ℤ}
use lib.ListN.{length}
use mir.Syntax.{w64}
use mir.Val.{to_z, of_z}
use Rattle.integers.proofs.Bits.{kept}
use Rattle.lines.specs.Line.{assignment_of}
use Rattle.theory_walks.specs.Distance.{Distance}
use Rattle.theory_bounds.specs.Near.{near}
use Rattle.theory_differences.specs.Doubled.{limit_by_lem, doubled_pick}
use Rattle.decide_rows.specs.Stored.{stored}
use Rattle.decide_rows.specs.Read.{distance_of}
use Rattle.decide_stored_table.specs.Table.{table_of}
use Rattle.differences_model.specs.Limit.{limit_back, limit_back_short}
use Rattle.differences_model.proofs.next_value.Goals.{After-limit_at-low, Start}
use Rattle.differences_model.proofs.next_value.Goals as goal

module _ (s : Start) where
  abbrev t : List ℤ
  t = s.args.table.now

  abbrev values : List ℤ
  values = s.args.values.now

  abbrev limit_for : Bool → Distance
  limit_for upper = limit_by_lem upper (table_of s.args.n t) (assignment_of values) (length values)

  back : (upper : Bool) (z : ℤ) → z ≡ stored (limit_for upper) → distance_of z ≡ limit_for upper
  back upper z e = limit_back s.args.n t values s.requires upper (length values) (omega arith) z e

-- after both limits
module _ (c : After-limit_at-low) where
  abbrev up : ℤ
  up = to_z w64 (of_z w64 c.limit_at-up.result)

  abbrev low : ℤ
  low = to_z w64 (of_z w64 c.limit_at-low.result)

  up_is : up ≡ stored (limit_for (goal.at.After-limit_at-low c).Start true)
  up_is = kept w64 c.limit_at-up.result c.limit_at-up.type_inv ∙ c.limit_at-up.ensures

  low_is : low ≡ stored (limit_for (goal.at.After-limit_at-low c).Start false)
  low_is = kept w64 c.limit_at-low.result c.limit_at-low.type_inv ∙ c.limit_at-low.ensures

pub nearest_value-requires : goal.nearest_value-requires
nearest_value-requires c =
    limit_back_short c.args.n c.args.table.now c.args.values.now c.requires false (low c) (low_is c)

pub returns : goal.returns
returns c =
    let start = (goal.at.returns c).Start in
    let after_limit_at_low = (goal.at.returns c).After-limit_at-low in
    kept w64 c.nearest_value.result c.nearest_value.type_inv
    ∙ c.nearest_value.ensures
    ∙ ap₂ near (back start true (up after_limit_at_low) (up_is after_limit_at_low)) (back start false (low after_limit_at_low) (low_is after_limit_at_low))
    ∙ sym (doubled_pick (table_of c.args.n c.args.table.now) (assignment_of c.args.values.now) (length c.args.values.now))
