-- `decide_model::limit_by` meets its contract.
use mathlib.Core.Path.{◌≡◌, ap, ◌∙◌}
use Prim.Native.Nat.{◌*◌}
use native.Mathlib.Omega.{arith}
use lib.IntN.{ℤ}
use mir.Syntax.{w64}
use mir.Val.{to_z, of_z}
use mir.Facts.{to_z-of_z}
use Rattle.integers.proofs.Bits.{kept}
use Rattle.theory_walks.specs.Distance.{Distance, ◌⊞◌}
use Rattle.decide_rows.specs.Stored.{stored}
use Rattle.decide_rows.specs.Read.{distance_of, Short, max_distance}
use Rattle.decide_stored_table.specs.Table.{by_rows, rows_short}
use Rattle.decide_model.specs.Limit.{value_short, entry_short, sum_back}
use Rattle.decide_model.proofs.limit_by.Goals.{After-mirrored_at}
use Rattle.decide_model.proofs.limit_by.Goals as goal

-- the entry that was read
module _ (c : After-mirrored_at) where
  abbrev entry : ℤ
  entry = to_z w64 (of_z w64 c.mirrored_at.result)

  abbrev distance : Distance
  distance = by_rows (2 * c.args.n) c.args.table.now c.args.p c.args.q

  short : Short max_distance distance
  short = rows_short c.args.n c.args.table.now c.requires.0 c.args.p c.args.q c.requires.1 (omega (arith, c.requires.1, c.requires.2))

  is : entry ≡ stored distance
  is = kept w64 c.mirrored_at.result c.mirrored_at.type_inv ∙ c.mirrored_at.ensures

pub sum-requires : goal.sum-requires
sum-requires c =
    (entry_short (distance c) (short c) (entry c) (is c), rw (to_z-of_z c.ranges.value) (value_short c.args.value c.requires.3))

pub returns : goal.returns
returns c =
    kept w64 c.sum.result c.sum.type_inv
    ∙ c.sum.ensures
    ∙ ap (λ (z : ℤ). stored (distance_of (entry (goal.at.returns c).After-mirrored_at) ⊞ distance_of z)) (to_z-of_z c.ranges.value)
    ∙ sum_back (distance (goal.at.returns c).After-mirrored_at) (short (goal.at.returns c).After-mirrored_at) (entry (goal.at.returns c).After-mirrored_at) (is (goal.at.returns c).After-mirrored_at) c.args.value c.requires.3
