-- `decide_stored_table::tightened` meets its contract.
use mathlib.Core.Path.{ap, ◌∙◌}
use native.Mathlib.Omega.{arith}
use lib.IntN.{ℤ}
use mir.Syntax.{w64}
use mir.Val.{to_z, of_z}
use mir.Facts.{to_z-of_z}
use Rattle.integers.proofs.Bits.{kept}
use Rattle.theory_walks.specs.Distance.{min_d}
use Rattle.decide_rows.specs.Stored.{stored}
use Rattle.decide_rows.specs.Read.{distance_of, short_more}
use Rattle.decide_stored_table.specs.Sum.{tightened_is}
use Rattle.decide_stored_table.proofs.tightened.Goals as goal

pub sum-by_halves-requires : goal.sum-by_halves-requires
sum-by_halves-requires c = rw (to_z-of_z c.ranges.half, to_z-of_z c.ranges.other) (short_more (omega arith) c.requires.0, short_more (omega arith) c.requires.1)

pub returns : goal.returns
returns c =
    kept w64 c.smaller.result c.smaller.type_inv
    ∙ c.smaller.ensures
    ∙ ap (λ (z : ℤ). stored (min_d (distance_of z) (distance_of (to_z w64 (of_z w64 c.sum-by_halves.result))))) (to_z-of_z c.ranges.distance)
    ∙ tightened_is c.args.distance c.args.half c.args.other _ c.requires.0 c.requires.1
    (kept w64 c.sum-by_halves.result c.sum-by_halves.type_inv ∙ (rw (to_z-of_z c.ranges.half, to_z-of_z c.ranges.other) at c.sum-by_halves.ensures))
