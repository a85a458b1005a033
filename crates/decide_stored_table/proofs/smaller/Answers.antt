-- `decide_stored_table::smaller` meets its contract.
use mathlib.Core.Path.{◌∙◌}
use mir.Facts.{to_z-of_z}
use Rattle.decide_stored_table.specs.Sum.{smaller_first, smaller_second}
use Rattle.decide_stored_table.proofs.smaller.Goals as goal

pub returns-then-b-a : goal.returns-then-b-a
returns-then-b-a c =
    to_z-of_z c.ranges.b ∙ smaller_second c.args.a c.args.b c.ranges.a c.ranges.b (rw (to_z-of_z c.ranges.a, to_z-of_z c.ranges.b) at c.if-b-a.true)

pub returns-else-b-a : goal.returns-else-b-a
returns-else-b-a c =
    to_z-of_z c.ranges.a ∙ smaller_first c.args.a c.args.b c.ranges.a c.ranges.b (rw (to_z-of_z c.ranges.a, to_z-of_z c.ranges.b) at c.if-b-a.false)
