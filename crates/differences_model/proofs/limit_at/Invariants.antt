-- What the loops of `differences_model::limit_at` keep.
use mathlib.Core.Path.{◌≡◌}
use Rattle.lines.specs.Line.{assignment_of}
use Rattle.decide_rows.specs.Stored.{stored}
use Rattle.decide_stored_table.specs.Table.{table_of}
use Rattle.differences_model.specs.Limit.{limit_below}
use Rattle.differences_model.proofs.limit_at.Given as goal

-- The limit by the values of the variables below x.
abbrev pub invariant-loop-x : goal.invariant-loop-x
invariant-loop-x l = l.limit ≡ stored (limit_below l.upper (table_of l.n l.table) (assignment_of l.values) l.k l.x)
