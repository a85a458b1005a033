-- What the loop of `engine_finished_rows::write_rows` keeps: the rows of the points below v are written.
use mathlib.Core.Path.{◌≡◌}
use lib.ListN.{length}
use Rattle.engine_finished_rows.specs.Rows.{RowsTo}
use Rattle.engine_finished_rows.proofs.write_rows.Given as goal

abbrev pub invariant-loop-v : goal.invariant-loop-v
invariant-loop-v l = (length l.work ≡ length l.initial.work) × RowsTo l.count l.n l.at l.initial.work l.work l.v
