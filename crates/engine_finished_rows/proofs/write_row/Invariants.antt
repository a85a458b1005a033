-- What the loop of `engine_finished_rows::write_row` keeps: the numbers of the row at the points of the first x variables are
-- written, and nothing else is changed. What a turn reads lies elsewhere, so that it is as it was before the row.
use mathlib.Core.Path.{◌≡◌}
use Prim.Native.Nat.{◌*◌}
use lib.ListN.{length}
use Rattle.engine_finished_rows.specs.Rows.{RowTo}
use Rattle.engine_finished_rows.proofs.write_row.Given as goal

abbrev pub invariant-loop-x : goal.invariant-loop-x
invariant-loop-x l = (length l.work ≡ length l.initial.work) × RowTo l.count l.n l.at l.place l.v l.initial.work l.work (2 * l.x)
