-- What the loops of `differences_closing::through_rows` keep.
use Rattle.differences_closing.specs.Closed.{RowsThrough}
use Rattle.differences_closing.proofs.through_rows.Given as goal

-- The rows before v are no more than through k.
abbrev pub invariant-loop-v : goal.invariant-loop-v
invariant-loop-v l = RowsThrough l.n l.k l.from l.initial.table l.table l.v
