-- What the loops of `differences_table::finish_row` keep.
use Rattle.differences_table.specs.Finished.{RowFinished}
use Rattle.differences_table.proofs.finish_row.Given as goal

-- The first u entries of the row are distances, and the others are as they were.
abbrev pub invariant-loop-u : goal.invariant-loop-u
invariant-loop-u l = RowFinished l.n l.v l.initial.work l.work l.u
