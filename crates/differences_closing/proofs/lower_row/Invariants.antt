-- What the loops of `differences_closing::lower_row` keep.
use Rattle.differences_closing.specs.Closed.{Lowering}
use Rattle.differences_closing.proofs.lower_row.Given as goal

-- The first u entries are no more than the other row's and a, and all are entries still.
abbrev pub invariant-loop-u : goal.invariant-loop-u
invariant-loop-u l = Lowering l.n l.to l.by l.a l.initial.table l.table l.u
