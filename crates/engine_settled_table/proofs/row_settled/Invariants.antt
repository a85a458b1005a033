-- What the loops of `engine_settled_table::row_settled` keep.
use Rattle.engine_settled_table.specs.Settled.{Summed}
use Rattle.engine_settled_table.proofs.row_settled.Given as goal

-- `engine_settled_table::row_settled` meets its contract. The invariant: what the sum says of the columns gone through.
abbrev pub invariant-loop-t : goal.invariant-loop-t
invariant-loop-t l = Summed l.pot l.size l.s l.u l.r l.work l.t l.sum
