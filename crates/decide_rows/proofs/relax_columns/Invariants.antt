-- What the loops of `decide_rows::relax_columns` keep.
use Rattle.decide_rows.specs.Relax.{Across}
use Rattle.decide_rows.proofs.relax_columns.Given as goal

-- The step was gone in the columns 0 to j - 1.
abbrev pub invariant-loop-j : goal.invariant-loop-j
invariant-loop-j l = Across l.size l.width l.step l.initial.rows l.rows l.j
