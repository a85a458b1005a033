-- What the loops of `differences_rows::relax_lines` keep.
use Rattle.differences_rows.specs.Round.{Gone}
use Rattle.differences_rows.proofs.relax_lines.Given as goal

-- The new row is the old one relaxed by the lines gone through so far.
abbrev pub invariant-loop-k : goal.invariant-loop-k
invariant-loop-k l = Gone l.n l.list l.initial.rows l.rows l.k
