-- What the loops of `decide_rows::relax_row` keep.
use Rattle.decide_rows.specs.Relax.{Round}
use Rattle.decide_rows.proofs.relax_row.Given as goal

-- The new row is the old one relaxed by the steps gone through so far.
abbrev pub invariant-loop-number : goal.invariant-loop-number
invariant-loop-number l = Round l.n l.width l.list l.initial.rows l.rows l.number
