-- What the loops of `differences_closing::close` keep.
use Rattle.differences_closing.specs.Closed.{Closed}
use Rattle.differences_closing.proofs.close.Given as goal

-- The table is closed through the variables before k.
abbrev pub invariant-loop-k : goal.invariant-loop-k
invariant-loop-k l = Closed l.n l.initial.table l.table l.k
