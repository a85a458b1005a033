-- What the loops of `session_table::table_anew` keep.
use Rattle.session_table.specs.Anew.{Anew}
use Rattle.session_table.proofs.table_anew.Given as goal

-- The lines 0 to k - 1 stand, and the table is theirs.
abbrev pub invariant-loop-k : goal.invariant-loop-k
invariant-loop-k l = Anew l.n l.list l.table l.k
