-- What the loops of `differences_yes::group_of` keep.
use Rattle.integers.specs.Lowest.{Searched}
use Rattle.theory_differences.specs.Doubled.{plain_same}
use Rattle.decide_stored_table.specs.Table.{table_of}
use Rattle.differences_yes.proofs.group_of.Given as goal

-- No variable before r is found.
abbrev pub invariant-loop-r : goal.invariant-loop-r
invariant-loop-r l = Searched (plain_same (table_of l.n l.table) l.x) l.x l.r
