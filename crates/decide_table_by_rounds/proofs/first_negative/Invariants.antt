-- What the loops of `decide_table_by_rounds::first_negative` keep.
use mathlib.Core.Bool.{not}
use Prim.Native.Nat.{◌*◌}
use Rattle.theory_walks.specs.Negative.{not_below0}
use Rattle.decide_stored_table.specs.Table.{table_of}
use Rattle.integers.specs.Lowest.{Searched}
use Rattle.decide_table_by_rounds.proofs.first_negative.Given as goal

-- No point before u is found.
abbrev pub invariant-loop-u : goal.invariant-loop-u
invariant-loop-u l = Searched (λ q. not (not_below0 (table_of (2 * l.n) l.table q q))) (2 * l.n) l.u
