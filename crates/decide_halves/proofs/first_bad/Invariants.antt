-- What the loops of `decide_halves::first_bad` keep.
use mathlib.Core.Bool.{not}
use Prim.Native.Nat.{◌*◌}
use Rattle.theory_bounds.specs.Verdict.{halves_ok_lem}
use Rattle.decide_stored_table.specs.Table.{table_of}
use Rattle.integers.specs.Lowest.{Searched}
use Rattle.decide_halves.proofs.first_bad.Given as goal

-- No point before p is found.
abbrev pub invariant-loop-p : goal.invariant-loop-p
invariant-loop-p l = Searched (λ q. not (halves_ok_lem (table_of (2 * l.n) l.table) q)) (2 * l.n) l.p
