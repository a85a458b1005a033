-- What the loops of `decide_model::write_values` keep.
use mathlib.Core.Path.{◌≡◌}
use mathlib.Core.List.{◌++◌}
use Prim.Native.Nat.{◌*◌, ◌-◌, ◌≤◌}
use lib.ListN.{length, drop}
use Rattle.decide_stored_table.specs.Table.{by_rows}
use Rattle.decide_model.specs.Values.{values_of}
use Rattle.decide_model.proofs.write_values.Given as goal

-- `decide_model::write_values` meets its contract. The invariant: the first k values are written, and what lies beyond is as it was.
abbrev pub invariant-loop-k : goal.invariant-loop-k
invariant-loop-k l = (l.k ≤ l.n) × (length l.model ≡ length l.initial.model) × (l.model ≡ values_of (by_rows (2 * l.n) l.table) l.k ++ drop l.k l.initial.model)
