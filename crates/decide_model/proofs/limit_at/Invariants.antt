-- What the loops of `decide_model::limit_at` keep.
use mathlib.Core.Path.{◌≡◌}
use Prim.Native.Nat.{◌*◌, ◌-◌, ◌≤◌}
use lib.ListN.{length}
use Rattle.decide_rows.specs.Stored.{stored}
use Rattle.decide_stored_table.specs.Table.{by_rows}
use Rattle.decide_model.specs.Limit.{limit_of}
use Rattle.decide_model.proofs.limit_at.Given as goal

-- `decide_model::limit_at` meets its contract. The invariant: the limit, given the values of the variables below x.
abbrev pub invariant-loop-x : goal.invariant-loop-x
invariant-loop-x l = (l.x ≤ length l.values) × (l.limit ≡ stored (limit_of (by_rows (2 * l.n) l.table) l.values l.x l.p))
