-- `decide_stored_table::entry_at` meets its contract: the entry's index is below the table's size.
use Prim.Native.Nat.{ℕ, ◌+◌, ◌*◌, ◌<◌}
use native.Mathlib.Omega.{arith}
use lib.ListN.{length}
use Rattle.lines.specs.Limits.{max_variables}
use Rattle.decide_stored_table.specs.Table.{entry_lt, entry_small}
use Rattle.decide_stored_table.proofs.entry_at.Goals.{Start}
use Rattle.decide_stored_table.proofs.entry_at.Goals as goal

module _ (s : Start) where
  abbrev at : ℕ
  at = s.args.v * (2 * s.args.n) + s.args.u

  small : at < 2 * max_variables * (2 * max_variables)
  small = entry_small s.args.n s.args.v s.args.u s.requires.0.variables s.requires.2 s.requires.1

  inside : at < length s.args.table.now
  inside = rw s.requires.0.size (entry_lt (2 * s.args.n) s.args.v s.args.u s.requires.2 s.requires.1)

pub overflow_mul-at-2 : goal.overflow_mul-at-2
overflow_mul-at-2 c = record { fits = omega (arith, small c) }

pub overflow_add-at : goal.overflow_add-at
overflow_add-at c = record { fits = omega (arith, small c) }

pub offset_bounds-table-at : goal.offset_bounds-table-at
offset_bounds-table-at c = record { fits = omega (arith, small c) }

pub bounds-table-at : goal.bounds-table-at
bounds-table-at c = inside c
