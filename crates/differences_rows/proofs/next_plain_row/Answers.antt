-- `differences_rows::next_plain_row` meets its contract: the part with two rows is lent.
use native.Mathlib.Omega.{arith}
use Rattle.differences_rows.specs.Round.{part_ready}
use Rattle.differences_rows.proofs.next_plain_row.Goals as goal

pub relax_lines-requires : goal.relax_lines-requires
relax_lines-requires c = part_ready _ _ _ _ _ (omega arith) c.requires
