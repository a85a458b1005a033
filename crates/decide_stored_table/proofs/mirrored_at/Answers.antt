-- `decide_stored_table::mirrored_at` meets its contract.
use mathlib.Core.Path.{◌∙◌}
use Prim.Native.Nat.{◌*◌}
use native.Mathlib.Omega.{arith}
use mir.Syntax.{w64}
use Rattle.integers.proofs.Bits.{kept}
use Rattle.theory_bounds.specs.Points.{opposite_below}
use Rattle.decide_stored_table.specs.Table.{mirrored_entry}
use Rattle.decide_stored_table.proofs.mirrored_at.Goals as goal

pub entry_at-requires : goal.entry_at-requires
entry_at-requires c =
    let hu = opposite_below c.args.n c.args.u c.requires.1 in
    let hv = opposite_below c.args.n c.args.v (omega (arith, c.requires.1, c.requires.2)) in
    rw (c.opposite_of.ensures, c.opposite_of-2.ensures) (c.requires.0, omega arith, omega arith)

pub returns : goal.returns
returns c =
    kept w64 c.entry_at.result c.entry_at.type_inv
    ∙ c.entry_at.ensures
    ∙ mirrored_entry (2 * c.args.n) c.args.table.now c.args.u c.args.v c.requires.2 _ _ c.opposite_of-2.ensures c.opposite_of.ensures
