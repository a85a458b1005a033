-- `decide_table_by_rounds::self_ok` meets its contract: no walk is stored as a number above 0, so that the stored number alone is tested.
use mathlib.Core.Path.{ap, ◌∙◌}
use Prim.Native.Nat.{◌+◌, ◌*◌}
use lib.IntN.{pos}
use lib.Signed.{le_z}
use mir.Syntax.{w64}
use Rattle.integers.proofs.Bits.{kept}
use Rattle.lines.specs.Line.{number}
use Rattle.decide_rows.specs.Read.{stored_sign}
use Rattle.decide_table_by_rounds.proofs.self_ok.Goals as goal

pub returns : goal.returns
returns c =
    let a = c.args in
    ap (le_z (pos 0)) (kept w64 c.entry_at.result c.entry_at.type_inv ∙ c.entry_at.ensures)
    ∙ stored_sign (number a.table.now (a.u * (2 * a.n) + a.u))
