-- `differences_model::distance_at` meets its contract: the entry's index is below the table's size.
use mathlib.Core.Path.{sym, ◌∙◌}
use Prim.Native.Nat.{◌+◌, ◌*◌}
use mir.Syntax.{w64}
use Rattle.integers.proofs.Bits.{kept}
use Rattle.lines.specs.Line.{number}
use Rattle.decide_rows.specs.Read.{stored_of}
use Rattle.differences_model.proofs.distance_at.Goals as goal

pub returns : goal.returns
returns c =
    let a = c.args in
    kept w64 _ c.result-1.given ∙ sym (stored_of (number a.table.now (a.v * a.n + a.u)))
