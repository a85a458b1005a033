-- `differences_model::limit_at` meets its contract: the limit by one value after the other.
use mathlib.Core.Path.{◌≡◌, sym, ap, ◌∙◌}
use lib.ListN.{length}
use mir.Syntax.{w32, w64}
use mir.Val.{to_z, of_z}
use Rattle.integers.proofs.Bits.{kept, widened}
use Rattle.lines.specs.Line.{number, assignment_of}
use Rattle.decide_rows.specs.Stored.{stored}
use Rattle.decide_stored_table.specs.Table.{table_of}
use Rattle.decide_model.specs.Limit.{value_fits}
use Rattle.differences_model.specs.Limit.{limit_start, limit_more}
use Rattle.differences_model.proofs.limit_at.Goals as goal

pub loop-x-init : goal.loop-x-init
loop-x-init c =
    let a = c.args in
    ap stored (sym (limit_start a.upper (table_of a.n a.table.now) (assignment_of a.values.now) (length a.values.now)))

pub loop-x-preserved : goal.loop-x-preserved
loop-x-preserved c =
    let a = c.args in
    let x = c.loop-x.x in
    let h = c.loop-x-test.true in
    let value = number a.values.now x in
    let value_is : to_z w64 (of_z w64 (to_z w32 (of_z w32 value))) ≡ value = widened {w = w32} tt (value_fits value (c.requires.small x h)) in
    limit_more a.n a.table.now a.values.now c.requires a.upper x h (to_z w64 c.loop-x.limit-bits) (to_z w64 (of_z w64 c.limit_by-other.result)) _ c.loop-x.invariant
    (kept w64 c.limit_by-other.result c.limit_by-other.type_inv ∙ (rw value_is at c.limit_by-other.ensures))
    (kept w64 c.smaller-limit.result c.smaller-limit.type_inv ∙ c.smaller-limit.ensures)
