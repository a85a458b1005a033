-- `file_text::put_variable_line` meets its contract.
use mathlib.Core.Path.{ap}
use Prim.Native.Nat.{◌+◌, ◌*◌, ◌≤◌}
use native.Mathlib.Omega.{arith}
use borrow.Author.Rules.{rules}
use lib.IntN.{pos}
use lib.ListN.{length, get_or}
use mir.Syntax.{w32, w64}
use Rattle.integers.proofs.Bits.{kept}
use Rattle.file_text.specs.Put.{then, wider, same}
use Rattle.file_text.specs.Steps.{value_text, bounds_same, line_parts}
use Rattle.file_text.proofs.put_variable_line.Goals as goal

pub returns : goal.returns
returns c =
    let h : c.args.at ≤ length c.args.out.now = omega arith in
    let x = c.args.x in
    let bounds = c.args.bounds.now in
    let value = kept w32 (get_or c.args.model.now x (pos 0)) (search rules) in
    let least = kept w64 (get_or bounds (2 * x) (pos 0)) (search rules) in
    let greatest = kept w64 (get_or bounds (2 * x + 1) (pos 0)) (search rules) in
    let q1 = same (ap (value_text x) value) c.put_value-next.ensures in
    let q2 = same (bounds_same least greatest) c.put_bounds-next.ensures in
    same
    (line_parts x c.args.model.now bounds c.args.groups.now)
    (wider (omega arith) (then h (then h q1 q2) c.put_group.ensures))
