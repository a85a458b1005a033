-- `decide_bounds_groups::write_bounds` meets its contract.
use mathlib.Core.Path.{◌≡◌, ap, ◌∙◌}
use mathlib.Core.List.{List}
use Prim.Native.Nat.{ℕ, ◌*◌}
use native.Mathlib.Omega.{arith}
use lib.IntN.{ℤ}
use lib.ListN.{set}
use mir.Syntax.{w64}
use mir.Val.{to_z, of_z}
use Rattle.integers.proofs.Bits.{kept}
use Rattle.theory_bounds.specs.Answers.{bound_at}
use Rattle.decide_stored_table.specs.Table.{table_of}
use Rattle.integers.specs.Fill.{filled_more}
use Rattle.decide_bounds_groups.proofs.write_bounds.Goals.{Start}
use Rattle.decide_bounds_groups.proofs.write_bounds.Goals as goal

abbrev bound : Start → ℕ → ℤ
bound s = bound_at (table_of (2 * s.args.n) s.args.table.now)

pub loop-i-preserved : goal.loop-i-preserved
loop-i-preserved c =
    let v = to_z w64 (of_z w64 c.bound_at.result) in
    let e : v ≡ bound (goal.at.loop-i-preserved c).Start c.loop-i.i = kept w64 c.bound_at.result c.bound_at.type_inv ∙ c.bound_at.ensures in
    ap (λ (b : List ℤ). set b c.loop-i.i v) c.loop-i.invariant ∙ filled_more (bound (goal.at.loop-i-preserved c).Start) c.args.bounds.now c.loop-i.i v (omega arith) e
