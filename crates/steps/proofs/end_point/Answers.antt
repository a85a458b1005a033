-- `steps::end_point` meets its contract.
use mathlib.Core.Path.{sym, ap, subst, ◌∙◌}
use Prim.Native.Nat.{◌%◌}
use native.Mathlib.Omega.{arith}
use borrow.Author.Tests.{lt-ltb, le-ltb}
use lib.IntN.{ℤ, nat_abs}
use mir.Syntax.{w32}
use Rattle.integers.proofs.Bits.{kept}
use Rattle.lines.specs.Limits.{max_variables}
use Rattle.lines.specs.Valid.{VariableOk}
use Rattle.steps.specs.Point.{point}
use Rattle.steps.proofs.end_point.Goals as goal

pub point_of-requires : goal.point_of-requires
point_of-requires c =
    (subst (VariableOk max_variables) (sym (kept w32 c.args.line.x c.struct_told-1.given.1.0.1)) (rw (lt-ltb _ _ c.if-end-lt2.true) at c.requires), omega arith)

pub returns-then-end-lt2 : goal.returns-then-end-lt2
returns-then-end-lt2 c =
    c.point_of.ensures
    ∙ rw (lt-ltb c.args.end 2 c.if-end-lt2.true) (ap (λ (x : ℤ). point (nat_abs x) (c.args.end % 2)) (kept w32 c.args.line.x c.struct_told-1.given.1.0.1))

pub point_of-requires-2 : goal.point_of-requires-2
point_of-requires-2 c =
    (subst (VariableOk max_variables) (sym (kept w32 c.args.line.y c.struct_told-2-1.given.1.1.1.0.1)) (rw (le-ltb _ _ c.if-end-lt2.false) at c.requires), omega arith)

pub returns : goal.returns
returns c =
    c.point_of-2.ensures
    ∙ rw (le-ltb c.args.end 2 c.if-end-lt2.false) (ap (λ (x : ℤ). point (nat_abs x) (c.args.end % 2)) (kept w32 c.args.line.y c.struct_told-2-1.given.1.1.1.0.1))
