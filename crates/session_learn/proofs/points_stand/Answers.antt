-- `session_learn::points_stand` meets its contract. The invariant: the points before p pass.
use mathlib.Core.Path.{◌≡◌, refl, sym, ap, ◌∙◌}
use mathlib.Core.Bool.{Bool}
use Prim.Native.Nat.{ℕ, ◌*◌}
use native.Mathlib.Omega.{arith}
use borrow.Author.Tests.{not-true, not-false}
use Rattle.integers.specs.Table.{all_below}
use Rattle.theory_bounds.specs.Verdict.{halves_ok_lem}
use Rattle.theory_inserting.specs.Two.{insert_named}
use Rattle.session_step.specs.Read.{small_table}
use Rattle.session_learn.specs.With.{passes_more, one_fails}
use mathlib.Core.Bool.{not}
use Rattle.session_learn.proofs.points_stand.Goals.{Start}
use Rattle.session_learn.proofs.points_stand.Goals as goal

-- the test of a point
abbrev passes : Start → ℕ → Bool
passes s p = halves_ok_lem (insert_named (insert_named (small_table (2 * s.args.n) s.args.table.now) s.args.x) s.args.y) p

pub loop-p-init : goal.loop-p-init
loop-p-init c = (omega arith, refl)

pub returns-then-not-point_stands : goal.returns-then-not-point_stands
returns-then-not-point_stands c =
    one_fails (passes (goal.at.returns-then-not-point_stands c).Start) (2 * c.args.n) c.loop-p.p c.loop-p-test.true (sym c.point_stands.ensures ∙ not-true _ (ap not c.if-not-point_stands.true))

pub loop-p-preserved : goal.loop-p-preserved
loop-p-preserved c =
    (omega arith, passes_more (passes (goal.at.loop-p-preserved c).Start) c.loop-p.p c.loop-p.invariant.1 (sym c.point_stands.ensures ∙ not-false _ (ap not c.if-not-point_stands.false)))

pub returns : goal.returns
returns c =
    let e : c.loop-p.p ≡ 2 * c.args.n = omega arith in
    sym (ap (λ (k : ℕ). all_below k (passes (goal.at.returns c).Start)) (sym e) ∙ c.loop-p.invariant.1)
