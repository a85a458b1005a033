-- `engine_merged_steps::keep_steps` meets its contract. The invariant: the steps in the cells gone through are kept.
use mathlib.Core.Path.{◌≡◌, refl, subst}
use Prim.Native.Nat.{ℕ, ◌+◌}
use native.Mathlib.Omega.{arith}
use borrow.Author.Rules.{rules}
use lib.IntN.{ℤ}
use mir.Syntax.{w64}
use mir.Val.{to_z, of_z}
use mir.Facts.{to_z-of_z}
use Rattle.lines.specs.Line.{number}
use Rattle.integers.proofs.Halving.{test_yes, test_no}
use Rattle.engine_merged_steps.specs.Keep.{Keeping, keeping_start, keeping_none, keeping_more}
use Rattle.engine_merged_steps.proofs.keep_steps.Goals.{After-z-1, then-z-lt-NO_STEP, else-z-lt-NO_STEP}
use Rattle.engine_merged_steps.proofs.keep_steps.Goals as goal

pub loop-c-init : goal.loop-c-init
loop-c-init c = (refl, keeping_start c.args.start c.args.cells c.args.work.now)

-- the number in the cell
module _ (c : After-z-1) where
  abbrev z : ℤ
  z = number c.loop-c.work (c.args.start + c.loop-c.c)

  z_is : to_z w64 (of_z w64 z) ≡ z
  z_is = to_z-of_z {w = w64} (record { sfits = c.z-1.given })

pub loop-c-preserved : goal.loop-c-preserved
loop-c-preserved c =
    let p = c.loop-c.invariant.1 in
    let i = c.loop-c-test.true in (
      search rules,
      rw (z_is (goal.at.loop-c-preserved c).After-z-1)
          (elim c.if-z-lt-NO_STEP.branch [
            | then-z-lt-NO_STEP w ↦ rw w.kept-is (keeping_more c.requires p i (test_yes _ _ (rw (z_is (goal.at.loop-c-preserved c).After-z-1) at w.if-z-lt-NO_STEP.true)))
            | else-z-lt-NO_STEP w ↦ rw w.kept-is (keeping_none c.requires p i (test_no _ _ (rw (z_is (goal.at.loop-c-preserved c).After-z-1) at w.if-z-lt-NO_STEP.false)))
          ]),
    )

pub returns : goal.returns
returns c =
    subst (λ (k : ℕ). Keeping c.args.start c.args.cells c.args.work.now c.loop-c.work k c.loop-c.kept) (omega (arith, c.loop-c.invariant.1.at_most, c.loop-c-test.false)) c.loop-c.invariant.1
