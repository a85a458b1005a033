-- `engine_merged_steps::lower_cell` meets its contract.
use mathlib.Core.Path.{◌≡◌}
use lib.IntN.{ℤ}
use mir.Syntax.{w64}
use mir.Val.{to_z, of_z}
use mir.Facts.{to_z-of_z}
use Rattle.lines.specs.Line.{number}
use Rattle.integers.proofs.Halving.{test_yes, test_no}
use Rattle.engine_merged_steps.specs.Cells.{lowered_set, lowered_none}
use Rattle.engine_merged_steps.proofs.lower_cell.Goals.{After-t6-1}
use Rattle.engine_merged_steps.proofs.lower_cell.Goals as goal

-- the number that stands there
module _ (c : After-t6-1) where
  abbrev old : ℤ
  old = number c.args.work.now c.args.place

  z_is : to_z w64 (of_z w64 c.args.z) ≡ c.args.z
  z_is = to_z-of_z c.ranges.z

  old_is : to_z w64 (of_z w64 old) ≡ old
  old_is = to_z-of_z {w = w64} (record { sfits = c.t6-1.given })

pub returns-then-z-work : goal.returns-then-z-work
returns-then-z-work c =
    let a = c.args in
    rw (z_is (goal.at.returns-then-z-work c).After-t6-1) (lowered_set a.place a.z a.work.now c.requires (test_yes _ _ (rw (z_is (goal.at.returns-then-z-work c).After-t6-1, old_is (goal.at.returns-then-z-work c).After-t6-1) at c.if-z-work.true)))

pub returns-else-z-work : goal.returns-else-z-work
returns-else-z-work c =
    let a = c.args in
    lowered_none a.place a.z a.work.now (test_no _ _ (rw (z_is (goal.at.returns-else-z-work c).After-t6-1, old_is (goal.at.returns-else-z-work c).After-t6-1) at c.if-z-work.false))
