-- `hub_weights::lower` meets its contract: by the test, what stands there stays, or is set to the weight.
use mathlib.Core.Path.{◌≡◌}
use mathlib.Core.List.{List}
use lib.IntN.{ℤ}
use mir.Syntax.{w64}
use mir.Val.{to_z, of_z}
use mir.Facts.{to_z-of_z}
use Rattle.integers.proofs.Bits.{kept}
use Rattle.integers.proofs.Halving.{test_yes, test_no}
use Rattle.lines.specs.Line.{number}
use Rattle.hub_weights.specs.Lowered.{lowered_stays, lowered_set}
use Rattle.hub_weights.proofs.lower.Goals.{After-t6-1}
use Rattle.hub_weights.proofs.lower.Goals as goal

-- the number that stands there, and the weight
module _ (c : After-t6-1) where
  abbrev w : List ℤ
  w = c.args.work.now

  old_is : to_z w64 (of_z w64 (number w c.args.at)) ≡ number w c.args.at
  old_is = kept w64 _ c.t6-1.given

  weight_is : to_z w64 (of_z w64 c.args.weight) ≡ c.args.weight
  weight_is = to_z-of_z c.ranges.weight

pub returns-then-weight-work : goal.returns-then-weight-work
returns-then-weight-work c =
    rw (weight_is (goal.at.returns-then-weight-work c).After-t6-1) (lowered_set c.args.at c.args.weight (w (goal.at.returns-then-weight-work c).After-t6-1) c.requires (test_yes _ _ (rw (weight_is (goal.at.returns-then-weight-work c).After-t6-1, old_is (goal.at.returns-then-weight-work c).After-t6-1) at c.if-weight-work.true)))

pub returns-else-weight-work : goal.returns-else-weight-work
returns-else-weight-work c =
    lowered_stays c.args.at c.args.weight (w (goal.at.returns-else-weight-work c).After-t6-1) (test_no _ _ (rw (weight_is (goal.at.returns-else-weight-work c).After-t6-1, old_is (goal.at.returns-else-weight-work c).After-t6-1) at c.if-weight-work.false))
