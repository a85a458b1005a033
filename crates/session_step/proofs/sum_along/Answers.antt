-- `session_step::sum_along` meets its contract: both numbers are small enough to be added.
use mathlib.Core.Path.{◌≡◌, ap, ◌∙◌}
use Prim.Native.Nat.{◌+◌, ◌*◌}
use native.Mathlib.Omega.{arith}
use lib.IntN.{ℤ}
use mir.Syntax.{w64}
use mir.Val.{to_z, of_z}
use mir.Facts.{to_z-of_z}
use Rattle.integers.proofs.Bits.{kept}
use Rattle.lines.specs.Line.{number}
use Rattle.decide_rows.specs.Read.{distance_of, short_more, weight_fits}
use Rattle.session_step.specs.Read.{small_of, small_short, small_back}
use Rattle.session_step.specs.Done.{weight_short, along_of_sum}
use Rattle.session_step.proofs.sum_along.Goals.{After-read_at}
use Rattle.session_step.proofs.sum_along.Goals as goal

-- the two numbers
module _ (c : After-read_at) where
  -- the entry in the table
  abbrev entry : ℤ
  entry = number c.args.table.now (c.args.step.from * (2 * c.args.n) + c.args.u)

  -- and as it was read
  abbrev found : ℤ
  found = to_z w64 (of_z w64 c.read_at.result)

  found_is : distance_of found ≡ small_of entry
  found_is = ap distance_of (kept w64 c.read_at.result c.read_at.type_inv ∙ c.read_at.ensures) ∙ small_back entry

  abbrev weight : ℤ
  weight = c.args.step.weight

  weight_is : to_z w64 (of_z w64 weight) ≡ weight
  weight_is = to_z-of_z (weight_fits weight c.requires.1.small)

pub sum-requires : goal.sum-requires
sum-requires c =
    (rw (found_is (goal.at.sum-requires c).After-read_at) (short_more (omega arith) (small_short (entry (goal.at.sum-requires c).After-read_at))), rw (weight_is (goal.at.sum-requires c).After-read_at) (weight_short (weight (goal.at.sum-requires c).After-read_at) c.requires.1.small))

pub returns : goal.returns
returns c =
    kept w64 c.sum.result c.sum.type_inv
    ∙ along_of_sum (small_of (entry (goal.at.returns c).After-read_at)) (found (goal.at.returns c).After-read_at) (weight (goal.at.returns c).After-read_at) c.sum.result (found_is (goal.at.returns c).After-read_at) c.requires.1.small (rw (weight_is (goal.at.returns c).After-read_at) at c.sum.ensures)
