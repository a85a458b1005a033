-- `session_line::stays_after` meets its contract: sums of what is read fit, and the stored distance is compared with the weight.
use mathlib.Core.Path.{◌≡◌, ap, ap₂, ◌∙◌}
use Prim.Native.Nat.{◌*◌}
use native.Mathlib.Omega.{arith}
use lib.IntN.{ℤ, pos, ◌-ℤ◌}
use lib.Signed.{le_z}
use mir.Syntax.{w64}
use mir.Val.{to_z, of_z}
use mir.Facts.{to_z-of_z}
use Rattle.integers.proofs.Bits.{kept}
use Rattle.steps.specs.declared.Step.{Step}
use Rattle.theory_walks.specs.Distance.{◌⊞◌}
use Rattle.theory_bounds.specs.Tight.{Table}
use Rattle.decide_rows.specs.Stored.{stored}
use Rattle.decide_rows.specs.Read.{distance_of, short_more, weight_fits}
use Rattle.theory_inserting.specs.Insert.{inserted}
use Rattle.session_step.specs.Read.{small_table, small_short, small_back}
use Rattle.session_step.specs.Done.{along, along_small, along_back}
use Rattle.session_line.specs.Both.{not_below_stored, negated_fits, smaller_is}
use Rattle.session_line.proofs.stays_after.Goals.{After-read_at}
use Rattle.session_line.proofs.stays_after.Goals as goal

-- what was read
module _ (c : After-read_at) where
  abbrev D : Table
  D = small_table (2 * c.args.n) c.args.table.now

  abbrev first : Step
  first = c.args.first

  abbrev second : Step
  second = c.args.second

  abbrev direct : ℤ
  direct = to_z w64 (of_z w64 c.read_at-direct.result)

  direct_is : distance_of direct ≡ D second.to second.from
  direct_is = ap distance_of (kept w64 c.read_at-direct.result c.read_at-direct.type_inv ∙ c.read_at-direct.ensures) ∙ small_back _

  abbrev before : ℤ
  before = to_z w64 (of_z w64 c.sum_along-before.result)

  before_is : distance_of before ≡ along D first second.to
  before_is =
      ap distance_of (kept w64 c.sum_along-before.result c.sum_along-before.type_inv ∙ c.sum_along-before.ensures)
      ∙ along_back c.args.n first c.args.table.now c.requires.1 second.to

  abbrev after : ℤ
  after = to_z w64 (of_z w64 c.read_at.result)

  after_is : distance_of after ≡ D first.to second.from
  after_is = ap distance_of (kept w64 c.read_at.result c.read_at.type_inv ∙ c.read_at.ensures) ∙ small_back _

pub sum-through-requires : goal.sum-through-requires
sum-through-requires c = (
  rw (before_is c) (short_more (omega arith) (along_small c.args.n (first c) c.args.table.now c.requires.1 (second c).to)),
  rw (after_is c) (short_more (omega arith) (small_short _)),
)

-- the weight, negated
module _ (c : After-read_at) where
  abbrev weight : ℤ
  weight = (second c).weight

  weight_is : to_z w64 (of_z w64 weight) ≡ weight
  weight_is = to_z-of_z (weight_fits weight c.requires.2.small)

  negated_is : to_z w64 (of_z w64 (pos 0 -ℤ to_z w64 (of_z w64 weight))) ≡ pos 0 -ℤ weight
  negated_is = rw weight_is (to_z-of_z (negated_fits weight c.requires.2.small))

pub overflow_sub-result : goal.overflow_sub-result
overflow_sub-result c = rw (weight_is (goal.at.overflow_sub-result c).After-read_at) (negated_fits (weight (goal.at.overflow_sub-result c).After-read_at) c.requires.2.small)

pub returns : goal.returns
returns c =
    let d = inserted (D (goal.at.returns c).After-read_at) (first (goal.at.returns c).After-read_at) (second (goal.at.returns c).After-read_at).to (second (goal.at.returns c).After-read_at).from in
    let sum_is : to_z w64 (of_z w64 c.sum-through.result) ≡ stored (distance_of (before (goal.at.returns c).After-read_at) ⊞ distance_of (after (goal.at.returns c).After-read_at)) = kept w64 c.sum-through.result c.sum-through.type_inv ∙ c.sum-through.ensures in
    let small : to_z w64 (of_z w64 c.smaller.result) ≡ stored d =
    kept w64 c.smaller.result c.smaller.type_inv
    ∙ smaller_is (D (goal.at.returns c).After-read_at (second (goal.at.returns c).After-read_at).to (second (goal.at.returns c).After-read_at).from) (along (D (goal.at.returns c).After-read_at) (first (goal.at.returns c).After-read_at) (second (goal.at.returns c).After-read_at).to) (D (goal.at.returns c).After-read_at (first (goal.at.returns c).After-read_at).to (second (goal.at.returns c).After-read_at).from) (direct (goal.at.returns c).After-read_at) (before (goal.at.returns c).After-read_at) (after (goal.at.returns c).After-read_at) (to_z w64 (of_z w64 c.sum-through.result)) c.smaller.result (direct_is (goal.at.returns c).After-read_at) (before_is (goal.at.returns c).After-read_at) (after_is (goal.at.returns c).After-read_at)
    (short_more (omega arith) (along_small c.args.n (first (goal.at.returns c).After-read_at) c.args.table.now c.requires.1 (second (goal.at.returns c).After-read_at).to)) (short_more (omega arith) (small_short _)) sum_is c.smaller.ensures in
    ap₂ le_z (negated_is (goal.at.returns c).After-read_at) small ∙ not_below_stored d (weight (goal.at.returns c).After-read_at) c.requires.2.small
