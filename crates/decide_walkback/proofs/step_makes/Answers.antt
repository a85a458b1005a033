-- `decide_walkback::step_makes` meets its contract: each way out has the tests that led there.
use mathlib.Core.Path.{◌≡◌, sym, ap, ◌∙◌}
use lib.IntN.{ℤ, ◌+ℤ◌}
use mir.Syntax.{w64}
use mir.Val.{SFits, to_z, of_z}
use mir.Facts.{to_z-of_z}
use Rattle.integers.proofs.Bits.{eqb_bits}
use Rattle.lines.specs.Limits.{absent_greatest}
use Rattle.decide_walkback.specs.Makes.{entry, ends_elsewhere, starts_nowhere, sums, weight_fits, sum_fits}
use Rattle.decide_walkback.proofs.step_makes.Goals.{After-there-1, Else-there-eq-NO_WALK}
use Rattle.decide_walkback.proofs.step_makes.Goals as goal

pub returns-then-t-v : goal.returns-then-t-v
returns-then-t-v c =
    ends_elsewhere c.args.old.now c.args.v c.args.z c.args.t c.if-t-v.true

-- what was read from the row
read : (c : After-there-1) → SFits w64 (entry c.args.old.now c.args.t.from)
read c = record { sfits = c.there-1.given }

pub returns-then-there-eq-NO_WALK : goal.returns-then-there-eq-NO_WALK
returns-then-there-eq-NO_WALK c =
    starts_nowhere c.args.old.now c.args.v c.args.z c.args.t c.if-t-v.false (sym (to_z-of_z (read (goal.at.returns-then-there-eq-NO_WALK c).After-there-1)) ∙ ap (to_z w64) c.if-there-eq-NO_WALK.true)

-- beyond the tests: the entry is a number
module _ (c : Else-there-eq-NO_WALK) where
  abbrev there : ℤ
  there = entry c.args.old.now c.args.t.from

  abbrev weight : ℤ
  weight = c.args.t.weight

  known : there ≡ absent_greatest → ⊥
  known e = c.if-there-eq-NO_WALK.false (ap (of_z w64) e)

  fits : SFits w64 (there +ℤ weight)
  fits = sum_fits there weight (c.requires.1 known) c.requires.2

  sum_is : to_z w64 (of_z w64 there) +ℤ to_z w64 (of_z w64 weight) ≡ there +ℤ weight
  sum_is = rw (to_z-of_z (read (goal.at.Else-there-eq-NO_WALK c).After-there-1), to_z-of_z (weight_fits weight c.requires.2))

pub returns : goal.returns
returns c =
    rw (sum_is (goal.at.returns c).Else-there-eq-NO_WALK) (eqb_bits (fits (goal.at.returns c).Else-there-eq-NO_WALK) c.ranges.z ∙ sums c.args.old.now c.args.v c.args.z c.args.t c.if-t-v.false (known (goal.at.returns c).Else-there-eq-NO_WALK))
