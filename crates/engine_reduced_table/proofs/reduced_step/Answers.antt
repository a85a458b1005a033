-- `engine_reduced_table::reduced_step` meets its contract. All that is read is small, so that the sums fit: each number is
use mathlib.Core.Path.{◌≡◌}
use Prim.Native.Nat.{◌+◌, ◌<◌}
use lib.IntN.{ℤ, ◌+ℤ◌, ◌-ℤ◌}
use mir.Syntax.{w64}
use mir.Val.{to_z, of_z}
use mir.Facts.{to_z-of_z}
use Rattle.integers.specs.Integer.{Within}
use Rattle.integers.proofs.Halving.{test_yes, test_no}
use Rattle.lines.specs.Line.{number}
use Rattle.steps.specs.declared.Step.{Step}
use Rattle.steps.specs.Step.{max_weight}
use Rattle.decide_rows.specs.Read.{weight_fits}
use Rattle.engine_reduced_table.specs.Reduced.{max_potential}
use Rattle.engine_reduced_table.specs.Weight.{reduced_none, reduced_entry, step_read, from_lt, to_lt, light, start_small, end_small, on_reduced, twice_fits, plus_fits, whole_fits}
use borrow.Author.Rules.{rules}
use Rattle.engine_reduced_table.proofs.reduced_step.Goals.{After-b-1, After-read_step-step}
use Rattle.engine_reduced_table.proofs.reduced_step.Goals as goal

-- the one that its bits stand for, and the tests are tests of the reduced weight.
-- the step that was read
module _ (read : After-read_step-step) where
  abbrev step : Step
  step = read.read_step-step.result

  from_low : step.from < read.args.size
  from_low = from_lt read.requires.0 read.args.i read.requires.1 step read.read_step-step.ensures

  to_low : step.to < read.args.size
  to_low = to_lt read.requires.0 read.args.i read.requires.1 step read.read_step-step.ensures

  small : Within max_weight step.weight
  small = light read.requires.0 read.args.i read.requires.1 step read.read_step-step.ensures

  weight_is : to_z w64 (of_z w64 step.weight) ≡ step.weight
  weight_is = to_z-of_z (weight_fits _ small)

-- and the numbers of its points
module _ (numbers : After-b-1) where
  abbrev v : ℤ
  v = (step (goal.at.After-b-1 numbers).After-read_step-step).weight

  abbrev a : ℤ
  a = number numbers.args.work.now (numbers.args.pot + (step (goal.at.After-b-1 numbers).After-read_step-step).from)

  abbrev b : ℤ
  b = number numbers.args.work.now (numbers.args.pot + (step (goal.at.After-b-1 numbers).After-read_step-step).to)

  a_is : to_z w64 (of_z w64 a) ≡ a
  a_is = to_z-of_z {w = w64} (record { sfits = numbers.a-1.given })

  b_is : to_z w64 (of_z w64 b) ≡ b
  b_is = to_z-of_z {w = w64} (record { sfits = numbers.b-1.given })

  a_small : Within max_potential a
  a_small = start_small numbers.requires.0 numbers.args.i numbers.requires.1 (step (goal.at.After-b-1 numbers).After-read_step-step) numbers.read_step-step.ensures

  b_small : Within max_potential b
  b_small = end_small numbers.requires.0 numbers.args.i numbers.requires.1 (step (goal.at.After-b-1 numbers).After-read_step-step) numbers.read_step-step.ensures

  twice_is : to_z w64 (of_z w64 (v +ℤ v)) ≡ v +ℤ v
  twice_is = to_z-of_z (twice_fits v (small (goal.at.After-b-1 numbers).After-read_step-step))

  plus_is : to_z w64 (of_z w64 ((v +ℤ v) +ℤ a)) ≡ (v +ℤ v) +ℤ a
  plus_is = to_z-of_z (plus_fits v a (small (goal.at.After-b-1 numbers).After-read_step-step) a_small)

  whole_is : to_z w64 (of_z w64 (((v +ℤ v) +ℤ a) -ℤ b)) ≡ ((v +ℤ v) +ℤ a) -ℤ b
  whole_is = to_z-of_z (whole_fits v a b (small (goal.at.After-b-1 numbers).After-read_step-step) a_small b_small)

pub read_step-step-requires : goal.read_step-step-requires
read_step-step-requires start = step_read start.requires.0 _ start.requires.1

pub overflow_add-a : goal.overflow_add-a
overflow_add-a weight = let h = from_low (goal.at.overflow_add-a weight).After-read_step-step in search rules

pub offset_bounds-work-pot : goal.offset_bounds-work-pot
offset_bounds-work-pot weight = let h = from_low (goal.at.offset_bounds-work-pot weight).After-read_step-step in search rules

pub bounds-work-pot : goal.bounds-work-pot
bounds-work-pot weight = let h = from_low (goal.at.bounds-work-pot weight).After-read_step-step in search rules

pub overflow_add-b : goal.overflow_add-b
overflow_add-b first = let h = to_low (goal.at.overflow_add-b first).After-read_step-step in search rules

pub offset_bounds-work-pot-2 : goal.offset_bounds-work-pot-2
offset_bounds-work-pot-2 first = let h = to_low (goal.at.offset_bounds-work-pot-2 first).After-read_step-step in search rules

pub bounds-work-pot-2 : goal.bounds-work-pot-2
bounds-work-pot-2 first = let h = to_low (goal.at.bounds-work-pot-2 first).After-read_step-step in search rules

pub overflow_add-z : goal.overflow_add-z
overflow_add-z numbers = rw (weight_is (goal.at.overflow_add-z numbers).After-read_step-step) (twice_fits _ (small (goal.at.overflow_add-z numbers).After-read_step-step))

pub overflow_add-z-2 : goal.overflow_add-z-2
overflow_add-z-2 numbers = rw (weight_is (goal.at.overflow_add-z-2 numbers).After-read_step-step, twice_is numbers, a_is numbers) (plus_fits _ _ (small (goal.at.overflow_add-z-2 numbers).After-read_step-step) (a_small numbers))

pub overflow_sub-z : goal.overflow_sub-z
overflow_sub-z numbers = rw (weight_is (goal.at.overflow_sub-z numbers).After-read_step-step, twice_is numbers, a_is numbers, plus_is numbers, b_is numbers) (whole_fits _ _ _ (small (goal.at.overflow_sub-z numbers).After-read_step-step) (a_small numbers) (b_small numbers))

pub returns-then-negative : goal.returns-then-negative
returns-then-negative negative = reduced_none _ _ _ _ _

pub returns-then-z-lt-FAR : goal.returns-then-z-lt-FAR
returns-then-z-lt-FAR near =
    rw (weight_is (goal.at.returns-then-z-lt-FAR near).After-read_step-step, twice_is (goal.at.returns-then-z-lt-FAR near).After-b-1, a_is (goal.at.returns-then-z-lt-FAR near).After-b-1, plus_is (goal.at.returns-then-z-lt-FAR near).After-b-1, b_is (goal.at.returns-then-z-lt-FAR near).After-b-1, whole_is (goal.at.returns-then-z-lt-FAR near).After-b-1)
    (reduced_entry (on_reduced near.requires.0 near.args.i near.requires.1 (step (goal.at.returns-then-z-lt-FAR near).After-read_step-step) near.read_step-step.ensures
    (test_no _ _ (rw (weight_is (goal.at.returns-then-z-lt-FAR near).After-read_step-step, twice_is (goal.at.returns-then-z-lt-FAR near).After-b-1, a_is (goal.at.returns-then-z-lt-FAR near).After-b-1, plus_is (goal.at.returns-then-z-lt-FAR near).After-b-1, b_is (goal.at.returns-then-z-lt-FAR near).After-b-1, whole_is (goal.at.returns-then-z-lt-FAR near).After-b-1) at near.if-negative.false))
    (test_yes _ _ (rw (weight_is (goal.at.returns-then-z-lt-FAR near).After-read_step-step, twice_is (goal.at.returns-then-z-lt-FAR near).After-b-1, a_is (goal.at.returns-then-z-lt-FAR near).After-b-1, plus_is (goal.at.returns-then-z-lt-FAR near).After-b-1, b_is (goal.at.returns-then-z-lt-FAR near).After-b-1, whole_is (goal.at.returns-then-z-lt-FAR near).After-b-1) at near.if-z-lt-FAR.true))))

pub returns : goal.returns
returns distant = reduced_none _ _ _ _ _
