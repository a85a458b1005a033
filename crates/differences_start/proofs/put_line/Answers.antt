-- `differences_start::put_line` meets its contract. All that is read is small, so that the sums fit: each number is the one that its bits stand for, and the
-- test is a test of the reduced weight.
use mathlib.Core.Path.{◌≡◌, ap, ◌∙◌}
use mathlib.Core.List.{List}
use Prim.Native.Nat.{ℕ, ◌+◌, ◌*◌, ◌<◌, ◌≤◌}
use native.Mathlib.Omega.{arith}
use borrow.Author.Rules.{rules}
use lib.IntN.{ℤ, ◌+ℤ◌, ◌-ℤ◌}
use mir.Syntax.{w64}
use mir.Val.{SFits, to_z, of_z}
use mir.Facts.{to_z-of_z}
use Rattle.integers.proofs.Bits.{kept}
use Rattle.integers.specs.Integer.{Within}
use Rattle.integers.proofs.Halving.{test_yes, test_no}
use Rattle.lines.specs.Line.{number, line_at}
use Rattle.steps.specs.declared.Step.{Step}
use Rattle.steps.specs.Step.{max_weight}
use Rattle.theory_differences.specs.Plain.{plain_step_lem}
use Rattle.decide_rows.specs.Read.{weight_fits}
use Rattle.engine_reduced_table.specs.Reduced.{max_potential}
use Rattle.engine_reduced_table.specs.Weight.{twice_fits, plus_fits, whole_fits}
use Rattle.differences_lines.specs.PlainList.{plain_at}
use Rattle.differences_rows.specs.Layout.{walk_at_lem}
use Rattle.differences_closing.specs.Entries.{entry_in}
use Rattle.differences_start.specs.Start.{point_of, from_lt, to_lt, to_row, light, start_small, end_small, line_stays, line_put}
use Rattle.differences_start.proofs.put_line.Goals.{After-old-1, After-other-1, After-struct_told-1}
use Rattle.differences_start.proofs.put_line.Goals as goal

pub plain_step-step-requires : goal.plain_step-step-requires
plain_step-step-requires c = plain_at c.requires.0.numbers.plain c.args.k c.requires.1

-- the step that was made, and where the numbers of variables are
module _ (told : After-struct_told-1) where
  abbrev n : ℕ
  n = told.args.n

  abbrev L : List ℤ
  L = told.args.list.now

  abbrev w : List ℤ
  w = told.args.work.now

  abbrev k : ℕ
  k = told.args.k

  abbrev step : Step
  step = told.plain_step-step.result

  is : step ≡ plain_step_lem (line_at L k)
  is = told.plain_step-step.ensures

  from_low : step.from < n
  from_low = from_lt told.requires.0 k told.requires.1 step is

  to_low : step.to < n
  to_low = to_lt told.requires.0 k told.requires.1 step is

  row : step.to * n + n ≤ n * n
  row = to_row told.requires.0 k told.requires.1 step is

  place : told.walk_at-points.result ≡ walk_at_lem n
  place = told.walk_at-points.ensures

  small : Within max_weight step.weight
  small = light told.requires.0 k told.requires.1 step is

  weight_is : to_z w64 (of_z w64 step.weight) ≡ step.weight
  weight_is = to_z-of_z (weight_fits _ small)

  own_small : Within max_potential (point_of n w step.from)
  own_small = start_small told.requires.0 k told.requires.1 step is

  other_small : Within max_potential (point_of n w step.to)
  other_small = end_small told.requires.0 k told.requires.1 step is

-- and the numbers of its ends
module _ (read : After-other-1) where
  abbrev points : ℕ
  points = read.walk_at-points.result

  abbrev v : ℤ
  v = read.plain_step-step.result.weight

  abbrev own : ℤ
  own = point_of read.args.n read.args.work.now read.plain_step-step.result.from

  abbrev other : ℤ
  other = point_of read.args.n read.args.work.now read.plain_step-step.result.to

  own_is : to_z w64 (of_z w64 (number read.args.work.now (points + read.plain_step-step.result.from))) ≡ own
  own_is = kept w64 _ read.own-1.given ∙ ap (λ (p : ℕ). number read.args.work.now (p + read.plain_step-step.result.from)) (place (goal.at.After-other-1 read).After-struct_told-1)

  other_is : to_z w64 (of_z w64 (number read.args.work.now (points + read.plain_step-step.result.to))) ≡ other
  other_is = kept w64 _ read.other-1.given ∙ ap (λ (p : ℕ). number read.args.work.now (p + read.plain_step-step.result.to)) (place (goal.at.After-other-1 read).After-struct_told-1)

  -- the sums
  twice : SFits w64 (v +ℤ v)
  twice = twice_fits v (small (goal.at.After-other-1 read).After-struct_told-1)

  plus : SFits w64 ((v +ℤ v) +ℤ own)
  plus =
      let told = (goal.at.After-other-1 read).After-struct_told-1 in
      plus_fits v own (small told) (own_small told)

  whole : SFits w64 (((v +ℤ v) +ℤ own) -ℤ other)
  whole =
      let told = (goal.at.After-other-1 read).After-struct_told-1 in
      whole_fits v own other (small told) (own_small told) (other_small told)

pub overflow_add-own : goal.overflow_add-own
overflow_add-own told = let h = from_low told in search rules

pub offset_bounds-work-points : goal.offset_bounds-work-points
offset_bounds-work-points told = let h = from_low told in search rules

pub slice_copy_out-own : goal.slice_copy_out-own
slice_copy_out-own told = let h = from_low told in search rules

pub overflow_add-other : goal.overflow_add-other
overflow_add-other c = let h = to_low (goal.at.overflow_add-other c).After-struct_told-1 in search rules

pub offset_bounds-work-points-2 : goal.offset_bounds-work-points-2
offset_bounds-work-points-2 c = let h = to_low (goal.at.offset_bounds-work-points-2 c).After-struct_told-1 in search rules

pub slice_copy_out-other : goal.slice_copy_out-other
slice_copy_out-other c = let h = to_low (goal.at.slice_copy_out-other c).After-struct_told-1 in search rules

pub overflow_add-z : goal.overflow_add-z
overflow_add-z read = rw (weight_is (goal.at.overflow_add-z read).After-struct_told-1) (twice read)

pub overflow_add-z-2 : goal.overflow_add-z-2
overflow_add-z-2 read = rw (weight_is (goal.at.overflow_add-z-2 read).After-struct_told-1, to_z-of_z (twice read), own_is read) (plus read)

pub overflow_sub-z : goal.overflow_sub-z
overflow_sub-z read = rw (weight_is (goal.at.overflow_sub-z read).After-struct_told-1, to_z-of_z (twice read), own_is read, to_z-of_z (plus read), other_is read) (whole read)

pub overflow_mul-at : goal.overflow_mul-at
overflow_mul-at read = record { fits = omega (arith, row (goal.at.overflow_mul-at read).After-struct_told-1, read.requires.0.numbers.room) }

pub overflow_add-at : goal.overflow_add-at
overflow_add-at read =
    let told = (goal.at.overflow_add-at read).After-struct_told-1 in
    record { fits = omega (arith, row told, from_low told, read.requires.0.numbers.room) }

pub offset_bounds-work-at : goal.offset_bounds-work-at
offset_bounds-work-at read =
    let told = (goal.at.offset_bounds-work-at read).After-struct_told-1 in
    record { fits = omega (arith, row told, from_low told, read.requires.0.numbers.room) }

pub slice_copy_out-old : goal.slice_copy_out-old
slice_copy_out-old read =
    let told = (goal.at.slice_copy_out-old read).After-struct_told-1 in
    omega (arith, row told, from_low told, read.requires.0.numbers.room)

pub offset_bounds-work-at-then-z-old : goal.offset_bounds-work-at-then-z-old
offset_bounds-work-at-then-z-old c =
    let told = (goal.at.offset_bounds-work-at-then-z-old c).After-struct_told-1 in
    record { fits = omega (arith, row told, from_low told, c.requires.0.numbers.room) }

pub bounds-work-at : goal.bounds-work-at
bounds-work-at c =
    let told = (goal.at.bounds-work-at c).After-struct_told-1 in
    omega (arith, row told, from_low told, c.requires.0.numbers.room)

-- what stands there
module _ (c : After-old-1) where
  old_is : to_z w64 (of_z w64 (entry_in c.args.n c.args.work.now c.plain_step-step.result.from c.plain_step-step.result.to)) ≡ entry_in c.args.n c.args.work.now c.plain_step-step.result.from c.plain_step-step.result.to
  old_is = kept w64 _ c.old-1.given

pub returns-then-z-old : goal.returns-then-z-old
returns-then-z-old c =
    let told = (goal.at.returns-then-z-old c).After-struct_told-1 in
    let read = (goal.at.returns-then-z-old c).After-other-1 in
    rw (weight_is told, to_z-of_z (twice read), own_is read, to_z-of_z (plus read), other_is read, to_z-of_z (whole read))
    (line_put c.requires.0 c.args.k c.requires.1 c.plain_step-step.result (is told)
    (test_yes _ _ (rw (weight_is told, to_z-of_z (twice read), own_is read, to_z-of_z (plus read), other_is read, to_z-of_z (whole read), old_is (goal.at.returns-then-z-old c).After-old-1) at c.if-z-old.true)))

pub returns-else-z-old : goal.returns-else-z-old
returns-else-z-old c =
    let told = (goal.at.returns-else-z-old c).After-struct_told-1 in
    let read = (goal.at.returns-else-z-old c).After-other-1 in
    line_stays c.requires.0 c.args.k c.requires.1 c.plain_step-step.result (is told)
    (test_no _ _ (rw (weight_is told, to_z-of_z (twice read), own_is read, to_z-of_z (plus read), other_is read, to_z-of_z (whole read), old_is (goal.at.returns-else-z-old c).After-old-1) at c.if-z-old.false))
