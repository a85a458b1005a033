-- `engine_closed_walk::is_potential` meets its contract. The invariant: no step before i lowers the row.
use mathlib.Core.Path.{◌≡◌, sym, subst}
use mathlib.Core.List.{List}
use Prim.Native.Nat.{◌+◌, ◌<◌}
use native.Mathlib.Omega.{arith}
use borrow.Author.Rules.{rules}
use lib.IntN.{ℤ, ◌+ℤ◌}
use lib.ListN.{length}
use mir.Syntax.{w64}
use mir.Val.{SFits, to_z, of_z}
use mir.Facts.{to_z-of_z}
use Rattle.integers.specs.Integer.{Within}
use Rattle.integers.specs.Laws.{never}
use Rattle.lines.specs.Line.{number}
use Rattle.steps.specs.declared.Step.{Step}
use Rattle.steps.specs.Step.{max_weight}
use Rattle.decide_rows.specs.Read.{weight_fits}
use Rattle.engine_packed_steps.specs.Steps.{step_in_lem, read_ready}
use Rattle.engine_closed_walk.specs.Passes.{sum_fits}
use Rattle.engine_closed_walk.specs.Potential.{Keeps, kept_none, kept_more, kept_clear, not_lower}
use Rattle.engine_closed_walk.proofs.is_potential.Goals.{After-read_step-step, After-struct_told-1}
use Rattle.engine_closed_walk.proofs.is_potential.Goals as goal

pub loop-i-init : goal.loop-i-init
loop-i-init c = (omega arith, kept_none c.args.row c.args.work.now)

pub read_step-step-requires : goal.read_step-step-requires
read_step-step-requires c = read_ready c.requires.steps c.loop-i.i c.loop-i-test.true

-- the step that was read
module _ (c : After-read_step-step) where
  abbrev work : List ℤ
  work = c.args.work.now

  abbrev step : Step
  step = c.read_step-step.result

  abbrev is : step ≡ step_in_lem work c.loop-i.i
  is = c.read_step-step.ensures

  from_lt : step.from < c.args.size
  from_lt = subst (λ (t : Step). t.from < c.args.size) (sym is) (c.requires.steps.ok c.loop-i.i c.loop-i-test.true).from_lt

  to_lt : step.to < c.args.size
  to_lt = subst (λ (t : Step). t.to < c.args.size) (sym is) (c.requires.steps.ok c.loop-i.i c.loop-i-test.true).to_lt

  light : Within max_weight step.weight
  light = subst (λ (t : Step). Within max_weight t.weight) (sym is) (c.requires.steps.ok c.loop-i.i c.loop-i-test.true).light

  weight_is : to_z w64 (of_z w64 step.weight) ≡ step.weight
  weight_is = to_z-of_z (weight_fits _ light)

  from_in : c.args.row + step.from < length work
  from_in = omega (arith, from_lt, c.requires.steps.room)

  to_in : c.args.row + step.to < length work
  to_in = omega (arith, to_lt, c.requires.steps.room)

pub overflow_add-sum : goal.overflow_add-sum
overflow_add-sum c = let h = from_in c in search rules

pub offset_bounds-work-row : goal.offset_bounds-work-row
offset_bounds-work-row c = let h = from_in c in search rules

-- the sum
module _ (c : After-struct_told-1) where
  abbrev start_number : ℤ
  start_number = number (work (goal.at.After-struct_told-1 c).After-read_step-step) (c.args.row + (step (goal.at.After-struct_told-1 c).After-read_step-step).from)

  read : to_z w64 (of_z w64 start_number) ≡ start_number
  read = to_z-of_z {w = w64} (record { sfits = c.sum-1.given })

  fits : SFits w64 (start_number +ℤ (step (goal.at.After-struct_told-1 c).After-read_step-step).weight)
  fits = sum_fits _ _ (c.requires.small (step (goal.at.After-struct_told-1 c).After-read_step-step).from (from_lt (goal.at.After-struct_told-1 c).After-read_step-step)) (light (goal.at.After-struct_told-1 c).After-read_step-step)

  sum_is : to_z w64 (of_z w64 (to_z w64 (of_z w64 start_number) +ℤ to_z w64 (of_z w64 (step (goal.at.After-struct_told-1 c).After-read_step-step).weight))) ≡ start_number +ℤ (step (goal.at.After-struct_told-1 c).After-read_step-step).weight
  sum_is = rw (read, weight_is (goal.at.After-struct_told-1 c).After-read_step-step) (to_z-of_z fits)

pub overflow_add-sum-in-loop-i : goal.overflow_add-sum-in-loop-i
overflow_add-sum-in-loop-i c = rw (read c, weight_is (goal.at.overflow_add-sum-in-loop-i c).After-read_step-step) (fits c)

pub overflow_add-entry : goal.overflow_add-entry
overflow_add-entry c = let h = to_in (goal.at.overflow_add-entry c).After-read_step-step in search rules

pub offset_bounds-work-row-in-loop-i : goal.offset_bounds-work-row-in-loop-i
offset_bounds-work-row-in-loop-i c = let h = to_in (goal.at.offset_bounds-work-row-in-loop-i c).After-read_step-step in search rules

pub loop-i-preserved : goal.loop-i-preserved
loop-i-preserved c =
    let z = to_z-of_z {w = w64} {z = number (work (goal.at.loop-i-preserved c).After-read_step-step) (c.args.row + (step (goal.at.loop-i-preserved c).After-read_step-step).to)} (record { sfits = c.entry-1.given }) in
    let k : Keeps c.args.row (work (goal.at.loop-i-preserved c).After-read_step-step) (step (goal.at.loop-i-preserved c).After-read_step-step) = not_lower _ _ (rw (sum_is (goal.at.loop-i-preserved c).After-struct_told-1, z) at c.if-sum-entry.false) in
    (omega (arith, c.loop-i-test.true), kept_more c.loop-i.invariant.1 (subst (Keeps c.args.row (work (goal.at.loop-i-preserved c).After-read_step-step)) (is (goal.at.loop-i-preserved c).After-read_step-step) k))

pub returns-then-sum-entry : goal.returns-then-sum-entry
returns-then-sum-entry c z = never (cc)

pub returns : goal.returns
returns c z =
    let e : c.loop-i.i ≡ c.args.count = omega (arith, c.loop-i.invariant.0, c.loop-i-test.false) in
    kept_clear c.args.row c.args.count c.args.size c.args.work.now (rw e at c.loop-i.invariant.1)
