-- `engine_closed_walk::mark_at_step` meets its contract: the sum fits, and what is stored is small.
use mathlib.Core.Path.{◌≡◌, sym, subst}
use mathlib.Core.List.{List}
use Prim.Native.Nat.{◌+◌, ◌<◌}
use native.Mathlib.Omega.{arith}
use borrow.Author.Rules.{rules}
use lib.IntN.{ℤ, ◌+ℤ◌}
use lib.ListN.{length, length-set}
use mir.Syntax.{w64}
use mir.Val.{SFits, to_z, of_z}
use mir.Facts.{to_z-of_z}
use Rattle.integers.specs.Integer.{Within}
use Rattle.integers.proofs.Halving.{test_yes}
use Rattle.lines.specs.Line.{number}
use Rattle.steps.specs.declared.Step.{Step}
use Rattle.steps.specs.Step.{max_weight}
use Rattle.decide_rows.specs.Read.{weight_fits}
use Rattle.engine_packed_steps.specs.Steps.{step_in_lem}
use Rattle.engine_closed_walk.specs.Passes.{step_ready, sum_fits, sum_small, passed_store, passed_none}
use Rattle.engine_closed_walk.proofs.mark_at_step.Goals.{After-mark-1, After-read_step-step, After-struct_told-1}
use Rattle.engine_closed_walk.proofs.mark_at_step.Goals as goal

pub read_step-step-requires : goal.read_step-step-requires
read_step-step-requires c = step_ready c.requires

-- the step that was read
module _ (c : After-read_step-step) where
  abbrev work : List ℤ
  work = c.args.work.now

  abbrev step : Step
  step = c.read_step-step.result

  abbrev is : step ≡ step_in_lem work c.args.i
  is = c.read_step-step.ensures

  from_lt : step.from < c.args.size
  from_lt = subst (λ (t : Step). t.from < c.args.size) (sym is) c.requires.ok.from_lt

  to_lt : step.to < c.args.size
  to_lt = subst (λ (t : Step). t.to < c.args.size) (sym is) c.requires.ok.to_lt

  light : Within max_weight step.weight
  light = subst (λ (t : Step). Within max_weight t.weight) (sym is) c.requires.ok.light

  weight_is : to_z w64 (of_z w64 step.weight) ≡ step.weight
  weight_is = to_z-of_z (weight_fits _ light)

  from_in : c.args.row + step.from < length work
  from_in = omega (arith, from_lt, c.requires.room)

  to_in : c.args.row + step.to < length work
  to_in = omega (arith, to_lt, c.requires.room)

-- row and sum
module _ (c : After-struct_told-1) where
  abbrev start_number : ℤ
  start_number = number (work (goal.at.After-struct_told-1 c).After-read_step-step) (c.args.row + (step (goal.at.After-struct_told-1 c).After-read_step-step).from)

  read : to_z w64 (of_z w64 start_number) ≡ start_number
  read = to_z-of_z {w = w64} (record { sfits = c.sum-1.given })

  abbrev sum : ℤ
  sum = start_number +ℤ (step (goal.at.After-struct_told-1 c).After-read_step-step).weight

  fits : SFits w64 sum
  fits = sum_fits _ _ (c.requires.small (step (goal.at.After-struct_told-1 c).After-read_step-step).from (from_lt (goal.at.After-struct_told-1 c).After-read_step-step)) (light (goal.at.After-struct_told-1 c).After-read_step-step)

  sum_is : to_z w64 (of_z w64 (to_z w64 (of_z w64 start_number) +ℤ to_z w64 (of_z w64 (step (goal.at.After-struct_told-1 c).After-read_step-step).weight))) ≡ sum
  sum_is = rw (read, weight_is (goal.at.After-struct_told-1 c).After-read_step-step) (to_z-of_z fits)

pub overflow_add-sum : goal.overflow_add-sum
overflow_add-sum c = let h = from_in c in search rules

pub offset_bounds-work-row : goal.offset_bounds-work-row
offset_bounds-work-row c = let h = from_in c in search rules

pub overflow_add-sum-2 : goal.overflow_add-sum-2
overflow_add-sum-2 c = rw (read c, weight_is (goal.at.overflow_add-sum-2 c).After-read_step-step) (fits c)

pub overflow_add-entry : goal.overflow_add-entry
overflow_add-entry c = let h = to_in (goal.at.overflow_add-entry c).After-read_step-step in search rules

pub offset_bounds-work-row-2 : goal.offset_bounds-work-row-2
offset_bounds-work-row-2 c = let h = to_in (goal.at.offset_bounds-work-row-2 c).After-read_step-step in search rules

pub overflow_add-sum-then-sum-gt-LOWEST_MARK : goal.overflow_add-sum-then-sum-gt-LOWEST_MARK
overflow_add-sum-then-sum-gt-LOWEST_MARK c = let h = to_in (goal.at.overflow_add-sum-then-sum-gt-LOWEST_MARK c).After-read_step-step in search rules

pub offset_bounds-work-row-then-sum-gt-LOWEST_MARK : goal.offset_bounds-work-row-then-sum-gt-LOWEST_MARK
offset_bounds-work-row-then-sum-gt-LOWEST_MARK c = let h = to_in (goal.at.offset_bounds-work-row-then-sum-gt-LOWEST_MARK c).After-read_step-step in search rules

-- the sum is below the entry, and not too low
module _ (c : After-mark-1) where
  mark_in : c.args.row + c.args.size + (step (goal.at.After-mark-1 c).After-read_step-step).to < length (work (goal.at.After-mark-1 c).After-read_step-step)
  mark_in = omega (arith, to_lt (goal.at.After-mark-1 c).After-read_step-step, c.requires.room)

pub overflow_add-mark-then-sum-gt-LOWEST_MARK : goal.overflow_add-mark-then-sum-gt-LOWEST_MARK
overflow_add-mark-then-sum-gt-LOWEST_MARK c = let h = mark_in c in search rules

pub offset_bounds-work-row-then-sum-gt-LOWEST_MARK-2 : goal.offset_bounds-work-row-then-sum-gt-LOWEST_MARK-2
offset_bounds-work-row-then-sum-gt-LOWEST_MARK-2 c = let h = mark_in c in search rules

pub bounds-work-row-then-sum-gt-LOWEST_MARK : goal.bounds-work-row-then-sum-gt-LOWEST_MARK
bounds-work-row-then-sum-gt-LOWEST_MARK c = simp length-set (mark_in c)

pub returns-then-sum-gt-LOWEST_MARK : goal.returns-then-sum-gt-LOWEST_MARK
returns-then-sum-gt-LOWEST_MARK c =
    let z = to_z-of_z {w = w64} {z = number (work (goal.at.returns-then-sum-gt-LOWEST_MARK c).After-read_step-step) (c.args.row + (step (goal.at.returns-then-sum-gt-LOWEST_MARK c).After-read_step-step).to)} (record { sfits = c.entry-1.given }) in
    rw (sum_is (goal.at.returns-then-sum-gt-LOWEST_MARK c).After-struct_told-1)
    (passed_store c.args.row c.args.size (step (goal.at.returns-then-sum-gt-LOWEST_MARK c).After-read_step-step).to (work (goal.at.returns-then-sum-gt-LOWEST_MARK c).After-read_step-step) c.requires.room (to_lt (goal.at.returns-then-sum-gt-LOWEST_MARK c).After-read_step-step) c.requires.small _ _
    (sum_small _ _ (test_yes _ _ (rw (sum_is (goal.at.returns-then-sum-gt-LOWEST_MARK c).After-struct_told-1, z) at c.if-sum-entry.true)) (test_yes _ _ (rw (sum_is (goal.at.returns-then-sum-gt-LOWEST_MARK c).After-struct_told-1) at c.if-sum-gt-LOWEST_MARK.true)) (c.requires.small (step (goal.at.returns-then-sum-gt-LOWEST_MARK c).After-read_step-step).to (to_lt (goal.at.returns-then-sum-gt-LOWEST_MARK c).After-read_step-step))))

pub returns-else-sum-gt-LOWEST_MARK : goal.returns-else-sum-gt-LOWEST_MARK
returns-else-sum-gt-LOWEST_MARK c = passed_none c.args.row c.args.size c.args.last c.args.work.now c.requires.small c.requires.within

pub returns-else-sum-entry : goal.returns-else-sum-entry
returns-else-sum-entry c = passed_none c.args.row c.args.size c.args.last c.args.work.now c.requires.small c.requires.within
