-- `engine_closed_walk::follow_back` meets its contract. The invariant: the numbers from the slot on name a walk from `at` to v.
use Rattle.std.specs.Prelude.{Some}
use mathlib.Core.Path.{◌≡◌, refl, sym, ◌∙◌}
use Prim.Native.Nat.{ℕ, ◌*◌, ◌-◌, ◌<◌}
use native.Mathlib.Omega.{arith}
use borrow.Author.Rules.{rules}
use lib.IntN.{ℤ, pos, ◌+ℤ◌}
use lib.ListN.{length, set, length-set}
use mir.Syntax.{w64}
use mir.Val.{SFits, to_z, of_z}
use mir.Facts.{to_z-of_z, to_z_pos}
use Rattle.lines.specs.Limits.{max_variables, work_lines}
use Rattle.lines.specs.Valid.{lines_more}
use Rattle.steps.specs.declared.Step.{Step}
use Rattle.steps.specs.Step.{step_numbered_lem}
use Rattle.decide_rows.specs.Numbers.{numbered_ok}
use Rattle.decide_rows.specs.Read.{weight_fits}
use Rattle.engine_closed_walk.specs.Follow.{Following, following_start, following_fits, following_below, following_more, followed_nowhere, followed_to, slot_in}
use Rattle.engine_closed_walk.proofs.follow_back.Goals.{In-Some}
use Rattle.engine_closed_walk.proofs.follow_back.Goals as goal

pub loop-slot-init : goal.loop-slot-init
loop-slot-init entered = (refl, following_start _ _ _ _ _ entered.requires)

pub number_back-number-requires : goal.number_back-number-requires
number_back-number-requires call =
    let ready = call.requires in
    record { few = ready.few; valid = ready.valid; room = omega (arith, ready.room, call.loop-slot.invariant.0, call.loop-slot.invariant.1.at_lt, call.row_at.ensures) }

pub step_numbered-requires : goal.step_numbered-requires
step_numbered-requires call =
    lines_more call.args.n max_variables call.args.list.now call.requires.few call.requires.valid _

pub returns-in_default : goal.returns-in_default
returns-in_default exit =
    followed_nowhere _ _ _ _ _ exit.requires _ _ exit.loop-slot.invariant.1.scratch

-- the step that was found
module _ (found : In-Some) where
  abbrev number : ℕ
  number = found.number_back-number.result

  abbrev step : Step
  step = found.in-Some.t

  abbrev sum : ℤ
  sum = to_z w64 found.loop-slot.sum-bits

  is : step_numbered_lem found.args.list.now number ≡ Some step
  is = sym found.step_numbered.ensures ∙ found.in-Some.is

  low : found.args.end - 2 * found.args.n < found.loop-slot.slot
  low = found.loop-slot-test.true

  weight_is : to_z w64 (of_z w64 step.weight) ≡ step.weight
  weight_is = to_z-of_z (weight_fits _ (numbered_ok found.args.n found.args.list.now found.requires.valid number step is).small)

  fits : SFits w64 (sum +ℤ step.weight)
  fits = following_fits _ _ _ _ _ found.requires _ _ _ _ found.loop-slot.invariant.1 low number step is

  sum_is : to_z w64 (of_z w64 (sum +ℤ to_z w64 (of_z w64 step.weight))) ≡ sum +ℤ step.weight
  sum_is = rw weight_is (to_z-of_z fits)

  below : number < 2 * work_lines
  below = following_below _ _ _ _ _ found.requires _ _ _ _ found.loop-slot.invariant.1 low number step is

  number_is : to_z w64 number ≡ pos number
  number_is = to_z_pos w64 (omega (arith, below))

  more : Following found.args.n found.args.list.now found.args.work.now found.args.v found.args.end (set found.loop-slot.work (found.loop-slot.slot - 1) (pos number)) (found.loop-slot.slot - 1) step.from (sum +ℤ step.weight)
  more = following_more _ _ _ _ _ found.requires _ _ _ _ found.loop-slot.invariant.1 low number step is (found.number_back-number.ensures.ends step is)

  in_area : found.loop-slot.slot - 1 < length found.loop-slot.work
  in_area = omega (arith, low, slot_in _ _ _ _ _ found.requires _ _ _ _ found.loop-slot.invariant.1 low number step is)

pub overflow_cast-work : goal.overflow_cast-work
overflow_cast-work stored = let h = below stored in search rules

pub bounds-work-slot : goal.bounds-work-slot
bounds-work-slot stored = in_area stored

pub overflow_add-sum : goal.overflow_add-sum
overflow_add-sum stored = rw (weight_is (goal.at.overflow_add-sum stored).In-Some) (fits (goal.at.overflow_add-sum stored).In-Some)

pub returns-then-at-u : goal.returns-then-at-u
returns-then-at-u exit =
    rw (number_is (goal.at.returns-then-at-u exit).In-Some, sum_is (goal.at.returns-then-at-u exit).In-Some) (followed_to _ _ _ _ _ exit.requires _ _ _ _ (more (goal.at.returns-then-at-u exit).In-Some) _ exit.if-at-u.true)

pub loop-slot-preserved : goal.loop-slot-preserved
loop-slot-preserved again =
    rw (number_is (goal.at.loop-slot-preserved again).In-Some, sum_is (goal.at.loop-slot-preserved again).In-Some) (length-set again.loop-slot.work (again.loop-slot.slot - 1) (pos (number (goal.at.loop-slot-preserved again).In-Some)) ∙ again.loop-slot.invariant.0, more (goal.at.loop-slot-preserved again).In-Some)

pub returns : goal.returns
returns exit = followed_nowhere _ _ _ _ _ exit.requires _ _ exit.loop-slot.invariant.1.scratch
