-- `session_line::both_stay` meets its contract, in each of its five ways.
use Rattle.std.specs.Prelude.{None, Option, Some}
use mathlib.Core.Path.{◌≡◌, sym, ◌∙◌}
use mathlib.Core.List.{List}
use Prim.Native.Nat.{◌+◌, ◌*◌}
use borrow.Author.Tests.{not-true, not-false}
use lib.IntN.{ℤ}
use Rattle.lines.specs.Limits.{max_variables}
use Rattle.lines.specs.Valid.{lines_more}
use Rattle.steps.specs.declared.Step.{Step}
use Rattle.steps.specs.Step.{step_numbered_lem}
use Rattle.theory_bounds.specs.Tight.{Table}
use Rattle.decide_rows.specs.Numbers.{StepOk, numbered_ok}
use Rattle.session_step.specs.Read.{small_table}
use Rattle.session_line.specs.Both.{both_no, both_one, both_two, both_other, both_none}
use mathlib.Core.Bool.{not}
use mathlib.Core.Path.{ap}
use Rattle.session_line.proofs.both_stay.Goals.{After-step_numbered-second, In-Some, In-Some-second, In_default}
use Rattle.session_line.proofs.both_stay.Goals as goal

pub step_numbered-first-requires : goal.step_numbered-first-requires
step_numbered-first-requires c = lines_more c.args.n max_variables c.args.list.now c.requires.0.variables c.requires.1 _

pub step_numbered-second-requires : goal.step_numbered-second-requires
step_numbered-second-requires c = lines_more c.args.n max_variables c.args.list.now c.requires.0.variables c.requires.1 _

-- the two steps that the numbers name
module _ (c : After-step_numbered-second) where
  abbrev L : List ℤ
  L = c.args.list.now

  abbrev D : Table
  D = small_table (2 * c.args.n) c.args.table.now

  abbrev x : Option Step
  x = step_numbered_lem L (2 * c.args.k)

  abbrev y : Option Step
  y = step_numbered_lem L (2 * c.args.k + 1)

  x_is : {z : Option Step} → c.step_numbered-first.result ≡ z → x ≡ z
  x_is e = sym c.step_numbered-first.ensures ∙ e

  y_is : {z : Option Step} → c.step_numbered-second.result ≡ z → y ≡ z
  y_is e = sym c.step_numbered-second.ensures ∙ e

  x_ready : (a : Step) → x ≡ Some a → StepOk c.args.n a
  x_ready a e = numbered_ok c.args.n L c.requires.1 (2 * c.args.k) a e

  y_ready : (b : Step) → y ≡ Some b → StepOk c.args.n b
  y_ready b e = numbered_ok c.args.n L c.requires.1 (2 * c.args.k + 1) b e

-- the first is there
module _ (c : In-Some) where
  abbrev a : Step
  a = c.in-Some.a

  a_is : x (goal.at.In-Some c).After-step_numbered-second ≡ Some a
  a_is = x_is (goal.at.In-Some c).After-step_numbered-second c.in-Some.is

pub stays-requires : goal.stays-requires
stays-requires c = (c.requires.0, x_ready (goal.at.stays-requires c).After-step_numbered-second (a c) (a_is c))

pub returns-then-not-stays : goal.returns-then-not-stays
returns-then-not-stays c =
    both_no (D (goal.at.returns-then-not-stays c).After-step_numbered-second) (x (goal.at.returns-then-not-stays c).After-step_numbered-second) (y (goal.at.returns-then-not-stays c).After-step_numbered-second) (a (goal.at.returns-then-not-stays c).In-Some) (a_is (goal.at.returns-then-not-stays c).In-Some) (sym c.stays.ensures ∙ not-true _ (ap not c.if-not-stays.true))

-- and closes no walk of negative sum; the second is there
module _ (c : In-Some-second) where
  abbrev b : Step
  b = c.in-Some-second.b

  b_is : y (goal.at.In-Some-second c).After-step_numbered-second ≡ Some b
  b_is = y_is (goal.at.In-Some-second c).After-step_numbered-second c.in-Some-second.is

pub stays_after-requires : goal.stays_after-requires
stays_after-requires c =
    (c.requires.0, x_ready (goal.at.stays_after-requires c).After-step_numbered-second (a (goal.at.stays_after-requires c).In-Some) (a_is (goal.at.stays_after-requires c).In-Some), y_ready (goal.at.stays_after-requires c).After-step_numbered-second (b c) (b_is c))

pub returns-in-Some-second : goal.returns-in-Some-second
returns-in-Some-second c =
    both_two (D (goal.at.returns-in-Some-second c).After-step_numbered-second) (x (goal.at.returns-in-Some-second c).After-step_numbered-second) (y (goal.at.returns-in-Some-second c).After-step_numbered-second) (a (goal.at.returns-in-Some-second c).In-Some) (a_is (goal.at.returns-in-Some-second c).In-Some) (sym c.stays.ensures ∙ not-false _ (ap not c.if-not-stays.false)) (b (goal.at.returns-in-Some-second c).In-Some-second) (b_is (goal.at.returns-in-Some-second c).In-Some-second) c.stays_after.result c.stays_after.ensures

pub returns-in-Some : goal.returns-in-Some
returns-in-Some c =
    both_one (D (goal.at.returns-in-Some c).After-step_numbered-second) (x (goal.at.returns-in-Some c).After-step_numbered-second) (y (goal.at.returns-in-Some c).After-step_numbered-second) (a (goal.at.returns-in-Some c).In-Some) (a_is (goal.at.returns-in-Some c).In-Some) (sym c.stays.ensures ∙ not-false _ (ap not c.if-not-stays.false)) (y_is (goal.at.returns-in-Some c).After-step_numbered-second c.in_default-second.is)

-- the first is not there
module _ (c : In_default) where
  none_is : x (goal.at.In_default c).After-step_numbered-second ≡ None
  none_is = x_is (goal.at.In_default c).After-step_numbered-second c.in_default.is

pub stays-requires-in-Some-second-2 : goal.stays-requires-in-Some-second-2
stays-requires-in-Some-second-2 c =
    (c.requires.0, y_ready (goal.at.stays-requires-in-Some-second-2 c).After-step_numbered-second _ (y_is (goal.at.stays-requires-in-Some-second-2 c).After-step_numbered-second c.in-Some-second-2.is))

pub returns-in-Some-second-2 : goal.returns-in-Some-second-2
returns-in-Some-second-2 c =
    both_other (D (goal.at.returns-in-Some-second-2 c).After-step_numbered-second) (x (goal.at.returns-in-Some-second-2 c).After-step_numbered-second) (y (goal.at.returns-in-Some-second-2 c).After-step_numbered-second) (none_is (goal.at.returns-in-Some-second-2 c).In_default) _ (y_is (goal.at.returns-in-Some-second-2 c).After-step_numbered-second c.in-Some-second-2.is) c.stays-in-Some-second-2.result c.stays-in-Some-second-2.ensures

pub returns : goal.returns
returns c =
    both_none (D (goal.at.returns c).After-step_numbered-second) (x (goal.at.returns c).After-step_numbered-second) (y (goal.at.returns c).After-step_numbered-second) (none_is (goal.at.returns c).In_default) (y_is (goal.at.returns c).After-step_numbered-second c.in_default-second-2.is)
