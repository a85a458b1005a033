-- `engine_merged_steps::put_step` meets its contract: a step's ends are points, so that its cell is among the cells, and its weight
use Rattle.std.specs.Prelude.{Some}
use mathlib.Core.Path.{◌≡◌, sym, ◌∙◌}
use Prim.Native.Nat.{◌*◌, ◌<◌}
use native.Mathlib.Omega.{arith}
use borrow.Author.Rules.{rules}
use mir.Syntax.{w64}
use mir.Val.{to_z, of_z}
use mir.Facts.{to_z-of_z}
use Rattle.lines.specs.Limits.{max_variables}
use Rattle.lines.specs.Valid.{lines_more}
use Rattle.steps.specs.declared.Step.{Step}
use Rattle.steps.specs.Step.{step_numbered_lem}
use Rattle.decide_rows.specs.Numbers.{StepOk, numbered_ok}
use Rattle.decide_rows.specs.Read.{weight_fits}
use Rattle.engine_merged_steps.specs.Cells.{cell_of, cell_lt, put_found, put_nothing}
use Rattle.engine_merged_steps.proofs.put_step.Goals.{In-Some}
use Rattle.engine_merged_steps.proofs.put_step.Goals as goal

-- is small, so that `packed` may be called.
pub step_numbered-named-requires : goal.step_numbered-named-requires
step_numbered-named-requires c = lines_more c.args.n max_variables c.args.list.now c.requires.few c.requires.valid _

-- the step that was found
module _ (c : In-Some) where
  abbrev step : Step
  step = c.in-Some.t

  is : step_numbered_lem c.args.list.now c.args.number ≡ Some step
  is = sym c.step_numbered-named.ensures ∙ c.in-Some.is

  ok : StepOk c.args.n step
  ok = numbered_ok c.args.n c.args.list.now c.requires.valid c.args.number _ is

  weight_is : to_z w64 (of_z w64 step.weight) ≡ step.weight
  weight_is = to_z-of_z (weight_fits _ ok.small)

  inside : cell_of (2 * c.args.n) step < 2 * c.args.n * (2 * c.args.n)
  inside = cell_lt (2 * c.args.n) step.from step.to ok.from_lt ok.to_lt

pub overflow_mul-cell-in-Some : goal.overflow_mul-cell-in-Some
overflow_mul-cell-in-Some c = let h = inside (goal.at.overflow_mul-cell-in-Some c).In-Some in search rules

pub overflow_add-cell : goal.overflow_add-cell
overflow_add-cell c = let h = inside (goal.at.overflow_add-cell c).In-Some in search rules

pub overflow_add-start : goal.overflow_add-start
overflow_add-start c = let h = inside (goal.at.overflow_add-start c).In-Some in search rules

pub packed-requires : goal.packed-requires
packed-requires c =
    let o = ok (goal.at.packed-requires c).In-Some in
    (omega (arith, o.from_lt, c.requires.few), omega (arith, o.to_lt, c.requires.few), rw (weight_is (goal.at.packed-requires c).In-Some) o.small, omega (arith, c.requires.below, c.requires.few_lines))

pub lower_cell-requires : goal.lower_cell-requires
lower_cell-requires c =
    omega (arith, inside (goal.at.lower_cell-requires c).In-Some, c.requires.room)

pub returns-in-Some : goal.returns-in-Some
returns-in-Some c =
    let z = c.packed.result in
    put_found c.args.n c.args.number c.args.start _ (step (goal.at.returns-in-Some c).In-Some) (is (goal.at.returns-in-Some c).In-Some) c.args.work.now _ z (ok (goal.at.returns-in-Some c).In-Some) (rw (weight_is (goal.at.returns-in-Some c).In-Some) at c.packed.ensures)
    (rw (to_z-of_z {w = w64} {z = z} (record { sfits = c.packed.type_inv })) at c.lower_cell.ensures)

pub returns-in_default : goal.returns-in_default
returns-in_default c =
    put_nothing c.args.n c.args.start _ (sym c.step_numbered-named.ensures ∙ c.in_default.is) c.args.work.now
