-- `session_questions::step_implied` meets its contract: no walk is stored as a number above every weight, so that the stored number alone is tested.
use Rattle.std.specs.Prelude.{Some}
use mathlib.Core.Path.{◌≡◌, sym, ap, ap₂, ◌∙◌}
use Prim.Native.Nat.{◌*◌}
use lib.Signed.{le_z}
use mir.Syntax.{w64}
use mir.Val.{to_z, of_z}
use mir.Facts.{to_z-of_z}
use Rattle.integers.proofs.Bits.{kept}
use Rattle.lines.specs.Limits.{max_variables}
use Rattle.lines.specs.Valid.{lines_more}
use Rattle.steps.specs.declared.Step.{Step}
use Rattle.steps.specs.Step.{step_numbered_lem}
use Rattle.theory_bounds.specs.Tight.{Table, tight}
use Rattle.decide_rows.specs.Stored.{stored}
use Rattle.decide_rows.specs.Read.{weight_fits}
use Rattle.decide_rows.specs.Numbers.{StepOk, numbered_ok}
use Rattle.session_step.specs.Read.{small_table}
use Rattle.session_step.specs.Done.{at_most_stored}
use Rattle.session_questions.specs.Asked.{named_implied}
use Rattle.session_questions.proofs.step_implied.Goals.{In-Some}
use Rattle.session_questions.proofs.step_implied.Goals as goal

pub step_numbered-requires : goal.step_numbered-requires
step_numbered-requires c = lines_more c.args.n max_variables c.args.list.now c.requires.0.variables c.requires.1 _

-- the step that was found
module _ (c : In-Some) where
  abbrev found : Step
  found = c.in-Some.step

  is : step_numbered_lem c.args.list.now c.args.number ≡ Some found
  is = sym c.step_numbered.ensures ∙ c.in-Some.is

  ok : StepOk c.args.n found
  ok = numbered_ok c.args.n c.args.list.now c.requires.1 c.args.number found is

  abbrev D : Table
  D = small_table (2 * c.args.n) c.args.table.now

pub tight_at-requires : goal.tight_at-requires
tight_at-requires c = (c.requires.0, (ok c).from_lt, (ok c).to_lt)

pub returns-in-Some : goal.returns-in-Some
returns-in-Some c =
    let some = (goal.at.returns-in-Some c).In-Some in
    let w = (found some).weight in
    let d = tight (D some) (found some).from (found some).to in
    let there : to_z w64 (of_z w64 c.tight_at.result) ≡ stored d = kept w64 c.tight_at.result c.tight_at.type_inv ∙ c.tight_at.ensures in
    let weight : to_z w64 (of_z w64 w) ≡ w = to_z-of_z (weight_fits w (ok some).small) in
    let answer : le_z (to_z w64 (of_z w64 c.tight_at.result)) (to_z w64 (of_z w64 w)) ≡ named_implied (D some) (Some (found some)) = ap₂ le_z there weight ∙ at_most_stored d w (ok some).small in
    answer ∙ ap (named_implied (D some)) (sym (is some))
