-- `engine_packed_steps::write_numbered` meets its contract: a step's ends are points and its weight is small, so that `packed`
use Rattle.std.specs.Prelude.{Some}
use mathlib.Core.Path.{◌≡◌, sym, ◌∙◌}
use native.Mathlib.Omega.{arith}
use mir.Syntax.{w64}
use mir.Val.{to_z, of_z}
use mir.Facts.{to_z-of_z}
use Rattle.lines.specs.Limits.{max_variables}
use Rattle.lines.specs.Valid.{lines_more}
use Rattle.steps.specs.Step.{step_numbered_lem}
use Rattle.decide_rows.specs.Numbers.{StepOk, numbered_ok}
use Rattle.decide_rows.specs.Read.{weight_fits}
use Rattle.engine_packed_steps.specs.Written.{put_found, put_nothing}
use Rattle.engine_packed_steps.proofs.write_numbered.Goals.{In-Some}
use Rattle.engine_packed_steps.proofs.write_numbered.Goals as goal

-- may be called.
pub step_numbered-named-requires : goal.step_numbered-named-requires
step_numbered-named-requires c = lines_more c.args.n max_variables c.args.list.now c.requires.few c.requires.valid _

-- the step that was found
module _ (c : In-Some) where
  is : step_numbered_lem c.args.list.now c.args.number ≡ Some c.in-Some.t
  is = sym c.step_numbered-named.ensures ∙ c.in-Some.is

  ok : StepOk c.args.n c.in-Some.t
  ok = numbered_ok c.args.n c.args.list.now c.requires.valid c.args.number _ is

  weight_is : to_z w64 (of_z w64 c.in-Some.t.weight) ≡ c.in-Some.t.weight
  weight_is = to_z-of_z (weight_fits _ ok.small)

pub packed-requires : goal.packed-requires
packed-requires c =
    let o = ok (goal.at.packed-requires c).In-Some in
    (omega (arith, o.from_lt, c.requires.few), omega (arith, o.to_lt, c.requires.few), rw (weight_is (goal.at.packed-requires c).In-Some) o.small, omega (arith, c.requires.below, c.requires.few_lines))

pub returns-in-Some : goal.returns-in-Some
returns-in-Some c =
    let z = c.packed.result in
    rw (to_z-of_z {w = w64} {z = z} (record { sfits = c.packed.type_inv }))
    (put_found c.args.n c.args.number c.args.kept _ c.in-Some.t (is (goal.at.returns-in-Some c).In-Some) c.args.work.now z (ok (goal.at.returns-in-Some c).In-Some) (rw (weight_is (goal.at.returns-in-Some c).In-Some) at c.packed.ensures))

pub returns : goal.returns
returns c =
    put_nothing c.args.n _ (sym c.step_numbered-named.ensures ∙ c.in_default.is) c.args.kept c.args.work.now
