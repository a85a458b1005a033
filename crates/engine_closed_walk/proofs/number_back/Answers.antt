-- `engine_closed_walk::number_back` meets its contract: the number is handed over where its step was seen to end there.
use Rattle.std.specs.Prelude.{Some}
use mathlib.Core.Path.{◌≡◌, sym, ap, ◌∙◌}
use Prim.Native.Nat.{◌+◌}
use mir.Syntax.{w64}
use mir.Facts.{to_z-of_z}
use Rattle.lines.specs.Limits.{max_variables}
use Rattle.lines.specs.Line.{number}
use Rattle.lines.specs.Valid.{lines_more}
use Rattle.steps.specs.declared.Step.{Step}
use Rattle.engine_closed_walk.specs.Back.{not_below, ends_nowhere}
use Rattle.engine_closed_walk.proofs.number_back.Goals as goal

pub returns-then-mark-lt0 : goal.returns-then-mark-lt0
returns-then-mark-lt0 c = ends_nowhere c.args.list.now c.args.at

pub number_in-number-requires : goal.number_in-number-requires
number_in-number-requires c =
    let z = number c.args.work.now (c.args.marks + c.args.at) in
    let e = to_z-of_z {w = w64} {z = z} (record { sfits = c.mark-1.given }) in
    rw e (not_below z (rw e at c.if-mark-lt0.false))

pub step_numbered-requires : goal.step_numbered-requires
step_numbered-requires c = lines_more c.args.n max_variables c.args.list.now c.requires.few c.requires.valid _

same : {s t : Step} → Some s ≡ Some t → s ≡ t
same e = cc

pub returns-then-t-at : goal.returns-then-t-at
returns-then-t-at c =
    record { ends = λ t e. ap (λ (x : Step). x.to) (same (sym e ∙ (sym c.step_numbered.ensures ∙ c.in-Some.is))) ∙ c.if-t-at.true }

pub returns-else-t-at : goal.returns-else-t-at
returns-else-t-at c = ends_nowhere c.args.list.now c.args.at

pub returns-in_default : goal.returns-in_default
returns-in_default c = ends_nowhere c.args.list.now c.args.at
