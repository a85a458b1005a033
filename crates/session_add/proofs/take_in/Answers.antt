-- `session_add::take_in` meets its contract.
use Rattle.std.specs.Prelude.{Ok}
use mathlib.Core.Path.{refl}
use Rattle.decide.specs.declared.Answer.TheVariants as decide
use Rattle.session_add.specs.Added.{taken_in}
use Rattle.session_add.proofs.take_in.Goals as goal

pub returns-in-Ok-Yes : goal.returns-in-Ok-Yes
returns-in-Ok-Yes c =
    let a = c.args in
    let e = rw c.in-Ok-Yes.is at c.in-Ok-Yes.field-0-is in
    taken_in a.state.now a.line a.answer (Ok decide.Yes) _ (rw e at c.in-Ok-Yes.is) c.push_line.ensures

pub returns-in-Ok-No : goal.returns-in-Ok-No
returns-in-Ok-No c =
    let a = c.args in
    let e = rw c.in-Ok-No.is at c.in-Ok-No.field-0-is in
    taken_in a.state.now a.line a.answer (Ok decide.No) _ (rw e at c.in-Ok-No.is) c.push_line-in-Ok-No.ensures

pub returns-in-Err : goal.returns-in-Err
returns-in-Err c =
    let a = c.args in
    taken_in a.state.now a.line a.answer _ a.state.now c.in-Err.is refl
