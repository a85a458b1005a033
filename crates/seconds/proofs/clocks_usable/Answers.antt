-- `seconds::clocks_usable` meets its contract.
use mathlib.Core.Path.{sym, ap, ◌∙◌}
use mathlib.Core.Bool.{not}
use borrow.Author.Tests.{not-false}
use lib.ListN.{length}
use Rattle.seconds.specs.Promise.{usable_at}
use Rattle.seconds.specs.Laws.{search_more}
use Rattle.seconds.proofs.clocks_usable.Goals as goal

pub loop-i-preserved : goal.loop-i-preserved
loop-i-preserved c =
    let a = c.args in
    let is_usable = sym c.usable_form.ensures ∙ not-false c.usable_form.result (ap not c.if-not-usable_form.false) in
    search_more (length a.forms.now) (usable_at a.forms.now a.rates.now) c.loop-i.i c.loop-i-test.true is_usable c.loop-i.invariant
