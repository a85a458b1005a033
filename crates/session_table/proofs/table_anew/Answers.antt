-- `session_table::table_anew` meets its contract.
use mathlib.Core.Path.{sym, ap, ◌∙◌}
use mathlib.Core.Bool.{not}
use native.Mathlib.Omega.{arith}
use borrow.Author.Tests.{not-true, not-false}
use Rattle.session_table.specs.Anew.{anew_none, anew_more, anew_stopped, anew_ended}
use Rattle.session_table.proofs.table_anew.Goals as goal

pub loop-k-init : goal.loop-k-init
loop-k-init c = anew_none c.requires.0 c.start_table.ensures

pub returns-then-not-both_stay : goal.returns-then-not-both_stay
returns-then-not-both_stay c =
    anew_stopped c.loop-k.invariant c.requires.1 c.loop-k-test.true (sym c.both_stay.ensures ∙ not-true _ (ap not c.if-not-both_stay.true))

pub loop-k-preserved : goal.loop-k-preserved
loop-k-preserved c =
    anew_more c.loop-k.invariant c.requires.1 c.loop-k-test.true (sym c.both_stay.ensures ∙ not-false _ (ap not c.if-not-both_stay.false)) c.put_line.ensures

pub returns : goal.returns
returns c = anew_ended c.loop-k.invariant (omega arith)
