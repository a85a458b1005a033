-- `session_learn::learn_line` meets its contract.
use mathlib.Core.Path.{sym, ◌∙◌}
use borrow.Author.Tests.{not-true, not-false}
use Rattle.session_learn.specs.Learnt.{learnt_no, learnt_yes}
use mathlib.Core.Bool.{not}
use mathlib.Core.Path.{ap}
use Rattle.session_learn.proofs.learn_line.Goals as goal

pub can_learn-requires : goal.can_learn-requires
can_learn-requires c = c.requires

pub returns-then-not-can_learn : goal.returns-then-not-can_learn
returns-then-not-can_learn c =
    let no = sym c.can_learn.ensures ∙ not-true _ (ap not c.if-not-can_learn.true) in
    (sym no, learnt_no c.args.n c.args.list.now c.args.k c.args.table.now no)

pub put_line-requires : goal.put_line-requires
put_line-requires c = (c.requires.table, c.requires.valid, c.requires.line)

pub returns : goal.returns
returns c =
    let yes = sym c.can_learn.ensures ∙ not-false _ (ap not c.if-not-can_learn.false) in
    (sym yes, learnt_yes c.args.n c.args.list.now c.args.k c.args.table.now yes c.put_line.new.table c.put_line.ensures)
