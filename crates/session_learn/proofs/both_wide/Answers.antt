-- `session_learn::both_wide` meets its contract.
use mathlib.Core.Path.{sym, ap, ◌∙◌}
use mathlib.Core.Bool.{Bool, ◌&&◌}
use Prim.Native.Nat.{◌*◌}
use borrow.Author.Tests.{not-true, not-false}
use Rattle.theory_bounds.specs.Tight.{Table}
use Rattle.theory_inserting.specs.Two.{insert_named}
use Rattle.theory_kept.specs.Slack.{wide_step}
use Rattle.session_step.specs.Read.{small_table}
use mathlib.Core.Bool.{not}
use Rattle.session_learn.proofs.both_wide.Goals.{After-is_wide}
use Rattle.session_learn.proofs.both_wide.Goals as goal

pub is_wide-requires : goal.is_wide-requires
is_wide-requires c = (c.requires, c.requires.first)

-- the first step
module _ (w : After-is_wide) where
  abbrev D : Table
  D = insert_named (insert_named (small_table (2 * w.args.n) w.args.table.now) w.args.x) w.args.y

pub returns-then-not-is_wide : goal.returns-then-not-is_wide
returns-then-not-is_wide c =
    ap (λ (b : Bool). b && wide_step (D (goal.at.returns-then-not-is_wide c).After-is_wide) c.args.y) (sym (not-true _ (ap not c.if-not-is_wide.true)) ∙ c.is_wide.ensures)

pub is_wide-requires-2 : goal.is_wide-requires-2
is_wide-requires-2 c = (c.requires, c.requires.second)

pub returns : goal.returns
returns c =
    c.is_wide-2.ensures ∙ ap (λ (b : Bool). b && wide_step (D (goal.at.returns c).After-is_wide) c.args.y) (sym (not-false _ (ap not c.if-not-is_wide.false)) ∙ c.is_wide.ensures)
