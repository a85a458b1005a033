-- `engine_table::placed` meets its contract: the steps are renamed where the lists of places are each other's inverse.
use borrow.Author.Tests.{not-false}
use Rattle.engine_table.specs.Placed.{rename_ready, placed_not, placed_yes}
use mathlib.Core.Bool.{not}
use mathlib.Core.Path.{ap}
use Rattle.engine_table.proofs.placed.Goals as goal

pub returns-then-not-is_renaming : goal.returns-then-not-is_renaming
returns-then-not-is_renaming not = placed_not not.requires _ not.order_variables.ensures

pub rename_steps-requires : goal.rename_steps-requires
rename_steps-requires c =
    rename_ready c.requires _ c.order_variables.ensures (c.is_renaming.ensures (not-false _ (ap not c.if-not-is_renaming.false)))

pub returns : goal.returns
returns c =
    placed_yes c.requires _ c.order_variables.ensures (c.is_renaming.ensures (not-false _ (ap not c.if-not-is_renaming.false))) _ c.rename_steps.ensures
