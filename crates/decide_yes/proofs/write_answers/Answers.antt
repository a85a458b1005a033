-- `decide_yes::write_answers` meets its contract: the groups are found by the bounds that were written just before.
use mathlib.Core.Path.{ap, ◌∙◌}
use mathlib.Core.List.{List, ◌++◌}
use Prim.Native.Nat.{ℕ, ◌*◌}
use borrow.Author.Rules.{rules}
use lib.ListN.{drop}
use Rattle.decide_stored_table.specs.Table.{mirrored_table}
use Rattle.decide_bounds_groups.specs.Grouping.{groups_ready, groups_are}
use Rattle.decide_yes.proofs.write_answers.Goals as goal

pub write_groups-requires : goal.write_groups-requires
write_groups-requires c =
    (groups_ready c.args.n c.args.table.now _ _ c.requires.table c.write_bounds.ensures, c.requires.groups_room)

pub returns : goal.returns
returns c =
    let e = groups_are c.args.n c.args.table.now (mirrored_table c.args.n c.args.table.now c.requires.table c.requires.closed) in
    (search rules, search rules, c.write_groups.ensures ∙ ap (λ (x : List ℕ). x ++ drop (2 * c.args.n) c.args.groups.now) e)
