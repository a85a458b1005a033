-- `session_kept::renew_groups` meets its contract: the groups stay, or they are written to an array, by the bounds, and copied.
use mathlib.Core.Path.{◌≡◌, ap, ◌∙◌}
use mathlib.Core.List.{List, ◌++◌}
use Prim.Native.Nat.{ℕ, ◌*◌}
use borrow.Author.Rules.{rules}
use lib.IntN.{ℤ, pos}
use lib.ListN.{length, get_or, take, drop}
use Rattle.integers.specs.Sequence.{tabulate, length_tabulate}
use Rattle.theory_bounds.specs.Answers.{group_at_lem}
use Rattle.decide_stored_table.specs.Table.{by_rows}
use Rattle.session_state.specs.State.{widened}
use Rattle.decide_bounds_groups.specs.Grouping.{groups_ready}
use Rattle.session_kept.specs.Laws.{copied_front, widened_front, groups_anew}
use Rattle.session_kept.proofs.renew_groups.Goals.{Start}
use Rattle.session_kept.proofs.renew_groups.Goals as goal

-- the groups of the table
abbrev number : Start → ℕ → ℕ
number s = group_at_lem (by_rows (2 * s.args.n) s.args.table.now)

abbrev found : Start → List ℕ
found s = tabulate (2 * s.args.n) (number s)

pub write_groups-requires : goal.write_groups-requires
write_groups-requires c =
    (groups_ready c.args.n c.args.table.now _ _ c.requires.0 c.write_bounds.ensures, search rules)

pub returns : goal.returns
returns c =
    let l : length (found (goal.at.returns c).Start) ≡ 2 * c.args.n = length_tabulate (2 * c.args.n) (number (goal.at.returns c).Start) in
    let count = 2 * c.args.n in
    let g = c.write_groups.new.groups in
    let put : c.keep.new.kept ≡ widened (take count g) ++ drop count c.args.kept.now =
    copied_front count (λ (k : ℕ). pos (get_or g k 0)) c.args.kept.now c.keep.new.kept (search rules) (λ k h. c.keep.ensures.copied k 0 h) c.keep.ensures.rest
    ∙ ap (λ (x : List ℤ). x ++ drop count c.args.kept.now) (widened_front count g (search rules)) in
    groups_anew count c.args.stays c.args.kept.now (found (goal.at.returns c).Start) c.if-stays.false c.requires.1 l _ _ _ c.write_groups.ensures put
