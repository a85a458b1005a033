-- `differences_yes::write_plain_groups` meets its contract: a group's variable is no higher than the variable itself, so that it is small.
use mathlib.Core.Path.{ap, ◌∙◌}
use mathlib.Core.List.{List}
use Prim.Native.Nat.{ℕ, ◌+◌, ◌*◌, ◌≤◌}
use native.Mathlib.Omega.{arith}
use borrow.Author.Rules.{rules}
use lib.ListN.{set}
use Rattle.integers.specs.Lowest.{lowest_at_most}
use Rattle.theory_differences.specs.Doubled.{plain_same}
use Rattle.decide_stored_table.specs.Table.{table_of}
use Rattle.differences_yes.specs.Pairs.{plain_filled}
use Rattle.differences_yes.proofs.write_plain_groups.Goals as goal

pub overflow_cast-groups : goal.overflow_cast-groups
overflow_cast-groups c =
    let x = c.loop-x.x in
    let h : c.group_of-lowest.result ≤ x = rw c.group_of-lowest.ensures (lowest_at_most (plain_same (table_of c.args.n c.args.table.now) x) x) in
    let few = c.requires.0.variables in
    search rules

pub loop-x-preserved : goal.loop-x-preserved
loop-x-preserved c =
    let x = c.loop-x.x in
    let r = c.group_of-lowest in
    ap (λ (g : List ℕ). set (set g (2 * x) r.result) (2 * x + 1) 0) c.loop-x.invariant
    ∙ plain_filled (table_of c.args.n c.args.table.now) c.args.groups.now x r.result (omega (arith, c.loop-x-test.true, c.requires.1)) r.ensures
