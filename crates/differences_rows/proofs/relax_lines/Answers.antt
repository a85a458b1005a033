-- `differences_rows::relax_lines` meets its contract: the old row stands twice, and is then relaxed by one line after the other.
use mathlib.Core.Path.{◌≡◌, ◌∙◌}
use native.Mathlib.Omega.{arith}
use Rattle.lines.specs.Line.{line_count}
use Rattle.differences_rows.specs.Round.{RoundReady, gone_more, gone_end, twice_ready, twice_end}
use Rattle.differences_rows.proofs.relax_lines.Goals.{After-copy_row}
use Rattle.differences_rows.proofs.relax_lines.Goals as goal

-- after the copy
ready : (c : After-copy_row) → RoundReady c.args.n c.args.list.now c.copy_row.new.work
ready c = twice_ready _ _ _ _ c.requires c.copy_row.ensures

pub loop-k-preserved : goal.loop-k-preserved
loop-k-preserved c =
    let twice = ready (goal.at.loop-k-preserved c).After-copy_row in
    gone_more _ _ _ twice c.loop-k.rows c.loop-k.k c.loop-k.invariant c.loop-k-test.true c.relax_line.new.rows c.relax_line.ensures

pub returns : goal.returns
returns c =
    let twice = ready (goal.at.returns c).After-copy_row in
    let e : c.loop-k.k ≡ line_count c.args.list.now = omega (arith, c.loop-k.invariant.count) in
    gone_end _ _ _ twice c.loop-k.rows c.loop-k.k c.loop-k.invariant e ∙ twice_end _ _ _ _ c.requires c.copy_row.ensures
