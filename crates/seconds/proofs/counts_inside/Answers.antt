-- `seconds::counts_inside` meets its contract.
use mathlib.Core.Path.{◌≡◌, sym, ap, ◌∙◌}
use mathlib.Core.Bool.{not}
use borrow.Author.Tests.{not-false}
use lib.IntN.{pos}
use lib.ListN.{length, get_or}
use mir.Syntax.{w64}
use Rattle.integers.proofs.Bits.{kept}
use Rattle.seconds.specs.Clock.{is_count}
use Rattle.seconds.specs.Promise.{count_at}
use Rattle.seconds.specs.Laws.{search_more}
use Rattle.seconds.proofs.counts_inside.Goals.{After-between}
use Rattle.seconds.proofs.counts_inside.Goals as goal

-- the test of count i
tests : (v : After-between) → count_at v.args.counts.now v.loop-i.i ≡ v.between.result
tests v = sym (v.between.ensures ∙ ap is_count (kept w64 (get_or v.args.counts.now v.loop-i.i (pos 0)) v.between-arg-1.given))

pub loop-i-preserved : goal.loop-i-preserved
loop-i-preserved c =
    let counts = c.args.counts.now in
    let inside = tests (goal.at.loop-i-preserved c).After-between ∙ not-false c.between.result (ap not c.if-not-between.false) in
    search_more (length counts) (count_at counts) c.loop-i.i c.loop-i-test.true inside c.loop-i.invariant
