-- `seconds::recorders_named` meets its contract.
use native.Mathlib.Omega.{arith}
use borrow.Author.Tests.{lt-ltb}
use lib.ListN.{length, get_or}
use Rattle.seconds.specs.Promise.{named_at}
use Rattle.seconds.specs.Laws.{search_more}
use Rattle.seconds.proofs.recorders_named.Goals as goal

pub loop-i-preserved : goal.loop-i-preserved
loop-i-preserved c =
    let a = c.args in
    let named = lt-ltb (get_or a.recorders.now c.loop-i.i 0) a.size (omega arith) in
    search_more (length a.recorders.now) (named_at a.size a.recorders.now) c.loop-i.i c.loop-i-test.true named c.loop-i.invariant
