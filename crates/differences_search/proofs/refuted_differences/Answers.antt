-- `differences_search::refuted_differences` meets its contract: the rows stand, until one is the same as the one before, or a walk shows a closed one.
use mathlib.Core.Path.{◌≡◌, refl, subst}
use Prim.Native.Nat.{◌+◌, ◌*◌, ◌<◌}
use native.Mathlib.Omega.{arith}
use Rattle.differences_search.specs.Searched.{SearchReady, Going, searched_empty, cleared_ready, going_start, searched_since, row_ready, double_ready, searched_yes, refute_ready, searched_no, going_more}
use Rattle.differences_search.proofs.refuted_differences.Goals.{After-clear, After-next_plain_row-v}
use Rattle.differences_search.proofs.refuted_differences.Goals as goal

pub returns-then-n-eq0 : goal.returns-then-n-eq0
returns-then-n-eq0 c = searched_empty c.requires c.if-n-eq0.true

pub loop-k-init : goal.loop-k-init
loop-k-init c =
    let w = c.clear.new.work in
    let front : 0 ≡ 0 * c.args.n = omega arith in
    (refl, omega arith, subst (Going c.args.n c.args.list.now w w 0) front (going_start c.requires w c.clear.ensures (omega (arith, c.if-n-eq0.false))))

-- what is asked, once the first row is cleared
ready : (c : After-clear) → SearchReady c.args.n c.args.list.now c.args.refutation.now c.clear.new.work
ready c = cleared_ready c.requires c.clear.new.work c.clear.ensures

pub next_plain_row-v-requires : goal.next_plain_row-v-requires
next_plain_row-v-requires c =
    let cleared = (goal.at.next_plain_row-v-requires c).After-clear in
    row_ready (ready cleared) c.loop-k.work c.loop-k.k _ c.loop-k.invariant.2

pub double_row-requires : goal.double_row-requires
double_row-requires c =
    let cleared = (goal.at.double_row-requires c).After-clear in
    let row = c.next_plain_row-v in
    double_ready (ready cleared) c.loop-k.work c.loop-k.k _ c.loop-k.invariant.2 row.new.work row.result row.ensures c.if-n-v.true c.walk_at.result c.walk_at.ensures

pub returns-then-n-v : goal.returns-then-n-v
returns-then-n-v c =
    let cleared = (goal.at.returns-then-n-v c).After-clear in
    let row = c.next_plain_row-v in
    rw c.loop-k.invariant.0
    (searched_since c.requires c.clear.new.work c.clear.ensures
    (searched_yes (ready cleared) c.loop-k.work c.loop-k.k _ c.loop-k.invariant.2 row.new.work row.result row.ensures c.if-n-v.true c.walk_at.result c.walk_at.ensures c.double_row.new.work c.double_row.ensures))

pub refuted_when_due-requires : goal.refuted_when_due-requires
refuted_when_due-requires c =
    let cleared = (goal.at.refuted_when_due-requires c).After-clear in
    let row = c.next_plain_row-v in
    let low : row.result < c.args.n = omega (arith, c.if-n-v.false) in
    (refute_ready (ready cleared) c.loop-k.work c.loop-k.k _ c.loop-k.invariant.2 row.new.work row.result row.ensures low c.loop-k.refutation c.loop-k.invariant.0, c.loop-k.invariant.1)

pub returns-then-refuted_when_due : goal.returns-then-refuted_when_due
returns-then-refuted_when_due c =
    let cleared = (goal.at.returns-then-refuted_when_due c).After-clear in
    let row = c.next_plain_row-v in
    let tried = c.refuted_when_due in
    let low : row.result < c.args.n = omega (arith, c.if-n-v.false) in
    searched_since c.requires c.clear.new.work c.clear.ensures
    (searched_no (ready cleared) c.loop-k.work c.loop-k.k _ c.loop-k.invariant.2 row.new.work row.result row.ensures low c.loop-k.refutation tried.new.refutation c.loop-k.invariant.0 tried.new.work tried.result tried.ensures c.if-refuted_when_due.true)

pub loop-k-preserved : goal.loop-k-preserved
loop-k-preserved c =
    let cleared = (goal.at.loop-k-preserved c).After-clear in
    let row = c.next_plain_row-v in
    let tried = c.refuted_when_due in
    let low : row.result < c.args.n = omega (arith, c.if-n-v.false) in
    let next : c.loop-k.k * c.args.n + c.args.n ≡ (c.loop-k.k + 1) * c.args.n = omega arith in
    let more = going_more (ready cleared) c.loop-k.work c.loop-k.k _ c.loop-k.invariant.2 row.new.work row.result row.ensures low c.loop-k.refutation tried.new.refutation c.loop-k.invariant.0 tried.new.work tried.result tried.ensures c.if-refuted_when_due.false in
    (more.0, c.next_due-due.ensures, rw next at more.1)
