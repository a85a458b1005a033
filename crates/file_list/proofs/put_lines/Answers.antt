-- `file_list::put_lines` meets its contract.
use mathlib.Core.Path.{refl}
use native.Mathlib.Omega.{arith}
use Rattle.file_list.specs.Putting.{ended_none, ended_more, ended_all, ended_within, lines_none, lines_more, lines_all}
use Rattle.file_list.proofs.put_lines.Goals as goal

pub loop-k-init : goal.loop-k-init
loop-k-init c =
    (ended_none c.args.list.now _ refl, lines_none c.args.list.now c.args.out.now _ refl)

pub put_line-at-requires : goal.put_line-at-requires
put_line-at-requires c =
    (omega arith, omega (arith, ended_within c.args.list.now c.loop-k.k c.loop-k.at (omega arith) c.loop-k.invariant.0, c.requires))

pub loop-k-preserved : goal.loop-k-preserved
loop-k-preserved c =
    let L = c.args.list.now in
    let k = c.loop-k.k in
    let e = c.put_line-at.ensures.0 in (
      rw e (ended_more L k c.loop-k.at (omega arith) c.loop-k.invariant.0),
      lines_more L c.args.out.now k c.loop-k.at (omega arith) c.loop-k.invariant.1 c.put_line-at.ensures.1 e,
    )

pub returns : goal.returns
returns c =
    let L = c.args.list.now in
    let k = c.loop-k.k in
    (ended_all L k c.loop-k.at (omega arith) c.loop-k.invariant.0, lines_all L c.args.out.now k c.loop-k.at (omega arith) c.loop-k.invariant.1)
