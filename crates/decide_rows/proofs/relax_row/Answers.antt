-- `decide_rows::relax_row` meets its contract.
use mathlib.Core.Path.{◌≡◌, ◌∙◌}
use mathlib.Core.List.{List}
use Prim.Native.Nat.{ℕ, ◌*◌}
use native.Mathlib.Omega.{arith}
use lib.IntN.{ℤ}
use Rattle.lines.specs.Line.{line_count}
use Rattle.decide_rows.specs.Relax.{Ready, copy_ready, copy_end, round_start, round_ready, round_more, round_end}
use Rattle.decide_rows.proofs.relax_row.Goals.{After-copy_row}
use Rattle.decide_rows.proofs.relax_row.Goals as goal

-- after the copy
module _ (c : After-copy_row) where
  abbrev n : ℕ
  n = c.args.n

  abbrev width : ℕ
  width = c.args.width

  abbrev L : List ℤ
  L = c.args.list.now

  abbrev twice : List ℤ
  twice = c.copy_row.new.work

  ready : Ready n width L twice
  ready = copy_ready n width L c.args.rows.now twice c.requires c.copy_row.ensures

pub loop-number-init : goal.loop-number-init
loop-number-init c =
    let a = (goal.at.loop-number-init c).After-copy_row in
    round_start (n a) (width a) (L a) (twice a) (ready a)

pub relax_one-requires : goal.relax_one-requires
relax_one-requires c =
    let a = (goal.at.relax_one-requires c).After-copy_row in
    round_ready (n a) (width a) (L a) (twice a) (ready a) c.loop-number.rows c.loop-number.number c.loop-number.invariant

pub loop-number-preserved : goal.loop-number-preserved
loop-number-preserved c =
    let a = (goal.at.loop-number-preserved c).After-copy_row in
    round_more (n a) (width a) (L a) (twice a) (ready a) c.loop-number.rows c.loop-number.number c.loop-number.invariant c.loop-number-test.true c.relax_one.new.rows c.relax_one.ensures

pub returns : goal.returns
returns c =
    let a = (goal.at.returns c).After-copy_row in
    let e : c.loop-number.number ≡ 2 * line_count (L a) = omega arith in
    round_end (n a) (width a) (L a) (twice a) (ready a) c.loop-number.rows c.loop-number.number c.loop-number.invariant e
    ∙ copy_end (2 * n a * width a) c.args.rows.now (twice a) c.requires.long c.copy_row.ensures _
