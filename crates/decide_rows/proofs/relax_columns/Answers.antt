-- `decide_rows::relax_columns` meets its contract.
use mathlib.Core.Path.{◌≡◌}
use native.Mathlib.Omega.{arith}
use mir.Syntax.{w64}
use mir.Val.{to_z, of_z}
use mir.Facts.{to_z-of_z}
use Rattle.decide_rows.specs.Read.{weight_fits}
use Rattle.decide_rows.specs.Relax.{across_start, across_length, across_short, across_more}
use Rattle.decide_rows.proofs.relax_columns.Goals.{Start}
use Rattle.decide_rows.proofs.relax_columns.Goals as goal

-- the weight as it is handed on
weight_is : (s : Start) → to_z w64 (of_z w64 s.args.step.weight) ≡ s.args.step.weight
weight_is s = to_z-of_z (weight_fits s.args.step.weight s.requires.small)

pub loop-j-init : goal.loop-j-init
loop-j-init c =
    across_start c.args.size c.args.width c.args.step c.args.rows.now c.requires

pub relax_at-requires : goal.relax_at-requires
relax_at-requires c =
    let r = c.requires in
    let h = c.loop-j-test.true in
    let a = c.loop-j.invariant in
    (across_length c.args.size c.args.width c.args.step c.args.rows.now r c.loop-j.rows c.loop-j.j a, omega (arith, r.from_fits, h), omega (arith, r.to_fits, h), rw (weight_is (goal.at.relax_at-requires c).Start) r.small, across_short c.args.size c.args.width c.args.step c.args.rows.now r c.loop-j.rows c.loop-j.j a h)

pub loop-j-preserved : goal.loop-j-preserved
loop-j-preserved c =
    let r = c.relax_at in
    across_more c.args.size c.args.width c.args.step c.args.rows.now c.requires c.loop-j.rows c.loop-j.j c.loop-j.invariant c.loop-j-test.true r.new.rows (rw (weight_is (goal.at.loop-j-preserved c).Start) at r.ensures)
