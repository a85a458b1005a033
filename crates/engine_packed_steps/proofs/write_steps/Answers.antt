-- `engine_packed_steps::write_steps` meets its contract. The invariant: the steps with the numbers gone through are written.
use mathlib.Core.Path.{◌≡◌}
use Prim.Native.Nat.{◌*◌}
use native.Mathlib.Omega.{arith}
use Rattle.lines.specs.Line.{line_count}
use Rattle.engine_packed_steps.specs.Written.{writing_start, writing_more, writing_end}
use Rattle.engine_packed_steps.proofs.write_steps.Goals as goal

pub loop-number-init : goal.loop-number-init
loop-number-init c = writing_start c.args.n c.args.list.now c.args.work.now c.requires.room

pub write_numbered-kept-requires : goal.write_numbered-kept-requires
write_numbered-kept-requires c =
    record { few = c.requires.few; valid = c.requires.valid; few_lines = c.requires.few_lines; below = c.loop-number-test.true; room = omega (arith, c.requires.room, c.loop-number.invariant.scratch.same_length, c.loop-number.invariant.no_more, c.loop-number-test.true) }

pub loop-number-preserved : goal.loop-number-preserved
loop-number-preserved c =
    let f = c.write_numbered-kept in
    writing_more c.args.n c.args.list.now c.args.work.now c.requires.room c.loop-number.work c.loop-number.number c.loop-number.kept c.loop-number.invariant (omega (arith, c.loop-number-test.true)) f.new.work f.result f.ensures

pub returns : goal.returns
returns c =
    let e : c.loop-number.number ≡ 2 * line_count c.args.list.now = omega (arith, c.loop-number.invariant.at_most, c.loop-number-test.false) in
    writing_end c.args.n c.args.list.now c.args.work.now c.requires.room c.loop-number.work c.loop-number.number c.loop-number.kept c.loop-number.invariant e
