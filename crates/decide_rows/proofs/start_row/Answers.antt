-- `decide_rows::start_row` meets its contract.
use Rattle.std.proofs.Common.{length-take-le}
use Rattle.decide_rows.specs.Start.{start_written}
use Rattle.decide_rows.proofs.start_row.Goals as goal

pub returns : goal.returns
returns c =
    let filled = rw (length-take-le c.args.size c.args.work.now c.requires.1) at (c.fill.ensures.after (λ y e. e)) in
    rw filled (start_written c.args.size c.args.u c.args.work.now c.requires.0)
