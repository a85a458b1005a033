-- `lines::line_numbers` meets its contract.
use mir.Syntax.{w32}
use Rattle.integers.proofs.Bits.{kept}
use Rattle.lines.specs.Line.{line_numbers_lem}
use Rattle.lines.proofs.line_numbers.Goals as goal

-- `lines::line_numbers` meets its contract.
pub returns : goal.returns
unfolding line_numbers_lem
returns c =
    let l = c.args.line in
    let g = c.struct_told-1.given in
    rw (
      kept w32 l.a g.0.1,
      kept w32 l.x g.1.0.1,
      kept w32 l.b g.1.1.0.1,
      kept w32 l.y g.1.1.1.0.1,
      kept w32 l.d g.1.1.1.1.0.1,
      kept w32 l.identifier g.1.1.1.1.1.0.1,
    )
