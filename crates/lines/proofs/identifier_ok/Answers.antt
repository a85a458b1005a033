-- `lines::identifier_ok` meets its contract.
use mathlib.Core.Path.{◌∙◌, ap}
use lib.IntN.{pos}
use mir.Syntax.{w32}
use Rattle.integers.proofs.Bits.{kept}
use Rattle.integers.specs.Integer.{is_between}
use Rattle.lines.specs.Limits.{max_identifier}
use Rattle.lines.specs.Refusal.{identifier_ok_lem}
use Rattle.lines.proofs.identifier_ok.Goals as goal

pub returns : goal.returns
unfolding identifier_ok_lem
returns c =
    c.in_range.ensures
    ∙ ap (is_between (pos 0) (pos max_identifier)) (kept w32 c.args.line.identifier c.struct_told-1.given.1.1.1.1.1.0.1)
