-- `lines::coefficients_ok` meets its contract.
use mathlib.Core.Path.{◌≡◌, sym, ap, ◌∙◌}
use mathlib.Core.Bool.{Bool, ◌&&◌}
use mir.Syntax.{w32}
use Rattle.integers.proofs.Bits.{kept}
use Rattle.integers.specs.Integer.{is_within_lem}
use Rattle.lines.specs.declared.Line.{Line}
use Rattle.lines.specs.Refusal.{coefficients_ok_lem}
use Rattle.lines.proofs.coefficients_ok.Goals.{After-in_range, After-in_range-then-in_range}
use Rattle.lines.proofs.coefficients_ok.Goals as goal

abbrev line : After-in_range → Line
line c = c.args.line

first : (c : After-in_range) → c.in_range.result ≡ is_within_lem 1 (line c).a
first c = c.in_range.ensures ∙ ap (is_within_lem 1) (kept w32 (line c).a c.struct_told-1.given.0.1)

second : (c : After-in_range-then-in_range) → c.in_range-then-in_range.result ≡ is_within_lem 1 (line (goal.at.returns-then-in_range c).After-in_range).b
second c = c.in_range-then-in_range.ensures ∙ ap (is_within_lem 1) (kept w32 (line (goal.at.returns-then-in_range c).After-in_range).b c.struct_told-then-in_range-1.given.1.1.0.1)

pub returns-then-in_range : goal.returns-then-in_range
unfolding coefficients_ok_lem
returns-then-in_range c =
    second c ∙ ap (λ (t : Bool). t && is_within_lem 1 (line (goal.at.returns-then-in_range c).After-in_range).b) (sym c.if-in_range.true ∙ first (goal.at.returns-then-in_range c).After-in_range)

pub returns-else-in_range : goal.returns-else-in_range
unfolding coefficients_ok_lem
returns-else-in_range c =
    let e = sym (first (goal.at.returns-else-in_range c).After-in_range) ∙ c.if-in_range.false in
    first (goal.at.returns-else-in_range c).After-in_range ∙ e ∙ ap (λ (t : Bool). t && is_within_lem 1 (line (goal.at.returns-else-in_range c).After-in_range).b) (sym e)
