-- `lines::variables_ok` meets its contract.
use mathlib.Core.Path.{◌≡◌, sym, ap, ap₂, ◌∙◌}
use mathlib.Core.Bool.{Bool, ◌&&◌}
use Prim.Native.Nat.{ℕ}
use mir.Syntax.{w32}
use Rattle.integers.proofs.Bits.{kept}
use Rattle.lines.specs.declared.Line.{Line}
use Rattle.lines.specs.Refusal.{variable_ok_lem, variables_ok_lem}
use Rattle.lines.proofs.variables_ok.Goals.{After-variable_ok, After-variable_ok-then-variable_ok}
use Rattle.lines.proofs.variables_ok.Goals as goal

abbrev line : After-variable_ok → Line
line c = c.args.line

abbrev n : After-variable_ok → ℕ
n c = c.args.n

first : (c : After-variable_ok) → c.variable_ok.result ≡ variable_ok_lem (n c) (line c).a (line c).x
first c =
    let g = c.struct_told-2-1.given in
    c.variable_ok.ensures ∙ ap₂ (variable_ok_lem (n c)) (kept w32 (line c).a g.0.1) (kept w32 (line c).x g.1.0.1)

second : (c : After-variable_ok-then-variable_ok) → c.variable_ok-then-variable_ok.result ≡ variable_ok_lem (n (goal.at.returns-then-variable_ok c).After-variable_ok) (line (goal.at.returns-then-variable_ok c).After-variable_ok).b (line (goal.at.returns-then-variable_ok c).After-variable_ok).y
second c =
    let g = c.struct_told-then-variable_ok-2-1.given in
    c.variable_ok-then-variable_ok.ensures ∙ ap₂ (variable_ok_lem (n (goal.at.returns-then-variable_ok c).After-variable_ok)) (kept w32 (line (goal.at.returns-then-variable_ok c).After-variable_ok).b g.1.1.0.1) (kept w32 (line (goal.at.returns-then-variable_ok c).After-variable_ok).y g.1.1.1.0.1)

pub returns-then-variable_ok : goal.returns-then-variable_ok
unfolding variables_ok_lem
returns-then-variable_ok c =
    second c ∙ ap (λ (t : Bool). t && variable_ok_lem (n (goal.at.returns-then-variable_ok c).After-variable_ok) (line (goal.at.returns-then-variable_ok c).After-variable_ok).b (line (goal.at.returns-then-variable_ok c).After-variable_ok).y) (sym c.if-variable_ok.true ∙ first (goal.at.returns-then-variable_ok c).After-variable_ok)

pub returns-else-variable_ok : goal.returns-else-variable_ok
unfolding variables_ok_lem
returns-else-variable_ok c =
    let e = sym (first (goal.at.returns-else-variable_ok c).After-variable_ok) ∙ c.if-variable_ok.false in
    first (goal.at.returns-else-variable_ok c).After-variable_ok ∙ e ∙ ap (λ (t : Bool). t && variable_ok_lem (n (goal.at.returns-else-variable_ok c).After-variable_ok) (line (goal.at.returns-else-variable_ok c).After-variable_ok).b (line (goal.at.returns-else-variable_ok c).After-variable_ok).y) (sym e)
