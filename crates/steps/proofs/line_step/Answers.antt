-- `steps::line_step` meets its contract.
use Rattle.std.specs.Prelude.{Some}
use mathlib.Core.Path.{◌≡◌, sym, ap, ap₂, ◌∙◌}
use Prim.Native.Nat.{ℕ, ◌+◌}
use lib.IntN.{ℤ, pos, ◌*ℤ◌}
use mir.Syntax.{w32, w64}
use mir.Val.{to_z, of_z}
use Rattle.integers.proofs.Bits.{kept}
use Rattle.lines.specs.declared.Line.{Line}
use Rattle.lines.specs.Limits.{max_variables}
use Rattle.lines.specs.Valid.{LineWorks}
use Rattle.steps.specs.declared.Side.{Side}
use Rattle.steps.specs.Table.{entry, cell, digit, CellRule}
use Rattle.steps.specs.Sides.{side_at}
use Rattle.steps.specs.Step.{end_point_lem}
use Rattle.steps.specs.Laws.{step_none, step_found, line_rule, end_ok}
use Rattle.steps.proofs.line_step.Goals.{After-side_of-entries, After-struct_told-3-1, Else-factor-eq0}
use Rattle.steps.proofs.line_step.Goals as goal

-- what is read of the table
module _ (c : After-side_of-entries) where
  abbrev l : Line
  l = c.args.line

  abbrev at : ℕ
  at = cell l.a l.b c.args.side

  side_is : c.side_of-entries.result ≡ side_at (digit l.a) (digit l.b) c.args.side
  side_is =
      c.side_of-entries.ensures
      ∙ ap₂ (λ (p q : ℕ). side_at p q c.args.side)
      (c.digit_of.ensures.0 ∙ ap digit (kept w32 l.a c.struct_told-1.given.0.1))
      (c.digit_of-2.ensures.0 ∙ ap digit (kept w32 l.b c.struct_told-2-1.given.1.1.0.1))

  from_is : c.side_of-entries.result.start ≡ entry at
  from_is = ap (λ (s : Side). s.start) side_is

  to_is : c.side_of-entries.result.end ≡ entry (at + 1)
  to_is = ap (λ (s : Side). s.end) side_is

  factor_is : c.side_of-entries.result.factor ≡ entry (at + 2)
  factor_is = ap (λ (s : Side). s.factor) side_is

-- there is a step, so that the rule says what its ends are
module _ (c : Else-factor-eq0) where
  some_factor : entry (at (goal.at.end_point-from-requires c).After-side_of-entries + 2) ≡ 0 → ⊥
  some_factor e = c.if-factor-eq0.false (factor_is (goal.at.end_point-from-requires c).After-side_of-entries ∙ e)

  ok : LineWorks max_variables (l (goal.at.end_point-from-requires c).After-side_of-entries)
  ok = c.requires.0

  rule : CellRule (digit (l (goal.at.end_point-from-requires c).After-side_of-entries).a) (digit (l (goal.at.end_point-from-requires c).After-side_of-entries).b) (at (goal.at.end_point-from-requires c).After-side_of-entries)
  rule = line_rule (l (goal.at.end_point-from-requires c).After-side_of-entries) c.args.side c.requires.1

pub returns-then-factor-eq0 : goal.returns-then-factor-eq0
returns-then-factor-eq0 c = step_none (l (goal.at.returns-then-factor-eq0 c).After-side_of-entries) _ (sym (factor_is (goal.at.returns-then-factor-eq0 c).After-side_of-entries) ∙ c.if-factor-eq0.true)

pub end_point-from-requires : goal.end_point-from-requires
end_point-from-requires e = rw (from_is (goal.at.end_point-from-requires e).After-side_of-entries) (end_ok max_variables (l (goal.at.end_point-from-requires e).After-side_of-entries) (ok e) (entry (at (goal.at.end_point-from-requires e).After-side_of-entries)) ((rule e).start (some_factor e)))

pub end_point-to-requires : goal.end_point-to-requires
end_point-to-requires c =
    rw (to_is (goal.at.end_point-to-requires c).After-side_of-entries) (end_ok max_variables (l (goal.at.end_point-to-requires c).After-side_of-entries) (ok (goal.at.end_point-to-requires c).Else-factor-eq0) (entry (at (goal.at.end_point-to-requires c).After-side_of-entries + 1)) ((rule (goal.at.end_point-to-requires c).Else-factor-eq0).end (some_factor (goal.at.end_point-to-requires c).Else-factor-eq0)))

module _ (c : After-struct_told-3-1) where
  d_is : to_z w32 (of_z w32 (l (goal.at.weight_of-weight-requires c).After-side_of-entries).d) ≡ (l (goal.at.weight_of-weight-requires c).After-side_of-entries).d
  d_is = kept w32 (l (goal.at.weight_of-weight-requires c).After-side_of-entries).d c.struct_told-3-1.given.1.1.1.1.0.1

pub weight_of-weight-requires : goal.weight_of-weight-requires
weight_of-weight-requires c =
    let f = factor_is (goal.at.weight_of-weight-requires c).After-side_of-entries in
    (c.if-factor-eq0.false, rw f (rule (goal.at.weight_of-weight-requires c).Else-factor-eq0).factor, rw (d_is c) (ok (goal.at.weight_of-weight-requires c).Else-factor-eq0).constant)

pub returns : goal.returns
returns c =
    let x = l (goal.at.returns c).After-side_of-entries in
    let f : c.end_point-from.result ≡ end_point_lem x (entry (at (goal.at.returns c).After-side_of-entries)) = c.end_point-from.ensures ∙ ap (end_point_lem x) (from_is (goal.at.returns c).After-side_of-entries) in
    let t : c.end_point-to.result ≡ end_point_lem x (entry (at (goal.at.returns c).After-side_of-entries + 1)) = c.end_point-to.ensures ∙ ap (end_point_lem x) (to_is (goal.at.returns c).After-side_of-entries) in
    let w : to_z w64 (of_z w64 c.weight_of-weight.result) ≡ pos (entry (at (goal.at.returns c).After-side_of-entries + 2)) *ℤ x.d =
    kept w64 c.weight_of-weight.result c.weight_of-weight.type_inv ∙ c.weight_of-weight.ensures ∙ ap₂ (λ (k : ℕ) (z : ℤ). pos k *ℤ z) (factor_is (goal.at.returns c).After-side_of-entries) (d_is (goal.at.returns c).After-struct_told-3-1) in
    ap Some (λ i. record { from = f i; to = t i; weight = w i }) ∙ step_found x _ (some_factor (goal.at.returns c).Else-factor-eq0)
