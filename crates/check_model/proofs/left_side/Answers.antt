-- `check_model::left_side` meets its contract: neither product leaves the values' limit, so that the sum fits.
use mathlib.Core.Path.{◌≡◌, ap₂, ◌∙◌}
use lib.IntN.{ℤ, nat_abs, ◌+ℤ◌, ◌*ℤ◌}
use mir.Syntax.{w32, w64}
use mir.Val.{SFits, to_z, of_z}
use mir.Facts.{to_z-of_z}
use Rattle.integers.proofs.Bits.{kept}
use Rattle.lines.specs.declared.Line.{Line}
use Rattle.lines.specs.Limits.{max_value}
use Rattle.lines.specs.Line.{Assignment, left_side_lem, assignment_of}
use Rattle.check_model.specs.Laws.{product_within, sum_fits}
use Rattle.check_model.proofs.left_side.Goals.{After-term-2}
use Rattle.check_model.proofs.left_side.Goals as goal

-- the two products
module _ (c : After-term-2) where
  abbrev line : Line
  line = c.args.line

  abbrev s : Assignment
  s = assignment_of c.args.model.now

  first : c.term.result ≡ line.a *ℤ s (nat_abs line.x)
  first =
      let g = c.struct_told-2-1.given in
      c.term.ensures ∙ ap₂ (λ (a x : ℤ). a *ℤ s (nat_abs x)) (kept w32 line.a g.0.1) (kept w32 line.x g.1.0.1)

  second : c.term-2.result ≡ line.b *ℤ s (nat_abs line.y)
  second =
      let g = c.struct_told-4-1.given in
      c.term-2.ensures ∙ ap₂ (λ (b y : ℤ). b *ℤ s (nat_abs y)) (kept w32 line.b g.1.1.0.1) (kept w32 line.y g.1.1.1.0.1)

  sum : to_z w64 (of_z w64 c.term.result) +ℤ to_z w64 (of_z w64 c.term-2.result) ≡ left_side_lem s line
  unfolding left_side_lem
  sum =
      ap₂ (λ (u v : ℤ). u +ℤ v)
      (to_z-of_z {w = w64} (record { sfits = c.term.type_inv }) ∙ first)
      (to_z-of_z {w = w64} (record { sfits = c.term-2.type_inv }) ∙ second)

  sum_ok : SFits w64 (left_side_lem s line)
  unfolding left_side_lem
  sum_ok =
      let p = c.requires in
      sum_fits _ _
      (product_within max_value line.a (s (nat_abs line.x)) p.0.coefficient_a (p.1 (nat_abs line.x)))
      (product_within max_value line.b (s (nat_abs line.y)) p.0.coefficient_b (p.1 (nat_abs line.y)))

pub overflow_add-result : goal.overflow_add-result
overflow_add-result c = rw (sum c) (sum_ok c)

pub returns : goal.returns
returns c = rw (sum c) (to_z-of_z (sum_ok c))
