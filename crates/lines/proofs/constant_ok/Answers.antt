-- `lines::constant_ok` meets its contract.
use mathlib.Core.Path.{◌≡◌, ap, ◌∙◌}
use native.Mathlib.Omega.{arith}
use lib.IntN.{ℤ, pos, neg_ℤ, ◌-ℤ◌}
use mir.Syntax.{w32, w64}
use mir.Val.{SFits, to_z, of_z}
use mir.Facts.{to_z-of_z}
use Rattle.integers.specs.Integer.{is_between}
use Rattle.integers.proofs.Linear.{ints, given₂}
use Rattle.integers.proofs.Bits.{kept}
use Rattle.lines.specs.Refusal.{constant_ok_lem}
use Rattle.lines.proofs.constant_ok.Goals.{Start}
use Rattle.lines.proofs.constant_ok.Goals as goal

-- `lines::constant_ok` meets its contract.
-- the limit's negation fits
module _ (c : Start) where
  abbrev most : ℤ
  most = c.args.most

  read : to_z w64 (of_z w64 most) ≡ most
  read = to_z-of_z c.ranges.most

  minus_fits : SFits w64 (pos 0 -ℤ most)
  minus_fits = given₂ c.requires.low c.requires.high (simp ints (omega arith))

  negated : to_z w64 (of_z w64 (pos 0 -ℤ to_z w64 (of_z w64 most))) ≡ neg_ℤ most
  negated = ap (λ (z : ℤ). to_z w64 (of_z w64 (pos 0 -ℤ z))) read ∙ to_z-of_z minus_fits ∙ minus
    where
      minus : pos 0 -ℤ most ≡ neg_ℤ most
      minus = simp ints (omega arith)

pub overflow_sub-most : goal.overflow_sub-most
overflow_sub-most c = rw (read c) (minus_fits c)

pub returns : goal.returns
unfolding constant_ok_lem
returns c =
    c.in_range.ensures
    ∙ rw (negated (goal.at.returns c).Start, read (goal.at.returns c).Start) (ap (is_between (neg_ℤ (most (goal.at.returns c).Start)) (most (goal.at.returns c).Start)) (kept w32 c.args.line.d c.struct_told-1.given.1.1.1.1.0.1))
