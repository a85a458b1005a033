-- `opposite_line::opposite_line` meets its contract: each number of the opposite line fits 32 bits.
use mathlib.Core.Path.{◌≡◌, ap, ◌∙◌}
use Prim.Native.Nat.{ℕ, ◌≤◌}
use native.Mathlib.Omega.{arith}
use lib.IntN.{ℤ, pos, neg_ℤ, ◌-ℤ◌}
use mir.Syntax.{w32}
use mir.Val.{SFits, to_z, of_z}
use mir.Facts.{to_z-of_z}
use Rattle.integers.specs.Integer.{Within}
use Rattle.integers.proofs.Linear.{ints, given₂}
use Rattle.integers.proofs.Bits.{kept}
use Rattle.lines.specs.Limits.{max_variables, shown_constant_lem}
use Rattle.opposite_line.specs.Opposite.{opposite}
use Rattle.opposite_line.proofs.opposite_line.Goals.{After-struct_told-3-1}
use Rattle.opposite_line.proofs.opposite_line.Goals as goal

-- `opposite_line::opposite_line` meets its contract: each number of the opposite line fits 32 bits.
-- a number within the widest limit of d, and its negation
module _ (most : ℕ) (z : ℤ) (low : most ≤ shown_constant_lem max_variables) (within : Within most z) where
  fits : SFits w32 z
  fits = given₂ within.low within.high (simp ints (omega arith))

  read : to_z w32 (of_z w32 z) ≡ z
  read = to_z-of_z fits

  minus_fits : SFits w32 (pos 0 -ℤ z)
  minus_fits = given₂ within.low within.high (simp ints (omega arith))

  minus-read-fits : SFits w32 (pos 0 -ℤ to_z w32 (of_z w32 z))
  minus-read-fits = rw read minus_fits

  negated : to_z w32 (of_z w32 (pos 0 -ℤ to_z w32 (of_z w32 z))) ≡ neg_ℤ z
  negated = ap (λ (y : ℤ). to_z w32 (of_z w32 (pos 0 -ℤ y))) read ∙ to_z-of_z minus_fits ∙ minus
    where
      minus : pos 0 -ℤ z ≡ neg_ℤ z
      minus = simp ints (omega arith)

less-fits : (z : ℤ) → Within (shown_constant_lem max_variables) z → SFits w32 (neg_ℤ z -ℤ pos 1)
less-fits z h = given₂ h.low h.high (simp ints (omega arith))

pub overflow_sub-result : goal.overflow_sub-result
overflow_sub-result c = minus-read-fits 1 c.args.line.a (omega arith) c.requires.0

pub overflow_sub-result-2 : goal.overflow_sub-result-2
overflow_sub-result-2 c = minus-read-fits 1 c.args.line.b (omega arith) c.requires.1

-- after the third field
module _ (c : After-struct_told-3-1) where
  constant : Within (shown_constant_lem max_variables) c.args.line.d
  constant = c.requires.2

pub overflow_sub-result-3 : goal.overflow_sub-result-3
overflow_sub-result-3 c = minus-read-fits (shown_constant_lem max_variables) c.args.line.d (omega arith) (constant c)

pub overflow_sub-result-4 : goal.overflow_sub-result-4
overflow_sub-result-4 c = rw (negated (shown_constant_lem max_variables) c.args.line.d (omega arith) (constant c)) (less-fits c.args.line.d (constant c))

pub returns : goal.returns
unfolding opposite
returns c =
    let line = c.args.line in
    let numbers = c.struct_told-4-1.given in
    rw (
      negated 1 line.a (omega arith) c.requires.0,
      kept w32 line.x numbers.1.0.1,
      negated 1 line.b (omega arith) c.requires.1,
      kept w32 line.y numbers.1.1.1.0.1,
      negated (shown_constant_lem max_variables) line.d (omega arith) (constant (goal.at.returns c).After-struct_told-3-1),
      to_z-of_z (less-fits line.d (constant (goal.at.returns c).After-struct_told-3-1)),
      kept w32 line.identifier numbers.1.1.1.1.1.0.1,
    )
