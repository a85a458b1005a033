-- `check_pieces::is_sum` meets its contract: no sum of that many weights comes near 64 bits.
use Prim.Native.Nat.{ℕ, ◌*◌, ◌^◌, ◌<◌}
use native.Mathlib.Omega.{arith}
use mir.Syntax.{w64}
use mir.Facts.{to_z_pos, to_z-of_z}
use Rattle.integers.proofs.Bits.{minus_fits, minus_is}
use Rattle.check_pieces.specs.Taken.{valid_weight}
use Rattle.check_pieces.proofs.is_sum.Goals.{Start}
use Rattle.check_pieces.proofs.is_sum.Goals as goal

module _ (s : Start) where
  abbrev most : ℕ
  most = s.args.count * valid_weight

  small : most < 2 ^ 63
  small = omega (arith, s.requires)

pub overflow_mul-most : goal.overflow_mul-most
overflow_mul-most c = record { fits = omega (arith, small c) }

pub overflow_cast-most : goal.overflow_cast-most
overflow_cast-most c = record { sfits = small c }

pub overflow_sub-most : goal.overflow_sub-most
overflow_sub-most c = rw (to_z_pos w64 (small c)) (minus_fits (most c) (small c))

pub returns : goal.returns
returns c = rw (to_z_pos w64 (small (goal.at.returns c).Start), minus_is (most (goal.at.returns c).Start) (small (goal.at.returns c).Start), to_z-of_z c.ranges.sum) at c.between.ensures
