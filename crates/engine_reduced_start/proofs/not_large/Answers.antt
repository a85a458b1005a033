-- `engine_reduced_start::not_large` meets its contract.
use mathlib.Core.Path.{◌≡◌}
use mathlib.Core.Bool.{false}
use native.Mathlib.Omega.{arith}
use lib.IntN.{ℤ, pos, neg_ℤ}
use lib.Signed.{lt_z}
use mir.Facts.{to_z-of_z}
use Rattle.integers.specs.Integer.{◌⩽◌}
use Rattle.integers.proofs.Linear.{ints}
use Rattle.engine_reduced_start.specs.Start.{max_read}
use Rattle.engine_reduced_start.proofs.not_large.Goals as goal

pub returns : goal.returns
returns c =
    let z = to_z-of_z c.ranges.z in
    rw z (record { low = low _ (rw z at c.if-low.false); high = high _ (rw z at c.if-high.false) })
  where
    low : (a : ℤ) → lt_z a (neg_ℤ (pos max_read)) ≡ false → neg_ℤ (pos max_read) ⩽ a
    low a = simp ints (omega arith)

    high : (a : ℤ) → lt_z (pos max_read) a ≡ false → a ⩽ pos max_read
    high a = simp ints (omega arith)
