-- `engine_reduced_table::negative_part` meets its contract.
use mathlib.Core.Logic.{inl, inr}
use mathlib.Core.Path.{◌≡◌, refl}
use native.Mathlib.Omega.{arith}
use mathlib.Core.Bool.{true, false}
use mir.Facts.{to_z-of_z}
use lib.IntN.{ℤ, pos}
use lib.Signed.{lt_z}
use Rattle.integers.specs.Integer.{◌⩽◌, ◌⋖◌}
use Rattle.integers.proofs.Linear.{ints}
use Rattle.engine_reduced_table.proofs.negative_part.Goals as goal

pub returns-then-d-lt0 : goal.returns-then-d-lt0
returns-then-d-lt0 c = inr (to_z-of_z c.ranges.d, yes _ (rw (to_z-of_z c.ranges.d) at c.if-d-lt0.true))
  where
    yes : (a : ℤ) → lt_z a (pos 0) ≡ true → a ⋖ pos 0
    yes a = simp ints (omega arith)

pub returns-else-d-lt0 : goal.returns-else-d-lt0
returns-else-d-lt0 c = inl (refl, no _ (rw (to_z-of_z c.ranges.d) at c.if-d-lt0.false))
  where
    no : (a : ℤ) → lt_z a (pos 0) ≡ false → pos 0 ⩽ a
    no a = simp ints (omega arith)
