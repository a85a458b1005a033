-- `engine_packed_steps::weight_of` meets its contract.
use mathlib.Core.Path.{◌≡◌}
use Prim.Native.Nat.{ℕ}
use lib.IntN.{pos, ◌-ℤ◌}
use mir.Syntax.{w64}
use mir.Val.{SFits, to_z}
use mir.Facts.{to_z_pos, to_z-of_z}
use Rattle.steps.specs.Step.{max_weight}
use Rattle.engine_packed_steps.specs.Packed.{shifted_in, light_fits, light_small}
use Rattle.engine_packed_steps.proofs.weight_of.Goals.{Start}
use Rattle.engine_packed_steps.proofs.weight_of.Goals as goal

module _ (c : Start) where
  abbrev moved : ℕ
  moved = shifted_in c.args.whole

  moved_is : to_z w64 moved ≡ pos moved
  moved_is = to_z_pos w64 {n = moved} (light_small moved c.requires)

  fits : SFits w64 (pos moved -ℤ pos max_weight)
  fits = light_fits moved c.requires

pub overflow_sub-result : goal.overflow_sub-result
overflow_sub-result c = rw (moved_is c) (fits c)

pub returns : goal.returns
returns c = rw (moved_is c) (to_z-of_z (fits c))
