-- `engine_packed_steps::shifted` meets its contract.
use mathlib.Core.Path.{◌≡◌, refl, ap, ◌∙◌}
use lib.IntN.{ℤ, pos, ◌+ℤ◌}
use lib.Signed.{yes_non_neg}
use mir.Syntax.{w64}
use mir.Val.{to_z, of_z}
use mir.Facts.{to_z-of_z}
use Rattle.steps.specs.Step.{max_weight}
use Rattle.engine_packed_steps.specs.Packed.{shift_fits, shift_low, shift_high, shifts, sum_abs_fits}
use Rattle.engine_packed_steps.proofs.shifted.Goals.{Start}
use Rattle.engine_packed_steps.proofs.shifted.Goals as goal

module _ (c : Start) where
  weight_is : to_z w64 (of_z w64 c.args.weight) ≡ c.args.weight
  weight_is = to_z-of_z c.ranges.weight

  sum_is : to_z w64 (of_z w64 (to_z w64 (of_z w64 c.args.weight) +ℤ pos max_weight)) ≡ c.args.weight +ℤ pos max_weight
  sum_is = ap (λ (z : ℤ). to_z w64 (of_z w64 (z +ℤ pos max_weight))) weight_is ∙ to_z-of_z (shift_fits c.args.weight c.requires)

pub overflow_add-result : goal.overflow_add-result
overflow_add-result c = rw (weight_is c) (shift_fits c.args.weight c.requires)

pub overflow_cast-result : goal.overflow_cast-result
overflow_cast-result c = rw (sum_is c) (yes_non_neg (shift_low c.args.weight c.requires), sum_abs_fits c.args.weight c.requires)

pub returns : goal.returns
returns c = rw (sum_is c) (shifts c.args.weight _ (refl) (shift_low c.args.weight c.requires) (shift_high c.args.weight c.requires))
