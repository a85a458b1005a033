-- `steps::point_of` meets its contract.
use native.Mathlib.Omega.{arith}
use lib.Signed.{yes_non_neg}
use mir.Facts.{to_z-of_z}
use Rattle.lines.specs.Limits.{max_variables}
use Rattle.lines.specs.Valid.{variable_lt}
use Rattle.steps.proofs.point_of.Goals as goal

pub overflow_cast-result : goal.overflow_cast-result
overflow_cast-result c = rw (to_z-of_z c.ranges.variable) (yes_non_neg c.requires.0.low, record { fits = omega (arith, variable_lt max_variables _ c.requires.0) })

pub overflow_mul-result : goal.overflow_mul-result
overflow_mul-result c = rw (to_z-of_z c.ranges.variable) (record { fits = omega (arith, variable_lt max_variables _ c.requires.0) })

pub overflow_add-result : goal.overflow_add-result
overflow_add-result c = rw (to_z-of_z c.ranges.variable) (record { fits = omega (arith, variable_lt max_variables _ c.requires.0) })

pub returns : goal.returns
returns c = rw (to_z-of_z c.ranges.variable)
