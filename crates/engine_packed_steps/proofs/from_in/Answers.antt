-- `engine_packed_steps::from_in` meets its contract.
use lib.Signed.{yes_non_neg}
use mir.Facts.{to_z-of_z}
use Rattle.engine_packed_steps.specs.Steps.{abs_fits}
use Rattle.engine_packed_steps.proofs.from_in.Goals as goal

pub overflow_cast-result : goal.overflow_cast-result
overflow_cast-result c = rw (to_z-of_z c.ranges.z) (yes_non_neg c.requires, abs_fits c.args.z c.ranges.z.sfits)
