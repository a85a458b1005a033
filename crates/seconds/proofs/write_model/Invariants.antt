-- What the loop of `seconds::write_model` keeps.
use mathlib.Core.Path.{◌≡◌}
use Rattle.integers.specs.Fill.{filled}
use Rattle.seconds.specs.Promise.{model_value}
use Rattle.seconds.proofs.write_model.Given as goal

-- the seconds of the first i counts are written, and the rest is as it was
abbrev pub invariant-loop-i : goal.invariant-loop-i
invariant-loop-i l = l.seconds ≡ filled (model_value l.clock l.counts) l.initial.seconds l.i
