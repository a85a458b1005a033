-- What the loop of `seconds::write_events` keeps.
use mathlib.Core.Path.{◌≡◌}
use Rattle.integers.specs.Fill.{filled}
use Rattle.seconds.specs.Promise.{event_value}
use Rattle.seconds.proofs.write_events.Given as goal

-- the seconds of the first i counts are written, and the rest is as it was
abbrev pub invariant-loop-i : goal.invariant-loop-i
invariant-loop-i l = l.seconds ≡ filled (event_value l.forms l.rates l.recorders l.counts) l.initial.seconds l.i
