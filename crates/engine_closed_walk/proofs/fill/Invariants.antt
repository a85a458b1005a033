-- What the loops of `engine_closed_walk::fill` keep.
use mathlib.Core.Path.{◌≡◌}
use lib.ListN.{length}
use Rattle.engine_closed_walk.specs.Filled.{Filled}
use Rattle.engine_closed_walk.proofs.fill.Given as goal

-- `engine_closed_walk::fill` meets its contract. The invariant: the numbers before i are the value.
abbrev pub invariant-loop-i : goal.invariant-loop-i
invariant-loop-i l = (length l.work ≡ length l.initial.work) × Filled l.from l.end l.value l.i l.initial.work l.work
