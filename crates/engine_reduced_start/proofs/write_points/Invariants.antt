-- What the loop of `engine_reduced_start::write_points` keeps: the points of the variables at the places before have their numbers.
use mathlib.Core.Path.{◌≡◌}
use Prim.Native.Nat.{◌*◌, ◌%◌}
use lib.ListN.{length}
use Rattle.engine_reduced_start.specs.Start.{Pointed}
use Rattle.engine_reduced_start.proofs.write_points.Given as goal

abbrev pub invariant-loop-place : goal.invariant-loop-place
invariant-loop-place l = (length l.work ≡ length l.initial.work) × Pointed l.pot l.size l.initial.work l.work (2 * l.place) × (l.size % 2 ≡ 0)
