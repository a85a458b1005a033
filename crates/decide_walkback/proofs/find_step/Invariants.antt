-- What the loops of `decide_walkback::find_step` keep.
use Prim.Native.Nat.{◌+◌, ◌*◌, ◌-◌, ◌<◌, ◌≤◌}
use Rattle.decide_walkback.specs.Makes.{NoneBelow}
use Rattle.decide_walkback.proofs.find_step.Given as goal

-- `decide_walkback::find_step` meets its contract. The invariant of both loops: no step tried so far makes the value.
abbrev pub invariant-loop-side : goal.invariant-loop-side
invariant-loop-side l = (l.line < l.count) × (l.side ≤ 2) × NoneBelow l.list l.old l.v l.z (2 * l.line + l.side)

abbrev pub invariant-search : goal.invariant-search
invariant-search l = (l.line ≤ l.count) × NoneBelow l.list l.old l.v l.z (2 * l.line)

abbrev pub decreases-search : goal.decreases-search
decreases-search l = l.count - l.line
