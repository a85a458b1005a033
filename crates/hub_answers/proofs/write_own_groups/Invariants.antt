-- What the loops of `hub_answers::write_own_groups` keep.
use mathlib.Core.Path.{◌≡◌}
use Prim.Native.Nat.{◌*◌, ◌≤◌}
use lib.ListN.{length}
use Rattle.integers.specs.Fill.{filled}
use Rattle.theory_hub.specs.Hub.{own_group}
use Rattle.hub_answers.proofs.write_own_groups.Given as goal

-- `hub_answers::write_own_groups` meets its contract. The invariant: the groups of the first x variables are written.
abbrev pub invariant-loop-x : goal.invariant-loop-x
invariant-loop-x l = (l.x ≤ l.n) × (length l.groups ≡ length l.initial.groups) × (l.groups ≡ filled own_group l.initial.groups (2 * l.x))
