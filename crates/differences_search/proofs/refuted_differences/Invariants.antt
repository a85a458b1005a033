-- What the loops of `differences_search::refuted_differences` keep.
use mathlib.Core.Path.{◌≡◌}
use Prim.Native.Nat.{◌*◌, ◌≤◌}
use Rattle.differences_search.specs.Searched.{Going}
use Rattle.differences_search.proofs.refuted_differences.Given as goal

-- The rows 0 to k stand, and no walk read back from them has shown a closed one.
abbrev pub invariant-loop-k : goal.invariant-loop-k
invariant-loop-k l = (l.refutation ≡ l.initial.refutation) × (l.due ≤ l.n) × Going l.n l.list l.initial.work l.work l.k (l.k * l.n)
