-- What the loops of `differences_yes::write_no_bounds` keep.
use mathlib.Core.Path.{◌≡◌}
use Prim.Native.Nat.{◌*◌}
use Rattle.integers.specs.Fill.{filled}
use Rattle.theory_differences.specs.Doubled.{absent_at}
use Rattle.differences_yes.proofs.write_no_bounds.Given as goal

-- The bounds of the first x variables are written.
abbrev pub invariant-loop-x : goal.invariant-loop-x
invariant-loop-x l = l.bounds ≡ filled absent_at l.initial.bounds (2 * l.x)
