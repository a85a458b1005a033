-- What the loop of `tree_lists::mask` keeps: the first i numbers are written, and the rest is as it was.
use mathlib.Core.Path.{◌≡◌}
use Rattle.integers.specs.Fill.{filled}
use Rattle.tree_lists.specs.Masked.{masked_number_lem}
use Rattle.tree_lists.proofs.mask.Given as goal

abbrev pub invariant-loop-i : goal.invariant-loop-i
invariant-loop-i l = l.out ≡ filled (masked_number_lem l.picked l.list) l.initial.out l.i
