-- What the loop of `session_kept::give_groups` keeps: the first i numbers are written.
use mathlib.Core.Path.{◌≡◌}
use Rattle.integers.specs.Fill.{filled}
use Rattle.session_kept.specs.Kept.{group_number}
use Rattle.session_kept.proofs.give_groups.Given as goal

abbrev pub invariant-loop-i : goal.invariant-loop-i
invariant-loop-i l = l.groups ≡ filled (group_number l.n l.kept) l.initial.groups l.i
