-- What the loops of `session_distances::first_beyond` keep.
use mathlib.Core.Bool.{not}
use lib.ListN.{length}
use Rattle.integers.specs.Lowest.{Searched}
use Rattle.session_distances.specs.Distances.{distance_at}
use Rattle.session_distances.proofs.first_beyond.Given as goal

-- No place before i is found.
abbrev pub invariant-loop-i : goal.invariant-loop-i
invariant-loop-i l = Searched (λ j. not (distance_at l.table j)) (length l.table) l.i
