-- What the loop of `seconds::recorders_named` keeps.
use mathlib.Core.Bool.{not}
use lib.ListN.{length}
use Rattle.integers.specs.Lowest.{Searched}
use Rattle.seconds.specs.Promise.{named_at}
use Rattle.seconds.proofs.recorders_named.Given as goal

-- no event before i is found
abbrev pub invariant-loop-i : goal.invariant-loop-i
invariant-loop-i l = Searched (λ k. not (named_at l.size l.recorders k)) (length l.recorders) l.i
