-- What the loop of `seconds::counts_inside` keeps.
use mathlib.Core.Bool.{not}
use lib.ListN.{length}
use Rattle.integers.specs.Lowest.{Searched}
use Rattle.seconds.specs.Promise.{count_at}
use Rattle.seconds.proofs.counts_inside.Given as goal

-- no count before i is found
abbrev pub invariant-loop-i : goal.invariant-loop-i
invariant-loop-i l = Searched (λ k. not (count_at l.counts k)) (length l.counts) l.i
