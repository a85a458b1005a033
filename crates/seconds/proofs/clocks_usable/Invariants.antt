-- What the loop of `seconds::clocks_usable` keeps.
use mathlib.Core.Bool.{not}
use lib.ListN.{length}
use Rattle.integers.specs.Lowest.{Searched}
use Rattle.seconds.specs.Promise.{usable_at}
use Rattle.seconds.proofs.clocks_usable.Given as goal

-- no recorder before i is found
abbrev pub invariant-loop-i : goal.invariant-loop-i
invariant-loop-i l = Searched (λ k. not (usable_at l.forms l.rates k)) (length l.forms) l.i
