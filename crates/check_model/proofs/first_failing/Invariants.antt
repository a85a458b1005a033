-- What the loops of `check_model::first_failing` keep.
use mathlib.Core.Path.{◌≡◌}
use Prim.Native.Nat.{◌≤◌, ◌-◌}
use lib.ListN.{drop}
use Rattle.lines.specs.Line.{lines_of, assignment_of}
use Rattle.check_model.specs.Model.{first_failing_lem}
use Rattle.check_model.proofs.first_failing.Given as goal

-- `check_model::first_failing` meets its contract. The invariant: what is found from line k on is what is found from the first.
abbrev pub invariant-loop-k : goal.invariant-loop-k
invariant-loop-k l =
    (l.k ≤ l.count)
    × (first_failing_lem (assignment_of l.model) 0 (lines_of l.list) ≡ first_failing_lem (assignment_of l.model) l.k (drop l.k (lines_of l.list)))

abbrev pub decreases-loop-k : goal.decreases-loop-k
decreases-loop-k l = l.count - l.k
