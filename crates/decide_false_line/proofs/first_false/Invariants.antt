-- What the loops of `decide_false_line::first_false` keep.
use mathlib.Core.Path.{◌≡◌}
use lib.ListN.{drop}
use Rattle.lines.specs.Line.{lines_of}
use Rattle.theory_bounds.specs.Verdict.{first_false_lem}
use Rattle.decide_false_line.proofs.first_false.Given as goal

-- What is found from line k on is what is found from the first.
abbrev pub invariant-loop-k : goal.invariant-loop-k
invariant-loop-k l = first_false_lem 0 (lines_of l.list) ≡ first_false_lem l.k (drop l.k (lines_of l.list))
