-- What the loops of `differences_lines::first_other` keep.
use mathlib.Core.Bool.{not}
use Rattle.lines.specs.Line.{line_count}
use Rattle.integers.specs.Lowest.{Searched}
use Rattle.differences_lines.specs.Others.{difference_at}
use Rattle.differences_lines.proofs.first_other.Given as goal

-- All lines before k are differences.
abbrev pub invariant-loop-k : goal.invariant-loop-k
invariant-loop-k l = Searched (λ i. not (difference_at l.list i)) (line_count l.list) l.k
