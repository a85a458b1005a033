-- What the loops of `decide_rows::rows` keep.
use Rattle.lines.specs.Line.{lines_of}
use Rattle.steps.specs.Step.{steps_of}
use Rattle.decide_rows.specs.Rows.{Turn}
use Rattle.decide_rows.proofs.rows.Given as goal

-- Rows 0 to k stand one behind the other.
abbrev pub invariant-loop-k : goal.invariant-loop-k
invariant-loop-k l = Turn (steps_of (lines_of l.list)) l.size l.u l.initial.work l.work l.k
