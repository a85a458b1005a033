-- What the loops of `decide_table_by_rounds::distance_table` keep.
use Rattle.lines.specs.Line.{lines_of}
use Rattle.steps.specs.Step.{steps_of}
use Rattle.decide_table_by_rounds.specs.Rounds.{Turn}
use Rattle.decide_table_by_rounds.proofs.distance_table.Given as goal

-- The table after k rounds, with nothing negative on its diagonal.
abbrev pub invariant-loop-k : goal.invariant-loop-k
invariant-loop-k l = Turn (steps_of (lines_of l.list)) l.size l.initial.work l.work l.k
