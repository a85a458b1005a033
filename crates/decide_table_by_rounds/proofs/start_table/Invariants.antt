-- What the loops of `decide_table_by_rounds::start_table` keep.
use Rattle.decide_table_by_rounds.specs.Start.{Started}
use Rattle.decide_table_by_rounds.proofs.start_table.Given as goal

-- The rows 0 to v - 1 are written.
abbrev pub invariant-loop-v : goal.invariant-loop-v
invariant-loop-v l = Started l.size l.place l.initial.work l.work l.v
