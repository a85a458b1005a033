-- What the loop of `file_list::put_lines` keeps.
use Rattle.file_list.specs.Putting.{LinesEnded, LinesPut}
use Rattle.file_list.proofs.put_lines.Given as goal

-- the records of the first k lines were put, and end at `at`
abbrev pub invariant-loop-k : goal.invariant-loop-k
invariant-loop-k l = LinesEnded l.list l.k l.at × LinesPut l.list l.initial.out l.k l.at l.out
