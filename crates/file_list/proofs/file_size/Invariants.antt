-- What the loop of `file_list::file_size` keeps.
use Rattle.file_list.specs.Putting.{LinesEnded}
use Rattle.file_list.proofs.file_size.Given as goal

-- the records of the first k lines end at `size`
abbrev pub invariant-loop-k : goal.invariant-loop-k
invariant-loop-k l = LinesEnded l.list l.k l.size
