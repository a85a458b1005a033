-- What the loop of `file_list::put_numbers` keeps.
use Rattle.file_list.specs.Putting.{NumbersPut}
use Rattle.file_list.proofs.put_numbers.Given as goal

-- the first i numbers were put
abbrev pub invariant-loop-i : goal.invariant-loop-i
invariant-loop-i l = NumbersPut l.initial.out l.at l.numbers l.i l.out
