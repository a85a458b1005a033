-- What the loop of `decide_written_walks::copy_numbers` keeps: the first i numbers are copied.
use Rattle.std.specs.Prelude.{◌≡◌}
use Rattle.decide_written_walks.specs.Copy.{copied_to}
use Rattle.decide_written_walks.proofs.copy_numbers.Given as goal

abbrev pub invariant-loop-i : goal.invariant-loop-i
invariant-loop-i l = l.refutation ≡ copied_to l.initial.refutation l.to l.work l.from l.i
