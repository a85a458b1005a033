-- What the loops of `differences_model::write_plain_model` keep.
use mathlib.Core.Path.{◌≡◌}
use mathlib.Core.List.{◌++◌}
use lib.ListN.{drop}
use Rattle.integers.specs.Sequence.{tabulate}
use Rattle.theory_bounds.specs.Table.{table_model}
use Rattle.theory_differences.specs.Distances.{doubled}
use Rattle.decide_stored_table.specs.Table.{table_of}
use Rattle.differences_model.proofs.write_plain_model.Given as goal

-- The first k values are written, and what lies beyond is as it was.
abbrev pub invariant-loop-k : goal.invariant-loop-k
invariant-loop-k l = l.model ≡ tabulate l.k (table_model l.n (doubled (table_of l.n l.table))) ++ drop l.k l.initial.model
