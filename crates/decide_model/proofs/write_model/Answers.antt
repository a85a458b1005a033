-- `decide_model::write_model` meets its contract.
use mathlib.Core.Path.{ap, ◌∙◌}
use mathlib.Core.List.{List, ◌++◌}
use lib.IntN.{ℤ}
use lib.ListN.{drop}
use Rattle.decide_model.specs.Values.{values_are}
use Rattle.decide_model.proofs.write_model.Goals as goal

pub returns : goal.returns
returns c =
    c.write_values.ensures ∙ ap (λ (x : List ℤ). x ++ drop c.args.n c.args.model.now) (values_are c.args.n c.args.table.now c.requires.table c.requires.closed c.requires.small)
