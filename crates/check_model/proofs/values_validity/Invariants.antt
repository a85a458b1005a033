-- What the loop of `check_model::values_validity` keeps.
use mathlib.Core.Path.{◌≡◌}
use lib.ListN.{drop}
use Rattle.check_model.specs.Model.{values_validity_lem}
use Rattle.check_model.proofs.values_validity.Given as goal

-- what is found from value i on is what is found from the first
abbrev pub invariant-loop-i : goal.invariant-loop-i
invariant-loop-i l = values_validity_lem 0 l.model ≡ values_validity_lem l.i (drop l.i l.model)
