-- `check_model::model_validity` meets its contract: nothing that goes before the values is refused.
use borrow.Author.Tests.{eq-eqb}
use Rattle.check_model.specs.Model.{model_validity_lem}
use Rattle.check_model.proofs.model_validity.Goals as goal

pub returns : goal.returns
unfolding model_validity_lem
returns c = rw (← c.list_validity.ensures, c.in_ok-list_validity.was, eq-eqb _ _ c.if-model-n.false) c.values_validity.ensures
